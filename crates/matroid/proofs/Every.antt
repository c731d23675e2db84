-- What `every` and `some` say: the test passes at each number below the bound, or at one of them,
-- which `latest` finds. Assumes nothing.
use Rattle.std.proofs.Common.{◌≡◌, ℕ, zero, suc, ◌<◌, Bool, true, false, cond, not, ◌&&◌, ◌||◌, refl, inl, inr, arith}
use Rattle.std.proofs.Math.Bool.{and_comm}
use Rattle.std.proofs.lemmas.Bool.{both_ways, cases_Bool, false_from_ne_true}
use Rattle.std.proofs.lemmas.Bool.Decides.{Decides-below_and, Decides-below_or}
use Rattle.std.specs.Prelude.{Decides}
use Rattle.matroid.specs.Tests.{every, some}

every_decides : (m : ℕ) (test : ℕ → Bool) → Decides (every m test) ((g : ℕ) → g < m → test g ≡ true)
unfolding every
every_decides m test = Decides-below_and test (λ g. test g ≡ true) (λ k. every k test)
    (λ g. (λ h. h, λ h. h)) refl (λ k. and_comm (every k test) (test k)) m

pub every_at : (m : ℕ) (test : ℕ → Bool) → every m test ≡ true → (g : ℕ) → g < m → test g ≡ true
every_at m test = (every_decides m test).0

pub every_from : (m : ℕ) (test : ℕ → Bool) → ((g : ℕ) → g < m → test g ≡ true) → every m test ≡ true
every_from m test = (every_decides m test).1

pub every_not : (m : ℕ) (test : ℕ → Bool) (g : ℕ) → g < m → test g ≡ false → every m test ≡ false
every_not m test g l fails =
    false_from_ne_true (every m test) (λ passes. both_ways (test g) fails (every_at m test passes g l))

pub every_same : (m : ℕ) (p q : ℕ → Bool) → ((g : ℕ) → g < m → p g ≡ q g) → every m p ≡ every m q
unfolding every
every_same zero p q same = refl
every_same (suc m) p q same =
    let before : every m p ≡ every m q = every_same m p q (λ g l. same g (omega arith)) in
    let here : p m ≡ q m = same m (omega arith) in
    cc

-- not all fail where the last one passes or not all before it fail
not_all_fail : (before last : Bool) → not (before && not last) ≡ (last || not before)
not_all_fail before last = grind arith

some_decides : (m : ℕ) (test : ℕ → Bool) → Decides (some m test) ((g : ℕ) × (g < m) × (test g ≡ true))
unfolding every
some_decides m test = Decides-below_or test (λ g. test g ≡ true) (λ k. some k test)
    (λ g. (λ h. h, λ h. h)) refl (λ k. not_all_fail (every k (λ x. not (test x))) (test k)) m

pub some_at : (m : ℕ) (test : ℕ → Bool) → some m test ≡ true → (g : ℕ) × (g < m) × (test g ≡ true)
some_at m test = (some_decides m test).0

pub some_from : (m : ℕ) (test : ℕ → Bool) (g : ℕ) → g < m → test g ≡ true → some m test ≡ true
some_from m test g l passes = (some_decides m test).1 (g, l, passes)

-- the last number below m that passes the test
unfoldable pub latest : ℕ → (ℕ → Bool) → ℕ
latest zero test = 0
latest (suc m) test = cond (test m) m (latest m test)

pub latest_passes : (m : ℕ) (test : ℕ → Bool) (g : ℕ) → g < m → test g ≡ true
    → (latest m test < m) × (test (latest m test) ≡ true)
unfolding latest
latest_passes zero test g l passes = absurd (omega arith)
latest_passes (suc m) test g l passes = elim (cases_Bool (test m)) [
  | inl here ↦ rw here (omega arith, here)
  | inr fails ↦
      let other : g ≡ m → ⊥ = λ e. both_ways (test g) (rw e fails) passes in
      let (low, found) = latest_passes m test g (omega arith) passes in
      rw fails (omega arith, found)
]
