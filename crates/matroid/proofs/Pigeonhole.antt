-- The pigeonhole law: where different members of S are sent to different members of U, S has no
-- more members than U. And what a set is without one number, `U ∖ eqb p`. Assumes nothing.
use Rattle.std.proofs.Common.{◌≡◌, ℕ, zero, suc, ◌<◌, ◌≤◌, eqb, inl, inr, arith}
use Rattle.std.proofs.lemmas.Bool.{cases_Bool}
use Rattle.std.proofs.lemmas.Bool.Decides.{nat_tests}
use Rattle.matroid.specs.Sets.{Set, ◌∈◌, ◌∉◌, ◌∖◌, card}
use Rattle.matroid.proofs.Cards.{card_less}

-- U without the number p lacks p, and has every other member of U
pub without_here : (U : Set) (p : ℕ) → p ∉ U ∖ eqb p
without_here U p = grind (arith, nat_tests)

pub without_other : (U : Set) (p q : ℕ) → q ∈ U → (p ≡ q → ⊥) → q ∈ U ∖ eqb p
without_other U p q member other = grind (arith, nat_tests)

pub without_parts : (U : Set) (p q : ℕ) → q ∈ U ∖ eqb p → (q ∈ U) × (p ≡ q → ⊥)
without_parts U p q member = grind (arith, nat_tests)

pub card_without : (n : ℕ) (U : Set) (p : ℕ) → p < n → p ∈ U → card n (U ∖ eqb p) < card n U
card_without n U p low member =
    card_less n (U ∖ eqb p) U (λ q h. (without_parts U p q h).0) p low member (without_here U p)

pub card_inject : (n m : ℕ) (S U : Set) (f : ℕ → ℕ)
    → ((x : ℕ) → x < n → x ∈ S → (f x < m) × (f x ∈ U))
    → ((x y : ℕ) → x < n → y < n → x ∈ S → y ∈ S → f x ≡ f y → x ≡ y)
    → card n S ≤ card m U
unfolding card
card_inject zero m S U f sent apart = omega arith
card_inject (suc n) m S U f sent apart = elim (cases_Bool (S n)) [
  | inl last ↦
      let here : (f n < m) × (f n ∈ U) = sent n (omega arith) last in
      let before : card n S ≤ card m (U ∖ eqb (f n)) = card_inject n m S (U ∖ eqb (f n)) f
      (λ x h member. (
        (sent x (omega arith) member).0,
        without_other U (f n) (f x) (sent x (omega arith) member).1
            (λ same. let e : n ≡ x = apart n x (omega arith) (omega arith) last member same in omega arith),
      ))
      (λ x y h k. apart x y (omega arith) (omega arith)) in
      let less : card m (U ∖ eqb (f n)) < card m U = card_without m U (f n) here.0 here.1 in
      rw last (omega arith)
  | inr out ↦
      let before : card n S ≤ card m U =
      card_inject n m S U f (λ x h. sent x (omega arith)) (λ x y h k. apart x y (omega arith) (omega arith)) in
      rw out (omega arith)
]
