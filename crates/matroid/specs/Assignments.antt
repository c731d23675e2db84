-- Assignments of places to the members of a set. Assumes nothing.
use Rattle.std.specs.Prelude.{◌≡◌, ℕ, zero, suc, ◌<◌, Bool, true, cond, ◌&&◌, nat_eq}
use Rattle.matroid.specs.Sets.{Set, ◌∈◌, ◌∖◌}
use Rattle.matroid.specs.Tests.{some}

-- An assignment gives each member of S below n a place below m that it is allowed, and different
-- members different places.
pub record Assignment (n m : ℕ) (allowed : ℕ → ℕ → Bool) (S : Set) (place : ℕ → ℕ) : Type 0 where
  pub within : (x : ℕ) → x < n → x ∈ S → place x < m
  pub allows : (x : ℕ) → x < n → x ∈ S → allowed x (place x) ≡ true
  pub different : (x y : ℕ) → x < n → y < n → x ∈ S → y ∈ S → place x ≡ place y → x ≡ y

-- The members of S below n can be given different free places, each allowed: the last of them some
-- free place, and the others, in the same way, what is free without it.
unfoldable pub placeable : (n m : ℕ) (allowed : ℕ → ℕ → Bool) (S free : Set) → Bool
placeable zero m allowed S free = true
placeable (suc n) m allowed S free =
    cond (S n) (some m (λ p. free p && allowed n p && placeable n m allowed S (free ∖ nat_eq p))) (placeable n m allowed S free)

-- the members of S below n can be given different places below m, each allowed
abbrev pub assignable : (n m : ℕ) (allowed : ℕ → ℕ → Bool) → Set → Bool
assignable n m allowed S = placeable n m allowed S (λ _. true)
