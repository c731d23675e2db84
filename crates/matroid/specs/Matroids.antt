-- Matroids and strict orders over the numbers below n, and a side of a clearing. Assumes nothing.
use Rattle.std.specs.Prelude.{◌≡◌, ℕ, ◌<◌, Bool, true, false, ◌⊎◌, ◌≢◌}
use Rattle.matroid.specs.Sets.{Set, ◌∈◌, ◌∉◌, ◌⊆◌, ∅, add, card}

-- A matroid, by its test for independence: the empty set is independent; every subset of an
-- independent set is; of two independent sets of different size some member of the larger
-- outside the smaller can join the smaller.
pub record Matroid (n : ℕ) (independent : Set → Bool) : Type 0 where
  pub empty : independent ∅ ≡ true
  pub subset : (S U : Set) → S ⊆ U → independent U ≡ true → independent S ≡ true
  pub exchange : (S U : Set) → independent S ≡ true → independent U ≡ true → card n S < card n U
      → (x : ℕ) × (x < n) × (x ∈ U) × (x ∉ S) × (independent (add S x) ≡ true)

-- A strict order, by its test for precedence: no number precedes itself, precedence passes on,
-- and of two different numbers one precedes the other.
pub record StrictOrder (n : ℕ) (precedes : ℕ → ℕ → Bool) : Type 0 where
  pub irreflexive : (x : ℕ) → x < n → precedes x x ≡ false
  pub transitive : (x y z : ℕ) → x < n → y < n → z < n
      → precedes x y ≡ true → precedes y z ≡ true → precedes x z ≡ true
  pub total : (x y : ℕ) → x < n → y < n → (x ≢ y) → (precedes x y ≡ true) ⊎ (precedes y x ≡ true)

-- One side of a clearing: the sets that its rule can accept, and its ranking.
pub record Side : Type 0 where
  pub independent : Set → Bool
  pub precedes : ℕ → ℕ → Bool

-- A side that keeps the laws: its rule is a matroid, its ranking a strict order.
pub record Lawful (n : ℕ) (side : Side) : Type 0 where
  pub matroid : Matroid n side.independent
  pub order : StrictOrder n side.precedes
