-- Sets of application numbers, and how many members a set has. Assumes nothing.
use Rattle.std.specs.Prelude.{◌≡◌, ℕ, zero, suc, ◌+◌, ◌<◌, Bool, true, false, cond, not, ◌&&◌, ◌||◌, ◌==◌}

infixl 45 ◌∩◌
infixl 40 ◌∪◌ ◌∖◌
infix 25 ◌∈◌ ◌∉◌ ◌⊆◌
-- a set of numbers, by its test for membership
abbrev pub Set : Type 0
Set = ℕ → Bool

abbrev pub ◌∈◌ : ℕ → Set → Type 0
x ∈ S = S x ≡ true

abbrev pub ◌∉◌ : ℕ → Set → Type 0
x ∉ S = S x ≡ false

abbrev pub ◌⊆◌ : Set → Set → Type 0
S ⊆ U = (x : ℕ) → x ∈ S → x ∈ U

abbrev pub ∅ : Set
∅ x = false

abbrev pub ◌∪◌ : Set → Set → Set
(S ∪ U) x = S x || U x

abbrev pub ◌∩◌ : Set → Set → Set
(S ∩ U) x = S x && U x

abbrev pub ◌∖◌ : Set → Set → Set
(S ∖ U) x = S x && not (U x)

-- S with the number x
abbrev pub add : Set → ℕ → Set
add S x y = S y || y == x

-- every member lies below n
abbrev pub Below : ℕ → Set → Type 0
Below n S = (x : ℕ) → x ∈ S → x < n

-- the number of members below n
unfoldable pub card : ℕ → Set → ℕ
card zero S = 0
card (suc n) S = card n S + cond (S n) 1 0
