-- Caps over a laminar family of groups. Assumes nothing.
use Rattle.std.specs.Prelude.{ℕ, ◌<◌, Bool, ◌⊎◌, nat_le}
use Rattle.matroid.specs.Sets.{Set, ◌∈◌, ◌∉◌, ◌⊆◌, ◌∩◌, card}
use Rattle.matroid.specs.Tests.{every}

-- no group below m has more members of S, counted below n, than its cap
abbrev pub within_caps : (n m : ℕ) (group : ℕ → Set) (caps : ℕ → ℕ) → Set → Bool
within_caps n m group caps S = every m (λ g. nat_le (card n (S ∩ group g)) (caps g))

-- The groups below m are laminar, in this order: of two of them the one of larger number lies within
-- the other, or they have no member in common.
abbrev pub Laminar : ℕ → (ℕ → Set) → Type 0
Laminar m group = (g k : ℕ) → g < m → k < g → (group g ⊆ group k) ⊎ ((x : ℕ) → x ∈ group g → x ∉ group k)
