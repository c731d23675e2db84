-- A tree of groups by their parents, with group 0 at the root. Assumes nothing.
use Rattle.std.specs.Prelude.{ℕ, zero, suc, ◌<◌, Bool, ◌&&◌, ◌||◌, ◌==◌, nat_lt}

-- group g is reached from h in at most `steps` steps, each from a group to its parent
unfoldable pub climbs : (parents : ℕ → ℕ) → (steps h g : ℕ) → Bool
climbs parents zero h g = h == g
climbs parents (suc steps) h g = h == g || (nat_lt 0 h && climbs parents steps (parents h) g)

-- group h is g or lies below it; parents are smaller, so h steps lead to the top
abbrev pub inside : (ℕ → ℕ) → ℕ → ℕ → Bool
inside parents h g = climbs parents h h g

-- every group but 0 has a parent of smaller number
abbrev pub Rooted : (ℕ → ℕ) → Type 0
Rooted parents = (g : ℕ) → 0 < g → parents g < g
