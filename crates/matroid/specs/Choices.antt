-- The choice of a side from a set. Assumes nothing.
use Rattle.std.specs.Prelude.{◌≡◌, ℕ, ◌&&◌}
use Rattle.matroid.specs.Sets.{Set, add}
use Rattle.matroid.specs.Matroids.{Side}

-- the members of K that precede x
abbrev pub preceding : Side → Set → ℕ → Set
preceding side K x y = K y && side.precedes y x

-- K is the choice of the side from A: K holds x exactly when x is in A and the members of K that
-- precede x, together with x, are independent.
abbrev pub Choice : Side → Set → Set → Type 0
Choice side A K = (x : ℕ) → K x ≡ (A x && side.independent (add (preceding side K x) x))
