-- The way up from a group to group 0. Assumes nothing.
use Rattle.std.specs.Prelude.{◌≡◌, ℕ, ◌<◌, Option, MatchOption}
use Rattle.parts.specs.Numbers.{Group}

-- the next group on the way up from group h: its parent, and none from group 0
abbrev pub NextUp : (ℕ → ℕ) → ℕ → Option Group → Type 0
NextUp parents h next = MatchOption next (h ≡ 0) (λ p. (0 < h) × (p.number ≡ parents h))
