-- The truncation of a matroid: its independent sets of no more than so many members. Assumes nothing.
use Rattle.std.specs.Prelude.{ℕ, Bool, ◌&&◌, nat_le}
use Rattle.matroid.specs.Sets.{Set, card}

-- S is independent and has no more members, counted below n, than the cap
abbrev pub truncated : (n most : ℕ) (independent : Set → Bool) → Set → Bool
truncated n most independent S = independent S && nat_le (card n S) most
