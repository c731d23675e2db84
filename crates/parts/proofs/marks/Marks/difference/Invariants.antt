use Rattle.std.proofs.Common.{◌≡◌, ℕ, false, not, ◌&&◌, nat_lt, length, get_or}
use Rattle.parts.specs.Marks.{members}
use Rattle.parts.specs.Limits.{applications}
use Rattle.parts.proofs.marks.Marks.difference.Given as goal

abbrev pub invariant-loop-place : goal.invariant-loop-place
invariant-loop-place l = (length l.row ≡ applications)
    × ((x : ℕ) → get_or l.row x false ≡ (members l.self x && not (nat_lt x l.place && members l.other x)))
