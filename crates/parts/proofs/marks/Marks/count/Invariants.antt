use Rattle.std.proofs.Common.{◌≡◌}
use Rattle.matroid.specs.Sets.{card}
use Rattle.parts.specs.Marks.{members}
use Rattle.parts.proofs.marks.Marks.count.Given as goal

-- the marks so far are counted
abbrev pub invariant-loop-mark : goal.invariant-loop-mark
invariant-loop-mark l = l.count ≡ card l.mark-index (members l.self)
