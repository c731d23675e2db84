use Rattle.std.proofs.Common.{◌-◌}
use Rattle.matroid.specs.Sets.{card}
use Rattle.parts.specs.Limits.{applications}
use Rattle.parts.specs.Marks.{members}
use Rattle.clearing.specs.Sides.{side_of}
use Rattle.clearing.proofs.Running.{Running}
use Rattle.clearing.proofs.deferred.clear.Given as goal

abbrev pub invariant-loop-first : goal.invariant-loop-first
invariant-loop-first g l = Running (side_of g.R1.Part.settings g.R1.Rule.independent g.K1.Part.settings g.K1.Ranking.before l.first.side.now)
    (side_of g.R2.Part.settings g.R2.Rule.independent g.K2.Part.settings g.K2.Ranking.before l.second.side.now)
    (members l.live) l.turns (members l.struck)

abbrev pub decreases-loop-first : goal.decreases-loop-first
decreases-loop-first g l = applications - card applications (members l.struck)
