use Rattle.clearing.specs.Orders.{InOrder}
use Rattle.clearing.specs.Sides.{side_of}
use Rattle.clearing.proofs.Greedy.{Chosen}
use Rattle.parts.specs.Marks.{members}
use Rattle.clearing.proofs.choice.Ordered.choose.Given as goal

abbrev pub invariant-loop-application : goal.invariant-loop-application
invariant-loop-application g l =
    let side = side_of g.R.Part.settings g.R.Rule.independent g.K.Part.settings g.K.Ranking.before l.self.side.now in
    InOrder side.precedes l.self.order → Chosen side l.self.order (members l.offered) (members l.chosen) l.application-index
