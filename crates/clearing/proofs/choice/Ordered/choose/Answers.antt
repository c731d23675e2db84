use Rattle.std.proofs.Props.{props}
use Rattle.std.proofs.Common.{◌∙◌, ap, sym}
use Rattle.std.proofs.Math.Logic.{∥∥₁_elim}
use Rattle.std.proofs.lemmas.Bool.{and_from, and_left, and_right}
use Rattle.parts.specs.Marks.{members}
use Rattle.parts.proofs.Rows.{marked_below}
use Rattle.clearing.proofs.Greedy.{chosen_all, chosen_left, chosen_none, chosen_taken}
use Rattle.clearing.proofs.choice.Ordered.choose.Goals as goal
use Rattle.clearing.proofs.choice.Ordered.choose.Goals.{then-contains+then-allows, else-contains, else-contains-via-then-contains+else-allows, else-contains-via-else-contains}

pub loop-application-init : goal.loop-application-init
loop-application-init g c in_order = chosen_none _ _ _ _ c.none-chosen.ensures

pub loop-application-preserved : goal.loop-application-preserved
loop-application-preserved g c in_order =
    let order = g.met.K.Ranking.order _ (g.met.K.Part.settings_sound c.args.self.now.side.now.ranking.now) in
    let so_far = c.loop-application.invariant in_order in
    elim c.if-contains.branch [
      | then-contains+then-allows w ↦ chosen_taken _ order _ in_order _ _ _ c.loop-application-test.true so_far _
          (ap members w.chosen-is ∙ w.insert.ensures)
          (and_from _ _ (sym c.contains.ensures ∙ w.if-contains.true) (sym w.allows.ensures ∙ w.if-allows.true))
      | else-contains w ↦ chosen_left _ order _ in_order _ _ _ c.loop-application-test.true so_far _ (ap members w.chosen-is)
          (elim w.else-contains.branch [
            | else-contains-via-then-contains+else-allows v ↦ and_right _ _ (sym v.allows.ensures ∙ v.if-allows.false)
            | else-contains-via-else-contains v ↦ and_left _ _ (sym c.contains.ensures ∙ v.if-contains.false)
          ])
    ]

pub returns : goal.returns
returns g c =
    let order = g.met.K.Ranking.order _ (g.met.K.Part.settings_sound c.args.self.now.side.now.ranking.now) in
    ∥∥₁_elim c.args.self.now.in_order (Prim.hlevel props) (λ in_order. chosen_all _ order _ in_order _ _
    (marked_below c.args.offered.now) _ c.loop-application-test.false (c.loop-application.invariant in_order))
