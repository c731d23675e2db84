use Rattle.std.proofs.Common.{arith}
use Rattle.std.proofs.lemmas.Bool.{both_ways}
use Rattle.parts.proofs.Rows.{marked_below}
use Rattle.clearing.proofs.Running.{running_cleared, running_few, running_first, running_less, running_next}
use Rattle.clearing.proofs.deferred.clear.Goals as goal

pub loop-first-init : goal.loop-first-init
loop-first-init g c = running_first _ _ _ _ c.none-struck.ensures

pub returns-then-is_same : goal.returns-then-is_same
returns-then-is_same g c =
    let all = rw (c.of-first.ensures.same, c.of-second.ensures.same) at
    (running_cleared _ _ _ c.of-first.ensures.lawful c.of-second.ensures.lawful (marked_below c.args.live.now) _ _
    c.loop-first.invariant _ _ c.turn-made.ensures (c.is_same.ensures.0 c.if-is_same.true)) in
    record { ends = all.ends; bounded = all.bounded; clearing = all }

pub overflow_add-turns : goal.overflow_add-turns
overflow_add-turns g c = omega (
  arith,
  running_few _ _ _ c.of-first.ensures.lawful c.of-second.ensures.lawful
      (marked_below c.args.live.now) _ _ c.loop-first.invariant,
)

pub loop-first-smaller : goal.loop-first-smaller
loop-first-smaller g c = running_less _ _ _ c.of-first.ensures.lawful c.of-second.ensures.lawful (marked_below c.args.live.now) _ _
    c.loop-first.invariant _ _ c.turn-made.ensures (λ same. both_ways c.is_same.result c.if-is_same.false (c.is_same.ensures.1 same))

pub loop-first-preserved : goal.loop-first-preserved
loop-first-preserved g c = running_next _ _ _ _ _ c.loop-first.invariant _ _ c.turn-made.ensures
    (λ same. both_ways c.is_same.result c.if-is_same.false (c.is_same.ensures.1 same))
