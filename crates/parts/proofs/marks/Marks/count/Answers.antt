use Rattle.std.proofs.Common.{◌+◌, sym, arith}
use Rattle.matroid.proofs.Cards.{card_bound, card_more, card_none}
use Rattle.parts.specs.Marks.{members}
use Rattle.parts.proofs.marks.Marks.count.Goals as goal

pub loop-mark-init : goal.loop-mark-init
loop-mark-init c = sym (card_none _)

pub loop-mark-preserved : goal.loop-mark-preserved
loop-mark-preserved c = grind (arith, card_more c.loop-mark.mark-index (members c.args.self.now), c.loop-mark.invariant, c.from-count.ensures)

pub overflow_add-count : goal.overflow_add-count
overflow_add-count c = omega (arith, loop-mark-preserved c, card_bound (c.loop-mark.mark-index + 1) (members c.args.self.now), c.args.self.now.long)
