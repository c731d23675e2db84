use Rattle.std.proofs.Common.{sym, ◌∙◌, arith}
use Rattle.seats.proofs.Seated.{all_seated, next_crowded, next_seated, next_skipped, next_unseated, none_seated}
use Rattle.seats.proofs.seat_bids.SeatBids.assignment.Goals as goal
use Rattle.seats.proofs.seat_bids.SeatBids.assignment.Goals.{then-contains+in_ok-let_in, else-contains}

pub loop-application-init : goal.loop-application-init
loop-application-init c = (c.over-search.ensures.0, none_seated _ _ _ c.over-search.ensures.1)

pub let_in-requires : goal.let_in-requires
let_in-requires c = let (same, seating) = c.loop-application.invariant in
    rw same (seating.proper, next_unseated _ _ c.all.ensures c.loop-application-test.true seating)

pub returns-in_err-let_in : goal.returns-in_err-let_in
returns-in_err-let_in c = let (same, seating) = c.loop-application.invariant in
    rw c.from_residual.ensures (next_crowded _ _ c.all.ensures c.loop-application-test.true seating
    (sym c.if-contains.ensures) (rw same at c.in_err-let_in.ensures.1.1))

pub loop-application-preserved : goal.loop-application-preserved
loop-application-preserved c = let (same, seating) = c.loop-application.invariant in elim c.if-contains.branch [
  | then-contains+in_ok-let_in w ↦ rw w.search-is (
    w.in_ok-let_in.ensures.0 ∙ same,
    next_seated _ _ c.all.ensures
        c.loop-application-test.true seating (sym w.if-contains.ensures) (rw same at w.in_ok-let_in.ensures.1),
  )
  | else-contains w ↦ rw w.search-is (
    same,
    next_skipped _ _ c.all.ensures c.loop-application-test.true seating
        (sym w.if-contains.ensures),
  )
]

pub returns : goal.returns
returns c = all_seated c.args.marked.now (omega arith) c.loop-application.invariant.1
