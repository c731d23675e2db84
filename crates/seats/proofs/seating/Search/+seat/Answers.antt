use Rattle.std.proofs.Common.{◌≡◌, ℕ, sym, ◌∙◌, arith}
use Rattle.matroid.specs.Sets.{card}
use Rattle.parts.specs.Limits.{places}
use Rattle.seats.specs.Places.{bit}
use Rattle.seats.proofs.Trials.{Trial, trial_at, trial_free, trial_leaves, trial_less, trial_lost, trial_lost_less, trial_moved, trial_proper}
use Rattle.seats.proofs.seating.Search.+seat.Goals as goal
use Rattle.seats.proofs.seating.Search.+seat.Goals.{After-replace-former}

-- the trial of the place found
trial_made : {t : ℕ} (c : After-replace-former t) → Trial c.args.self.now.masks.now c.loop-place.self.masks.now c.args.self.now.seats.holders
    c.loop-place.self.seats.holders c.args.self.now.untried.0 c.loop-place.self.untried.0 c.without-self.result.0 c.args.asked c.from-spot.result
trial_made c =
    trial_at c.requires c.loop-place.invariant (omega arith) c.from.ensures c.in-Some.ensures c.from-spot.ensures c.without-self.ensures

pub returns-in_default-former : goal.returns-in_default-former
returns-in_default-former t c = rw c.replace-former.ensures.after
    (trial_free (trial_made (goal.at.returns-in_default-former t c).After-replace-former) (sym c.in_default-former.is ∙ c.replace-former.ensures.value))

pub seat-requires : goal.seat-requires
seat-requires t c =
    let trial = trial_made (goal.at.seat-requires t c).After-replace-former in
    let start : card places (bit c.args.self.now.untried.0) ≡ t = c.decreases in
    (rw (← start) (trial_less trial), rw c.replace-former.ensures.after (trial_proper trial, trial_leaves trial c.in-Some-former.ensures.value))

pub returns-then-seat : goal.returns-then-seat
returns-then-seat t c = trial_moved (trial_made (goal.at.returns-then-seat t c).After-replace-former) c.in-Some-former.ensures.value
    (rw c.replace-former.ensures.after at c.if-seat.ensures)

pub loop-place-smaller : goal.loop-place-smaller
loop-place-smaller t c = trial_lost_less (trial_made (goal.at.loop-place-smaller t c).After-replace-former) c.in-Some-former.ensures.value
    (rw c.replace-former.ensures.after at c.if-seat.ensures)

pub loop-place-preserved : goal.loop-place-preserved
loop-place-preserved t c = trial_lost (trial_made (goal.at.loop-place-preserved t c).After-replace-former) c.in-Some-former.ensures.value
    (rw c.replace-former.ensures.after at c.if-seat.ensures)
