use Rattle.matroid.specs.Sets.{card}
use Rattle.parts.specs.Limits.{places}
use Rattle.seats.specs.Places.{bit}
use Rattle.seats.proofs.Trials.{Underway}
use Rattle.seats.proofs.seating.Search.+seat.Given as goal

-- fewer and fewer places are untried
abbrev pub decreases-seat : goal.decreases-seat
decreases-seat l = card places (bit l.self.now.untried.0)

abbrev pub invariant-loop-place : goal.invariant-loop-place
invariant-loop-place l = Underway l.initial.self.masks.now l.self.masks.now l.initial.self.seats.holders l.self.seats.holders
    l.initial.self.untried.0 l.self.untried.0

abbrev pub decreases-loop-place : goal.decreases-loop-place
decreases-loop-place l = card places (bit l.self.untried.0)
