use Rattle.std.proofs.Common.{◌≡◌}
use Rattle.parts.specs.Marks.{members}
use Rattle.seats.specs.Seatings.{Seating}
use Rattle.seats.proofs.Fronts.{front}
use Rattle.seats.proofs.seat_bids.SeatBids.assignment.Given as goal

-- the marked applications so far are seated, by the masks that stood at first
abbrev pub invariant-loop-application : goal.invariant-loop-application
invariant-loop-application l =
    (l.search.masks.now ≡ l.self.masks) × Seating l.self.masks l.search.seats.holders (front (members l.marked) l.application-index)
