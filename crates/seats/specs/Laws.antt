-- What is proved of the seat bids, whatever was written to them. A statement takes the meaning that
-- their implementation gives to their settings. Assumes nothing.
use Rattle.std.specs.Prelude.{ℕ, Bool, List, Decides}
use Rattle.matroid.specs.Assignments.{Assignment}
use Rattle.matroid.specs.Sets.{Set}
use Rattle.parts.specs.Limits.{applications, places}
use Rattle.seats.specs.Places.{allowed}
use Rattle.seats.specs.declared.places.Places.{Places}
use Rattle.seats.specs.declared.seat_bids.SeatBids.{SeatBids}

-- A set is independent exactly when there is an assignment of different allowed places to its members.
abbrev pub SeatBidsAreAssignments : (settings : SeatBids → List Places) (independent : List Places → Set → Bool) → Type 0
SeatBidsAreAssignments settings independent = (bids : SeatBids) (S : Set) → Decides (independent (settings bids) S)
    ((place : ℕ → ℕ) × Assignment applications places (allowed bids.masks) S place)
