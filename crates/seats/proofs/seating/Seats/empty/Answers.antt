use Rattle.std.proofs.Common.{None}
use Rattle.std.proofs.lemmas.List.{get_or-replicate}
use Rattle.seats.proofs.Moves.{vacant}
use Rattle.seats.proofs.seating.Seats.empty.Goals as goal

pub returns : goal.returns
returns c = vacant _ (λ p low. get_or-replicate 32 p None None low)
