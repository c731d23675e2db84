use Rattle.matroid.proofs.deferred_acceptance_ends.Goals as goal
use Rattle.matroid.proofs.Ending.{ends_always}

pub returns : goal.returns
returns c = ends_always
