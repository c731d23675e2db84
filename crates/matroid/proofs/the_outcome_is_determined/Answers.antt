use Rattle.matroid.proofs.the_outcome_is_determined.Goals as goal
use Rattle.matroid.proofs.Once.{ends_once}

pub returns : goal.returns
returns c = ends_once
