use Rattle.matroid.proofs.turns_are_bounded.Goals as goal
use Rattle.matroid.proofs.Runs.{turns_bounded}

pub returns : goal.returns
returns c = turns_bounded
