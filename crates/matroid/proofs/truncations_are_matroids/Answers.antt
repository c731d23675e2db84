use Rattle.matroid.proofs.truncations_are_matroids.Goals as goal
use Rattle.matroid.proofs.Truncations.{truncation_matroid}

pub returns : goal.returns
returns c = truncation_matroid
