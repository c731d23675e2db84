use Rattle.matroid.proofs.transversals_are_matroids.Goals as goal
use Rattle.matroid.proofs.Transversals.{transversal_matroid}

pub returns : goal.returns
returns c = transversal_matroid
