use Rattle.matroid.proofs.the_list_is_best_for_side_one.Goals as goal
use Rattle.matroid.proofs.Kernels.{list_is_best}

pub returns : goal.returns
returns c = list_is_best
