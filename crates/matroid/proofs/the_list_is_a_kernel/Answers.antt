use Rattle.matroid.proofs.the_list_is_a_kernel.Goals as goal
use Rattle.matroid.proofs.Kernels.{list_is_a_kernel}

pub returns : goal.returns
returns c = list_is_a_kernel
