use Rattle.matroid.proofs.kernels_are_alike.Goals as goal
use Rattle.matroid.proofs.Kernels.{every_kernel_is_alike}

pub returns : goal.returns
returns c = every_kernel_is_alike
