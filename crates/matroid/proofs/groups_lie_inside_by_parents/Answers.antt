use Rattle.matroid.proofs.Trees.{inside_step}
use Rattle.matroid.proofs.groups_lie_inside_by_parents.Goals as goal

pub returns : goal.returns
returns c = inside_step
