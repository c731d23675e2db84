use Rattle.matroid.proofs.a_choice_leaves_out_what_it_dominates.Goals as goal
use Rattle.matroid.proofs.Choosing.{leaves_dominated}

pub returns : goal.returns
returns c = leaves_dominated
