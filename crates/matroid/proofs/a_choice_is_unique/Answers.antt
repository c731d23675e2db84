use Rattle.matroid.proofs.a_choice_is_unique.Goals as goal
use Rattle.matroid.proofs.Substitution.{choice_once}

pub returns : goal.returns
returns c = choice_once
