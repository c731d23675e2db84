use Rattle.matroid.proofs.choice_is_kept_in_a_part.Goals as goal
use Rattle.matroid.proofs.Substitution.{choice_from_a_part}

pub returns : goal.returns
returns c = choice_from_a_part
