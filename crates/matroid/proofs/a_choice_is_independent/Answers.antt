use Rattle.matroid.proofs.a_choice_is_independent.Goals as goal
use Rattle.matroid.proofs.Choosing.{chosen_independent}

pub returns : goal.returns
returns c = chosen_independent
