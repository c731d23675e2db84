use Rattle.matroid.proofs.a_choice_exists.Goals as goal
use Rattle.matroid.proofs.Choosing.{choice_exists}

pub returns : goal.returns
returns c = choice_exists
