use Rattle.matroid.proofs.a_choice_spans_its_source.Goals as goal
use Rattle.matroid.proofs.Choosing.{chosen_spans}

pub returns : goal.returns
returns c = chosen_spans
