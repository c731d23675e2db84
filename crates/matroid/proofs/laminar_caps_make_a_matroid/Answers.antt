use Rattle.matroid.proofs.laminar_caps_make_a_matroid.Goals as goal
use Rattle.matroid.proofs.LaminarCaps.{laminar_matroid}

pub returns : goal.returns
returns c = laminar_matroid
