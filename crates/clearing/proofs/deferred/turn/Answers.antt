use Rattle.clearing.proofs.Running.{turn_made}
use Rattle.clearing.proofs.deferred.turn.Goals as goal

pub returns : goal.returns
returns g c = turn_made _ _ _ _ _ _ _ _ _ c.difference.ensures c.choose-offered.ensures c.union-shown.ensures
    c.choose-kept.ensures c.difference-2.ensures
