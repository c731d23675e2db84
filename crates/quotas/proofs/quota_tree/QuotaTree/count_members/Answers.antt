use Rattle.std.proofs.Common.{sym, ◌∙◌}
use Rattle.std.proofs.lemmas.List.{get_or-replicate}
use Rattle.matroid.proofs.Cards.{card_none}
use Rattle.parts.specs.Limits.{groups}
use Rattle.quotas.proofs.quota_tree.QuotaTree.count_members.Goals as goal

pub loop-home-init : goal.loop-home-init
loop-home-init c g below = get_or-replicate groups g 0 0 below ∙ sym (card_none _)
