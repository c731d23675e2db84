use Rattle.std.proofs.Common.{refl, rules}
use Rattle.parts.specs.Limits.{groups}
use Rattle.quotas.specs.Groups.{first_made, first_rooted}
use Rattle.quotas.proofs.quota_tree.QuotaTree.new.Goals as goal

pub invariant_of-result : goal.invariant_of-result
invariant_of-result c = record { rooted = first_rooted groups _ refl }

pub returns : goal.returns
returns c = first_made _ _ (search rules) refl refl
