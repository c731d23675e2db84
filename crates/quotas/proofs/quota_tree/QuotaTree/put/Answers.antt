use Rattle.std.proofs.Common.{rules}
use Rattle.quotas.specs.Groups.{rooted_set, rooted_within}
use Rattle.quotas.proofs.quota_tree.QuotaTree.put.Goals as goal

pub invariant_of-self : goal.invariant_of-self
invariant_of-self c = record { rooted = rooted_set _ _ _ c.args.self.now.rooted (rooted_within _ _ _ c.args.self.now.rooted) }

pub invariant_of-self-in-Parent : goal.invariant_of-self-in-Parent
invariant_of-self-in-Parent c = record { rooted = rooted_set _ _ _ c.args.self.now.rooted (λ within above. search rules) }
