use Rattle.std.proofs.Common.{◌≡◌, ℕ, ◌<◌, length, get_or}
use Rattle.matroid.specs.Sets.{card, ◌∩◌}
use Rattle.parts.specs.Limits.{groups}
use Rattle.parts.specs.Marks.{members}
use Rattle.quotas.specs.Quotas.{belonging}
use Rattle.quotas.proofs.quota_tree.QuotaTree.count_members.Given as goal

abbrev pub invariant-loop-home : goal.invariant-loop-home
invariant-loop-home l = (g : ℕ) → g < groups → get_or l.counts g 0 ≡ card (length l.yielded) (members l.marked ∩ belonging l.self.quotas g)
