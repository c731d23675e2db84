use Rattle.std.proofs.Common.{◌≡◌, ℕ, ◌+◌, ◌<◌, cond, get_or}
use Rattle.parts.specs.Limits.{groups}
use Rattle.quotas.specs.Quotas.{parent_of}
use Rattle.quotas.proofs.WayUp.{ahead, left}
use Rattle.quotas.proofs.quota_tree.QuotaTree.count_upward.Given as goal

-- what is counted and what is still ahead come to the same all the way
abbrev pub invariant-loop-next : goal.invariant-loop-next
invariant-loop-next l = (g : ℕ) → g < groups
    → get_or l.counts g 0 + cond (ahead (parent_of l.self.quotas) l.next g) 1 0
    ≡ get_or l.initial.counts g 0 + cond (ahead (parent_of l.self.quotas) l.initial.next g) 1 0

abbrev pub decreases-loop-next : goal.decreases-loop-next
decreases-loop-next l = left l.next
