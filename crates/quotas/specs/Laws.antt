-- What is proved of a quota tree, whatever was written to it. A statement takes the meaning that the
-- tree's implementation gives to its settings. Assumes nothing.
use Rattle.std.specs.Prelude.{ℕ, ◌<◌, ◌≤◌, Bool, Decides}
use Rattle.matroid.specs.Sets.{Set, card, ◌∩◌}
use Rattle.parts.specs.Limits.{applications, groups}
use Rattle.quotas.specs.Quotas.{belonging, cap_of}
use Rattle.quotas.specs.declared.quota_tree.QuotaTree.{QuotaTree}
use Rattle.quotas.specs.declared.quota_tree.quotas.Quotas.{Quotas}

-- A set is independent exactly when no group has more of its members than the group's cap.
abbrev pub QuotasAreCaps : (settings : QuotaTree → Quotas) → (independent : Quotas → Set → Bool) → Type 0
QuotasAreCaps settings independent = (tree : QuotaTree) (S : Set) → Decides (independent (settings tree) S)
    ((g : ℕ) → g < groups → card applications (S ∩ belonging tree.quotas g) ≤ cap_of tree.quotas g)
