-- The groups of a quota tree are laminar, so its caps make a matroid; and the test for independence
-- says that every group keeps its cap. Assumes nothing.
use Rattle.std.specs.Prelude.{ℕ, ◌<◌, ◌≤◌, Bool, Decides, nat_le}
use Rattle.std.proofs.lemmas.Bool.{le-leb, leb-true}
use Rattle.matroid.specs.Matroids.{Matroid}
use Rattle.matroid.specs.Sets.{Set, card, ◌∩◌}
use Rattle.matroid.specs.Trees.{Rooted}
use Rattle.matroid.proofs.Every.{every_at, every_from}
use Rattle.matroid.proofs.LaminarCaps.{laminar_matroid}
use Rattle.matroid.proofs.Trees.{tree_laminar}
use Rattle.parts.specs.Limits.{applications, groups}
use Rattle.quotas.specs.Quotas.{belonging, cap_of, home_of, keeps_quotas, parent_of}
use Rattle.quotas.specs.declared.quota_tree.quotas.Quotas.{Quotas}

pub quotas_matroid : (q : Quotas) → Rooted (parent_of q) → Matroid applications (keeps_quotas q)
quotas_matroid q rooted =
    laminar_matroid applications groups (belonging q) (cap_of q) (tree_laminar (parent_of q) rooted groups (home_of q))

pub quotas_decide : (q : Quotas) (S : Set)
    → Decides (keeps_quotas q S) ((g : ℕ) → g < groups → card applications (S ∩ belonging q g) ≤ cap_of q g)
quotas_decide q S = (
  λ kept g below. leb-true (members g) (cap_of q g) (every_at groups within kept g below),
  λ kept. every_from groups within (λ g below. le-leb (members g) (cap_of q g) (kept g below)),
)
  where
    members : ℕ → ℕ
    members g = card applications (S ∩ belonging q g)

    within : ℕ → Bool
    within g = nat_le (members g) (cap_of q g)
