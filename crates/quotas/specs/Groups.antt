-- Groups are told apart by their numbers, a quota tree starts as it should, and a write keeps parents
-- smaller. Assumes nothing.
use Rattle.std.specs.Prelude.{◌≡◌, ℕ, ◌<◌, List, length, get_or, replicate, IfOk, slice_index_or, slice_set}
use Rattle.std.proofs.Common.{ap₂, arith}
use mathlib.Core.HLevel.{is_prop→PathP}
use Rattle.std.proofs.Math.Bridge.{le_prop}
use Rattle.std.proofs.lemmas.List.{get_or_default}
use Rattle.std.proofs.lemmas.Grind.{common_steps}
use Rattle.matroid.specs.Trees.{Rooted}
use Rattle.parts.specs.Numbers.{Group}
use Rattle.quotas.specs.declared.quota_tree.quotas.Quota.{Quota}
use Rattle.quotas.specs.declared.quota_tree.quotas.Quotas.{Quotas}
use Rattle.parts.specs.Limits.{applications, groups}
use Rattle.parts.specs.Outcomes.{Outcome}
use Rattle.quotas.specs.Quotas.{first_quota, first_quotas, group_of, parent_of, quotas_written, root}

same_group : (g h : Group) → g.number ≡ h.number → g ≡ h
same_group g h e i = record { number = e i; within = is_prop→PathP (λ j. e j < 128) (λ j. le_prop) g.within h.within i }

-- `group_of` gives the group of every number below 128
number_again : (n : ℕ) → n < 128 → (group_of n).number ≡ n
number_again n within = grind arith

-- the group of a group's number is that group
pub group_again : (g : Group) → group_of g.number ≡ g
group_again g = same_group (group_of g.number) g (number_again g.number g.within)

-- the parent of a group, in a table of groups
abbrev parent_in : List Quota → ℕ → ℕ
parent_in table g = (get_or table g first_quota).parent.number

-- the record that stands at a group has a smaller parent
pub rooted_at : (table : List Quota) (g : ℕ) (old : Quota) → Rooted (parent_in table) → old ≡ slice_index_or table g first_quota
    → 0 < g → old.parent.number < g
rooted_at table g old rooted is above = rw is (rooted g above)

-- within the table that is so whatever stands for a record past its end
pub rooted_within : (table : List Quota) (g : ℕ) (any : Quota) → Rooted (parent_in table) → g < length table → 0 < g
    → (get_or table g any).parent.number < g
rooted_within table g any rooted within = rooted_at table g (get_or table g any) rooted (get_or_default table g any first_quota within)

-- a table of smaller parents, with a record for one group whose parent is smaller too
pub rooted_set : (table : List Quota) (g : ℕ) (new : Quota) → Rooted (parent_in table)
    → (g < length table → 0 < g → new.parent.number < g) → Rooted (parent_in (slice_set table g new))
rooted_set table g new rooted smaller x above = grind (arith, common_steps, smaller, rooted)

-- every group with one and the same quota, every application with one and the same home
abbrev alike : Quota → Group → Quotas
alike quota home = record { groups = replicate groups quota; homes = replicate applications home }

same_quota : (p q : Quota) → p.«cap».0 ≡ q.«cap».0 → p.parent.number ≡ q.parent.number → p ≡ q
same_quota p q caps parents i = record { «cap» = record { 0 = caps i }; parent = same_group p.parent q.parent parents i }

pub first_made : (quota : Quota) (home : Group) → quota.«cap».0 ≡ 256 → quota.parent.number ≡ 0 → home.number ≡ 0
    → alike quota home ≡ first_quotas
first_made quota home most top at_top = ap₂ alike (same_quota quota first_quota most top) (same_group home root at_top)

pub first_rooted : (n : ℕ) (quota : Quota) → quota.parent.number ≡ 0 → Rooted (parent_in (replicate n quota))
first_rooted n quota top g above = grind (arith, common_steps)

-- the outcome keeps parents smaller, if it is no refusal
abbrev KeepsRooted : Outcome Quotas → Type 0
KeepsRooted outcome = IfOk outcome (λ new. Rooted (parent_of new))

-- an accepted write keeps parents smaller
pub written_rooted : (q : Quotas) (key value : ℕ) → Rooted (parent_of q) → KeepsRooted (quotas_written q key value)
written_rooted q key value rooted = grind (arith, rooted_set, rooted_within, number_again)
