-- The quota tree: its settings, what they mean, and what a write makes of them. Assumes nothing.
use Rattle.std.specs.Prelude.{ℕ, ◌-◌, ◌<◌, Bool, cond, ◌&&◌, replicate, nat_le, nat_lt, slice_index_or, slice_set, Ok}
use Rattle.std.proofs.Math.Decide.{dec_lt}
use Rattle.std.proofs.Common.{lit<}
use Rattle.matroid.specs.Sets.{Set}
use Rattle.matroid.specs.Laminar.{within_caps}
use Rattle.matroid.specs.Trees.{inside}
use Rattle.parts.specs.Limits.{applications, groups}
use Rattle.parts.specs.Outcomes.{Outcome, refuses}
use Rattle.parts.specs.Numbers.{Group}
use Rattle.quotas.specs.declared.quota_tree.quotas.Quota.{Quota}
use Rattle.quotas.specs.declared.quota_tree.quotas.Quotas.{Quotas}
use Rattle.parts.specs.declared.refusal.Cause.TheVariants.{UnusedKey, ValueAboveLimit, ParentNotSmaller}

-- group 0, above all the others
abbrev pub root : Group
root = record { number = 0; within = lit< tt }

-- the group of a number below 128; any other number gives group 0
abbrev pub numbered : (number : ℕ) → Dec (number < 128) → Group
numbered number (yes within) = record { number = number; within = within }
numbered number (no beyond) = root

abbrev pub group_of : ℕ → Group
group_of number = numbered number (dec_lt number 128)

-- what every group starts with
abbrev pub first_quota : Quota
first_quota = record { «cap» = record { 0 = 256 }; parent = root }

-- what a quota tree starts with
abbrev pub first_quotas : Quotas
first_quotas = record { groups = replicate groups first_quota; homes = replicate applications root }

abbrev pub cap_of : Quotas → ℕ → ℕ
cap_of q g = (slice_index_or q.groups g first_quota).«cap».0

abbrev pub parent_of : Quotas → ℕ → ℕ
parent_of q g = (slice_index_or q.groups g first_quota).parent.number

abbrev pub home_of : Quotas → ℕ → ℕ
home_of q c = (slice_index_or q.homes c root).number

-- the applications that belong to a group: their home is the group or lies below it
abbrev pub belonging : Quotas → ℕ → Set
belonging q g c = inside (parent_of q) (home_of q c) g

-- a set is independent exactly when no group has more of its members than the group's cap
abbrev pub keeps_quotas : Quotas → Set → Bool
keeps_quotas q = within_caps applications groups (belonging q) (cap_of q)

-- the settings with another cap of group g, another parent of group g, another home of application c
abbrev pub with_cap : Quotas → ℕ → ℕ → Quotas
with_cap q g most = record { groups = slice_set q.groups g (record { «cap» = record { 0 = most }; parent = (slice_index_or q.groups g first_quota).parent }); homes = q.homes }

abbrev pub with_parent : Quotas → ℕ → Group → Quotas
with_parent q g parent = record { groups = slice_set q.groups g (record { «cap» = (slice_index_or q.groups g first_quota).«cap»; parent = parent }); homes = q.homes }

abbrev pub with_home : Quotas → ℕ → Group → Quotas
with_home q c home = record { groups = q.groups; homes = slice_set q.homes c home }

-- key g, from 0 to 127, sets the cap of group g, to 256 at most
abbrev pub cap_written : Quotas → ℕ → ℕ → Outcome Quotas
cap_written q key value = cond (nat_le value 256) (Ok (with_cap q key value)) (refuses ValueAboveLimit key)

-- key 128 + g, with g from 1 to 127, sets the parent of group g, to a smaller group
abbrev pub parent_written : Quotas → ℕ → ℕ → Outcome Quotas
parent_written q key value =
    cond (nat_le value 127)
    (cond (nat_lt value (key - 128)) (Ok (with_parent q (key - 128) (group_of value))) (refuses ParentNotSmaller key))
    (refuses ValueAboveLimit key)

-- key 256 + c sets the home of application c, to any group
abbrev pub home_written : Quotas → ℕ → ℕ → Outcome Quotas
home_written q key value =
    cond (nat_le value 127) (Ok (with_home q (key - 256) (group_of value))) (refuses ValueAboveLimit key)

-- what comes of a write; key 128 has no use, since group 0 has no parent, and no key from 512 on has one
abbrev pub quotas_written : Quotas → ℕ → ℕ → Outcome Quotas
quotas_written q key value =
    cond (nat_lt key 128) (cap_written q key value)
    (cond (nat_lt 128 key && nat_lt key 256) (parent_written q key value)
    (cond (nat_le 256 key && nat_lt key 512) (home_written q key value)
    (refuses UnusedKey key)))
