-- Laws of sets: two sets with the same members are equal, and the members of a difference. Assumes nothing.
use Rattle.std.proofs.Common.{◌≡◌, ℕ, ◌<◌, arith}
use mathlib.Core.Path.{fun_ext}
use Rattle.matroid.specs.Sets.{Set, ◌∈◌, ◌∉◌, ◌⊆◌, ◌∖◌, Below}

pub same_set : (S U : Set) → S ⊆ U → U ⊆ S → S ≡ U
same_set S U there back = fun_ext (λ x. grind (arith, there x, back x))

-- sets that lie below n are equal if they are the same below n
pub same_below : (n : ℕ) (S U : Set) → Below n S → Below n U → ((x : ℕ) → x < n → S x ≡ U x) → S ≡ U
same_below n S U S_below U_below same = fun_ext (λ x. grind (arith, S_below x, U_below x, same x))

-- the members of a difference
pub outside_from : (S U : Set) (x : ℕ) → x ∈ S → x ∉ U → x ∈ S ∖ U
outside_from S U x member out = grind arith

pub outside_parts : (S U : Set) (x : ℕ) → x ∈ S ∖ U → (x ∈ S) × (x ∉ U)
outside_parts S U x h = grind arith
