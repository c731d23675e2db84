-- Rows of marks, one for each application, as sets. Assumes nothing.
use Rattle.std.proofs.Common.{◌≡◌, ℕ, ◌<◌, ◌≤◌, false, length, get_or, replicate, sym, ap, ◌∙◌, inl, inr, arith}
use mathlib.Core.Path.{fun_ext}
use Rattle.std.proofs.lemmas.List.{ext_get_or, get_or_past, get_or-replicate, length-replicate}
use Rattle.std.proofs.lemmas.Bool.{both_ways, cases_lt}
use Rattle.matroid.specs.Sets.{Set, ◌∉◌, ∅, Below}
use Rattle.parts.specs.Limits.{applications}
use Rattle.parts.specs.Marks.{members}
use Rattle.parts.specs.declared.marks.Marks.{Marks}

-- a row has no members past its end
pub unmarked_past : (marks : Marks) (x : ℕ) → applications ≤ x → x ∉ members marks
unmarked_past marks x past = get_or_past marks.row x false (omega (arith, marks.long))

pub marked_below : (marks : Marks) → Below applications (members marks)
marked_below marks x marked = elim (cases_lt x applications)
    [ inl below ↦ below | inr past ↦ absurd (both_ways (members marks x) (unmarked_past marks x past) marked) ]

-- Marks stand for a set where their members below the number of applications are the same, and the
-- set has no others.
pub stands_for : (marks : Marks) (S : Set) → ((x : ℕ) → applications ≤ x → x ∉ S)
    → ((x : ℕ) → x < applications → members marks x ≡ S x) → members marks ≡ S
stands_for marks S none same = fun_ext (λ x. elim (cases_lt x applications)
    [ inl below ↦ same x below | inr past ↦ unmarked_past marks x past ∙ sym (none x past) ])

-- a row without a mark stands for the empty set
pub no_members : (marks : Marks) (n : ℕ) → marks.row ≡ replicate n false → members marks ≡ ∅
no_members marks n none = fun_ext (λ x. ap (λ row. get_or row x false) none ∙ elim (cases_lt x n) [
  | inl below ↦ get_or-replicate n x false false below
  | inr past ↦ get_or_past (replicate n false) x false (omega (arith, length-replicate n false))
])

-- rows that stand for one set are equal
pub same_row : (a b : Marks) → members a ≡ members b → a.row ≡ b.row
same_row a b same = ext_get_or false a.row b.row (a.long ∙ sym b.long) (λ x h. ap (λ S. S x) same)
