-- The members of a set that lie below a number, as the number rises. Assumes nothing.
use Rattle.std.proofs.Common.{◌≡◌, ℕ, ◌+◌, ◌<◌, true, false, ◌&&◌, ltb, inl, inr, arith}
use mathlib.Core.Path.{fun_ext}
use Rattle.std.proofs.lemmas.Bool.{cases_Bool, cases_eq}
use Rattle.std.proofs.lemmas.Bool.Decides.{nat_tests}
use Rattle.matroid.specs.Sets.{Set, ◌∈◌, ◌∉◌, ∅, add, Below}

-- the members of S below n
abbrev pub front : Set → ℕ → Set
front S n x = S x && ltb x n

module _ (S : Set) where
  pub front_none : front S 0 ≡ ∅
  front_none = fun_ext (λ x. grind (arith, nat_tests))

  pub front_lacks : (n : ℕ) → n ∉ front S n
  front_lacks n = grind (arith, nat_tests)

  pub front_adds : (n : ℕ) → n ∈ S → add (front S n) n ≡ front S (n + 1)
  front_adds n member = fun_ext (λ x. elim (cases_eq x n) [
    | inl e ↦ let here : S x ≡ true = rw e member in grind (arith, nat_tests)
    | inr ne ↦ grind (arith, nat_tests)
  ])

  pub front_skips : (n : ℕ) → n ∉ S → front S n ≡ front S (n + 1)
  front_skips n out = fun_ext (λ x. elim (cases_eq x n) [
    | inl e ↦ let here : S x ≡ false = rw e out in grind (arith, nat_tests)
    | inr ne ↦ grind (arith, nat_tests)
  ])

  pub front_all : (n : ℕ) → Below n S → front S n ≡ S
  front_all n below = fun_ext (λ x. elim (cases_Bool (S x)) [
    | inl member ↦ let low : x < n = below x member in grind (arith, nat_tests)
    | inr out ↦ grind (arith, nat_tests)
  ])
