-- How many members a set has below n: of equal sets as many, of a part no more, with one new
-- member one more, never more than n, and in two parts together as many as in the whole. Assumes nothing.
use Rattle.std.proofs.Common.{◌≡◌, ℕ, zero, suc, ◌+◌, ◌<◌, ◌≤◌, Bool, cond, ◌⊎◌, refl, ap, inl, inr, add-one, arith}
use Rattle.std.proofs.lemmas.Bool.{cases_eq}
use Rattle.std.proofs.lemmas.Bool.Decides.{nat_tests}
use Rattle.matroid.specs.Sets.{Set, ◌∈◌, ◌∉◌, ◌⊆◌, ∅, ◌∩◌, ◌∖◌, add, card}

pub card_same : (n : ℕ) (S U : Set) → ((x : ℕ) → x < n → S x ≡ U x) → card n S ≡ card n U
unfolding card
card_same zero S U same = refl
card_same (suc n) S U same = grind (arith, card_same n S U (λ x h. same x (omega arith)), same n)

pub card_empty : (n : ℕ) → card n ∅ ≡ 0
unfolding card
card_empty zero = refl
card_empty (suc n) = rw (card_empty n)

pub card_mono : (n : ℕ) (S U : Set) → S ⊆ U → card n S ≤ card n U
unfolding card
card_mono zero S U part = omega arith
card_mono (suc n) S U part = grind (arith, card_mono n S U part, part n)

-- the new member of `add S x`
pub add_here : (S : Set) (x : ℕ) → x ∈ add S x
add_here S x = grind (arith, nat_tests)

-- every other number is in `add S x` where it is in S
pub add_other : (S : Set) (x y : ℕ) → (y ≡ x → ⊥) → add S x y ≡ S y
add_other S x y other = grind (arith, nat_tests)

pub card_add : (n : ℕ) (S : Set) (x : ℕ) → x < n → x ∉ S → card n (add S x) ≡ card n S + 1
unfolding card
card_add zero S x h out = absurd (omega arith)
card_add (suc n) S x h out = elim (cases_eq x n) [ inl e ↦ last e | inr ne ↦ earlier ne (card_add n S x (omega arith) out) ]
  where
    last : x ≡ n → card (suc n) (add S x) ≡ card (suc n) S + 1
    last e =
        let before : card n (add S x) ≡ card n S = card_same n (add S x) S (λ y k. add_other S x y (λ q. omega arith)) in
        grind (arith, nat_tests, before)

    earlier : (x ≡ n → ⊥) → card n (add S x) ≡ card n S + 1 → card (suc n) (add S x) ≡ card (suc n) S + 1
    earlier ne before = grind (arith, add_other S x n)

-- a part that holds x, with x added, is still a part
pub add_part : (S U : Set) (x : ℕ) → S ⊆ U → x ∈ U → add S x ⊆ U
add_part S U x part within = grind (arith, nat_tests)

pub card_less : (n : ℕ) (S U : Set) → S ⊆ U → (x : ℕ) → x < n → x ∈ U → x ∉ S → card n S < card n U
card_less n S U part x h within out =
    grind (arith, card_add n S x, card_mono n (add S x) U, add_part S U x part within)

pub card_bound : (n : ℕ) (S : Set) → card n S ≤ n
unfolding card
card_bound zero S = omega arith
card_bound (suc n) S = grind (arith, card_bound n S)

same_or_not : (a b : Bool) → (a ≡ b → ⊥) ⊎ (a ≡ b)
same_or_not a b = grind arith

-- two sets differ at a number below n, or they are the same below n
pub different_below : (n : ℕ) (S U : Set) → ((x : ℕ) × (x < n) × (S x ≡ U x → ⊥)) ⊎ ((x : ℕ) → x < n → S x ≡ U x)
different_below zero S U = inr (λ x h. absurd (omega arith))
different_below (suc n) S U = elim (different_below n S U) [ inl d ↦ inl (d.0, omega arith, d.2) | inr same ↦ here same ]
  where
    here : ((x : ℕ) → x < n → S x ≡ U x) → ((x : ℕ) × (x < suc n) × (S x ≡ U x → ⊥)) ⊎ ((x : ℕ) → x < suc n → S x ≡ U x)
    here same = elim (same_or_not (S n) (U n)) [
      | inl differ ↦ inl (n, omega arith, differ)
      | inr equal ↦ inr (λ x h. grind (arith, same x))
    ]

pub card_split : (n : ℕ) (S M : Set) → card n S ≡ card n (S ∩ M) + card n (S ∖ M)
unfolding card
card_split zero S M = refl
card_split (suc n) S M = grind (arith, card_split n S M)

-- a set of more members has one that the other lacks
pub card_finds : (n : ℕ) (S U : Set) → card n S < card n U → (x : ℕ) × (x < n) × (x ∈ U) × (x ∉ S)
unfolding card
card_finds zero S U more = absurd (omega arith)
card_finds (suc n) S U more = grind (arith, card_finds n S U)

-- the count from the start, one number after the other
pub card_none : (S : Set) → card 0 S ≡ 0
unfolding card
card_none S = refl

pub card_more : (n : ℕ) (S : Set) → card (n + 1) S ≡ card n S + cond (S n) 1 0
unfolding card
card_more n S = ap (λ m. card m S) (add-one n)

pub card_next : (n : ℕ) (S : Set) (b : Bool) (count : ℕ) → count ≡ card n S → S n ≡ b → count + cond b 1 0 ≡ card (n + 1) S
card_next n S b count so_far here =
    grind (arith, card_more n S)
