-- Assignments of places: a part of an assigned set keeps its places; a member can be given a place
-- that no other member has; the test `placeable` tells whether there is an assignment; and Hall's
-- obstruction, that where the members who fill some places are allowed no others, no other member
-- can be placed there. Assumes nothing.
use Rattle.std.proofs.Common.{◌≡◌, ℕ, zero, suc, ◌<◌, ◌≤◌, Bool, true, cond, ◌&&◌, eqb, sym, refl, ◌∙◌, inl, inr, arith}
use Rattle.std.proofs.lemmas.Bool.{and_from, and_parts, both_ways, cases_Bool, cases_eq}
use Rattle.std.proofs.lemmas.Bool.Decides.{nat_tests}
use Rattle.matroid.specs.Sets.{Set, ◌∈◌, ◌∉◌, ◌∖◌, card}
use Rattle.matroid.specs.Assignments.{Assignment, placeable}
use Rattle.matroid.specs.Theorems.{AssignableByAssignment}
use Rattle.matroid.proofs.Every.{some_at, some_from}
use Rattle.matroid.proofs.Pigeonhole.{card_inject, card_without, without_other, without_parts}

-- the places, with p as the place of t
unfoldable pub put : (ℕ → ℕ) → (t p : ℕ) → ℕ → ℕ
put place t p x = cond (eqb x t) p (place x)

pub put_here : (place : ℕ → ℕ) (t p : ℕ) → put place t p t ≡ p
unfolding put
put_here place t p = grind (arith, nat_tests)

pub put_other : (place : ℕ → ℕ) (t p x : ℕ) → (x ≡ t → ⊥) → put place t p x ≡ place x
unfolding put
put_other place t p x other = grind (arith, nat_tests)

module _ (m : ℕ) (allowed : ℕ → ℕ → Bool) where
  -- what lies within an assigned set keeps the same places
  pub assigned_part : (n k : ℕ) (S U : Set) (place : ℕ → ℕ) → ((x : ℕ) → x < k → x ∈ S → (x < n) × (x ∈ U))
      → Assignment n m allowed U place → Assignment k m allowed S place
  assigned_part n k S U place part assigned = record {
    within = λ x h member. assigned.within x (part x h member).0 (part x h member).1;
    allows = λ x h member. assigned.allows x (part x h member).0 (part x h member).1;
    different = λ x y hx hy mx my. assigned.different x y
        (part x hx mx).0 (part y hy my).0 (part x hx mx).1 (part y hy my).1;
  }

  -- t, new or not, takes an allowed place that no member has, and the others keep theirs
  pub assigned_put : (n k : ℕ) (S U : Set) (place : ℕ → ℕ) (t p : ℕ)
      → ((x : ℕ) → x < k → x ∈ U → (x ≡ t → ⊥) → (x < n) × (x ∈ S))
      → p < m → allowed t p ≡ true → ((x : ℕ) → x < n → x ∈ S → place x ≡ p → ⊥)
      → Assignment n m allowed S place → Assignment k m allowed U (put place t p)
  assigned_put n k S U place t p part low fits empty assigned = record {
    within = λ x h member. elim (cases_eq x t) [
      | inl e ↦ rw (here x e) low
      | inr ne ↦ let (below, old) = part x h member ne in rw (put_other place t p x ne) (assigned.within x below old)
    ];
    allows = λ x h member. elim (cases_eq x t) [
      | inl e ↦ rw (here x e, e) fits
      | inr ne ↦ let (below, old) = part x h member ne in rw (put_other place t p x ne) (assigned.allows x below old)
    ];
    different = λ x y hx hy mx my same. elim (cases_eq x t) [
      | inl ex ↦ elim (cases_eq y t) [
        | inl ey ↦ ex ∙ sym ey
        | inr ny ↦ absurd (apart y hy my ny (sym same ∙ here x ex))
      ]
      | inr nx ↦ elim (cases_eq y t) [
        | inl ey ↦ absurd (apart x hx mx nx (same ∙ here y ey))
        | inr ny ↦
            let (belowx, oldx) = part x hx mx nx in
            let (belowy, oldy) = part y hy my ny in
            assigned.different x y belowx belowy oldx oldy (sym (put_other place t p x nx) ∙ same ∙ put_other place t p y ny)
      ]
    ];
  }
    where
      here : (x : ℕ) → x ≡ t → put place t p x ≡ p
      here x e = rw e (put_here place t p)

      apart : (x : ℕ) → x < k → x ∈ U → (x ≡ t → ⊥) → put place t p x ≡ p → ⊥
      apart x h member ne same =
          let (below, old) = part x h member ne in
          empty x below old (sym (put_other place t p x ne) ∙ same)

  -- the members of S below n have free places
  abbrev Free : ℕ → Set → Set → (ℕ → ℕ) → Type 0
  Free n S free place = (x : ℕ) → x < n → x ∈ S → place x ∈ free

  -- an assignment of free places
  abbrev Placing : ℕ → Set → Set → Type 0
  Placing n S free = (place : ℕ → ℕ) × Assignment n m allowed S place × Free n S free place

  -- where n is no member, the places of the members before it are all
  placing_skips : (n : ℕ) (S free : Set) → n ∉ S → Placing n S free → Placing (suc n) S free
  placing_skips n S free out (place, assigned, others) = (
    place,
    assigned_part n (suc n) S S place (λ x h member. (before x h member, member)) assigned,
    λ x h member. others x (before x h member) member,
  )
    where
      before : (x : ℕ) → x < suc n → x ∈ S → x < n
      before x h member =
          let other : x ≡ n → ⊥ = λ e. both_ways (S x) (rw e out) member in
          omega arith

  -- a free place for n, and places for the members before it that are free without that one
  placing_puts : (n : ℕ) (S free : Set) (p : ℕ) → p < m → p ∈ free → allowed n p ≡ true
      → Placing n S (free ∖ eqb p) → Placing (suc n) S free
  placing_puts n S free p low vacant fits (place, assigned, others) = (
    put place n p,
    assigned_put n (suc n) S S place n p (λ x h member ne. (omega arith, member)) low fits
        (λ x h member same. (avoids x h member).1 (sym same)) assigned,
    all,
  )
    where
      avoids : (x : ℕ) → x < n → x ∈ S → (place x ∈ free) × (p ≡ place x → ⊥)
      avoids x h member = without_parts free p (place x) (others x h member)

      all : Free (suc n) S free (put place n p)
      all x h member = elim (cases_eq x n) [
        | inl e ↦ rw (e, put_here place n p) vacant
        | inr ne ↦ rw (put_other place n p x ne) (avoids x (omega arith) member).0
      ]

  -- the test of a place for n
  abbrev fitting : ℕ → Set → Set → ℕ → Bool
  fitting n S free p = free p && allowed n p && placeable n m allowed S (free ∖ eqb p)

  -- what passes the test has an assignment of free places, and the other way round
  placing_of : (n : ℕ) (S free : Set) → placeable n m allowed S free ≡ true → Placing n S free
  unfolding placeable
  placing_of zero S free passes = (λ _. 0, none, λ x h member. absurd (omega arith))
    where
      none : Assignment 0 m allowed S (λ _. 0)
      none = record {
        within = λ x h member. absurd (omega arith);
        allows = λ x h member. absurd (omega arith);
        different = λ x y h. absurd (omega arith);
      }
  placing_of (suc n) S free passes = elim (cases_Bool (S n)) [
    | inl last ↦
        let (p, low, both) = some_at m (fitting n S free) (rw last at passes) in
        let (first, rest) = and_parts (free p && allowed n p) (placeable n m allowed S (free ∖ eqb p)) both in
        let (vacant, fits) = and_parts (free p) (allowed n p) first in
        placing_puts n S free p low vacant fits (placing_of n S (free ∖ eqb p) rest)
    | inr out ↦ placing_skips n S free out (placing_of n S free (rw out at passes))
  ]

  of_placing : (n : ℕ) (S free : Set) (place : ℕ → ℕ) → Assignment n m allowed S place → Free n S free place
      → placeable n m allowed S free ≡ true
  unfolding placeable
  of_placing zero S free place assigned all = refl
  of_placing (suc n) S free place assigned all = elim (cases_Bool (S n)) [
    | inl last ↦
        let test : fitting n S free (place n) ≡ true = and_from (free (place n) && allowed n (place n)) _
        (and_from (free (place n)) (allowed n (place n)) (all n (omega arith) last) (assigned.allows n (omega arith) last))
        (of_placing n S (free ∖ eqb (place n)) place before (avoids last)) in
        rw last (some_from m (fitting n S free) (place n) (assigned.within n (omega arith) last) test)
    | inr out ↦ rw out (of_placing n S free place before (λ x h. all x (omega arith)))
  ]
    where
      before : Assignment n m allowed S place
      before = assigned_part (suc n) n S S place (λ x h member. (omega arith, member)) assigned

      avoids : n ∈ S → Free n S (free ∖ eqb (place n)) place
      avoids last x h member = without_other free (place n) (place x) (all x (omega arith) member)
          (λ same. let e : n ≡ x = assigned.different n x (omega arith) (omega arith) last member same in omega arith)

pub assignable_by_assignment : AssignableByAssignment
assignable_by_assignment n m allowed S = (
  λ passes. let (place, assigned, all) = placing_of m allowed n S (λ _. true) passes in (place, assigned),
  λ (place, assigned). of_placing m allowed n S (λ _. true) place assigned (λ x h member. refl),
)

-- Hall's obstruction: t cannot be placed where every place that it is allowed is full, and the holders
-- of the full places, all different from t and from one another, are allowed full places alone.
pub crowded : (n m : ℕ) (allowed : ℕ → ℕ → Bool) (S full : Set) (holder : ℕ → ℕ) (t : ℕ) → t < n → t ∈ S
    → ((p : ℕ) → p < m → p ∈ full → (holder p < n) × (holder p ∈ S) × (holder p ≡ t → ⊥)
    × ((q : ℕ) → q < m → allowed (holder p) q ≡ true → q ∈ full))
    → ((p q : ℕ) → p < m → q < m → p ∈ full → q ∈ full → holder p ≡ holder q → p ≡ q)
    → ((q : ℕ) → q < m → allowed t q ≡ true → q ∈ full)
    → (place : ℕ → ℕ) → Assignment n m allowed S place → ⊥
crowded n m allowed S full holder t low member held apart only place assigned =
    let most : card m full ≤ card m (full ∖ eqb (place t)) =
    card_inject m m full (full ∖ eqb (place t)) (λ p. place (holder p)) sent injective in
    let less : card m (full ∖ eqb (place t)) < card m full =
    card_without m full (place t) (assigned.within t low member) (lands t low member only) in
    omega arith
  where
    lands : (x : ℕ) → x < n → x ∈ S → ((q : ℕ) → q < m → allowed x q ≡ true → q ∈ full) → place x ∈ full
    lands x h within all = all (place x) (assigned.within x h within) (assigned.allows x h within)

    sent : (p : ℕ) → p < m → p ∈ full → (place (holder p) < m) × (place (holder p) ∈ full ∖ eqb (place t))
    sent p h filled =
        let (below, within, other, all) = held p h filled in (
          assigned.within (holder p) below within,
          without_other full (place t) (place (holder p)) (lands (holder p) below within all)
              (λ same. other (assigned.different (holder p) t below low within member (sym same))),
        )

    injective : (p q : ℕ) → p < m → q < m → p ∈ full → q ∈ full → place (holder p) ≡ place (holder q) → p ≡ q
    injective p q hp hq fp fq same = apart p q hp hq fp fq
        (assigned.different (holder p) (holder q) (held p hp fp).0 (held q hq fq).0 (held p hp fp).1 (held q hq fq).1 same)
