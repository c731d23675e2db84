-- Sorting makes the order: the row by number is complete, it stays so in another order, and sorted by
-- the ranking it is in order. Assumes nothing.
use Rattle.std.proofs.Common.{◌≡◌, ℕ, ◌<◌, ◌≤◌, Bool, true, false, cond, eqb, get_or, nat_lt, List, length, sym, refl, ap, ◌∙◌, inl, inr, arith, Bor, Ordering}
use Rattle.std.specs.Ordering.{is_lt}
use Rattle.std.specs.Cmp.{IsStrictWeakOrder}
use Rattle.std.specs.Fn.{Called, ComparesAs, Mut}
use Rattle.std.specs.List.{IsDistinct}
use Rattle.std.specs.List.Sorted.{IsPermutation, IsSortedBy}
use Rattle.std.proofs.lemmas.Bool.{both_ways, cases_Bool, cases_eq, cases_lt, eq-eqb, le-ltb, lt-ltb, ne_eqb}
use Rattle.std.proofs.lemmas.List.{get_or_default}
use Rattle.std.proofs.lemmas.List.Elements.{Contains-get_or}
use Rattle.std.proofs.lemmas.Map.Keys.{IsDistinct-IsPermutation, IsDistinct-from_apart, apart_from_distinct}
use Rattle.std.proofs.lemmas.List.Sorted.{All-permutation, Contains-permutation, length_permutation, sorted_far}
use Rattle.std.proofs.lemmas.Fn.{always_returns_same}
use Rattle.matroid.specs.Matroids.{StrictOrder}
use Rattle.matroid.proofs.Lasts.{asymmetric}
use Rattle.parts.specs.Limits.{applications}
use Rattle.parts.specs.declared.numbers.Application.{Application}
use Rattle.parts.specs.Rows.{number_at, AllByNumber}
use Rattle.clearing.specs.Orders.{Complete, InOrder}

pub by_number_complete : (row : List Application) → AllByNumber row → Complete row
by_number_complete row all = record {
  long = all.long;
  below = λ i h. omega (arith, all.numbered i h);
  once = λ i j h k equal. sym (all.numbered i h) ∙ equal ∙ all.numbered j k;
  stands = λ x h. (x, h, all.numbered x h);
}

-- the default does not count inside the row
number_any : (row : List Application) (i : ℕ) (d : Application) → i < length row → (get_or row i d).0 ≡ number_at row i
number_any row i d h = ap (λ (a : Application). a.0) (get_or_default row i d _ h)

abbrev same_number : Application → Application → Bool
same_number a b = eqb a.0 b.0

same_flips : (a b : Application) → same_number a b ≡ same_number b a
same_flips a b = elim (cases_eq a.0 b.0) [
  | inl e ↦ eq-eqb a.0 b.0 e ∙ sym (eq-eqb b.0 a.0 (sym e))
  | inr ne ↦ ne_eqb a.0 b.0 ne ∙ sym (ne_eqb b.0 a.0 (λ e. ne (sym e)))
]

-- the same applications in another order are as complete
sorted_complete : (row sorted : List Application) → IsPermutation row sorted → Complete row → Complete sorted
sorted_complete row sorted same complete = record {
  long = long;
  below = λ i h. All-permutation (λ (a : Application). a.0 < applications) row sorted same
      (λ k d inside. rw (number_any row k d inside) (complete.below k (omega (arith, complete.long)))) i _ (omega (arith, long));
  once = λ i j h k equal. elim (cases_lt i j) [
    | inl earlier ↦ absurd (apart i j earlier k equal)
    | inr rest ↦ elim (cases_eq i j) [ inl e ↦ e | inr ne ↦ absurd (apart j i (omega arith) h (sym equal)) ]
  ];
  stands = λ x h.
      let (i, i_below, here) = complete.stands x h in
      let (k, inside, there) = Contains-permutation row sorted _ same (Contains-get_or row i _ (omega (arith, complete.long))) in
      (k, omega (arith, long), sym (number_any sorted k _ inside) ∙ ap (λ (a : Application). a.0) there ∙ here);
}
  where
    long : length sorted ≡ applications
    long = length_permutation row sorted same ∙ complete.long

    distinct : IsDistinct same_number sorted
    distinct = IsDistinct-IsPermutation same_number same_flips row sorted same
        (IsDistinct-from_apart same_number row (λ i j d earlier inside. rw (number_any row i d (omega arith), number_any row j d inside)
        (ne_eqb _ _ (λ equal. omega (arith, complete.long, complete.once i j (omega (arith, complete.long)) (omega (arith, complete.long)) equal)))))

    apart : (i j : ℕ) → i < j → j < applications → number_at sorted i ≡ number_at sorted j → ⊥
    apart i j earlier below equal = both_ways (eqb (number_at sorted i) (number_at sorted j))
        (apart_from_distinct same_number sorted i j _ distinct earlier (omega (arith, long))) (eq-eqb _ _ equal)

-- The test that the sort goes by: as the ranking says among the applications, and any other number,
-- of which the ranking says nothing, after them.
abbrev comes_before : (before : ℕ → ℕ → Bool) → ℕ → ℕ → Bool
comes_before before x y = cond (nat_lt x applications) (cond (nat_lt y applications) (before x y) true) false

module _ (before : ℕ → ℕ → Bool) where
  within : (x y : ℕ) → x < applications → y < applications → comes_before before x y ≡ before x y
  within x y h k = rw (lt-ltb x applications h, lt-ltb y applications k) refl

  past : (x y : ℕ) → applications ≤ x → comes_before before x y ≡ false
  past x y h = rw (le-ltb x applications h) refl

  far : (x y : ℕ) → x < applications → applications ≤ y → comes_before before x y ≡ true
  far x y h k = rw (lt-ltb x applications h, le-ltb y applications k) refl

  module _ (order : StrictOrder applications before) where
    weak : IsStrictWeakOrder (λ (a b : Application). comes_before before a.0 b.0)
    weak = record {
      one_way = λ a b up. one_way a.0 b.0 up;
      chain = λ a b c first second. chain a.0 b.0 c.0 first second;
    }
      where
        one_way : (x y : ℕ) → comes_before before x y ≡ true → comes_before before y x ≡ false
        one_way x y up = elim (cases_lt x applications) [
          | inl h ↦ elim (cases_lt y applications) [
            | inl k ↦ within y x k h ∙ asymmetric applications before order x y h k (sym (within x y h k) ∙ up)
            | inr k ↦ past y x k
          ]
          | inr h ↦ absurd (both_ways (comes_before before x y) (past x y h) up)
        ]

        among : (x y z : ℕ) → x < applications → y < applications → z < applications → before x y ≡ false → before y z ≡ false
            → before x z ≡ false
        among x y z h k l first second = elim (cases_Bool (before x z)) [
          | inl up ↦ elim (cases_eq x y) [
            | inl e ↦ absurd (both_ways (before y z) second (rw (← e) up))
            | inr ne ↦ elim (order.total x y h k ne) [
              | inl early ↦ absurd (both_ways (before x y) first early)
              | inr late ↦ absurd (both_ways (before y z) second (order.transitive y x z k h l late up))
            ]
          ]
          | inr none ↦ none
        ]

        chain : (x y z : ℕ) → comes_before before x y ≡ false → comes_before before y z ≡ false → comes_before before x z ≡ false
        chain x y z first second = elim (cases_lt x applications) [
          | inl h ↦ elim (cases_lt y applications) [
            | inl k ↦ elim (cases_lt z applications) [
              | inl l ↦ within x z h l
                  ∙ among x y z h k l (sym (within x y h k) ∙ first) (sym (within y z k l) ∙ second)
              | inr l ↦ absurd (both_ways (comes_before before y z) second (far y z k l))
            ]
            | inr k ↦ absurd (both_ways (comes_before before x y) first (far x y h k))
          ]
          | inr h ↦ past x z h
        ]

    -- from what the sort ensures, where each call of its closure answers by the ranking, and between applications
    pub sorted_in_order : {F : Type 0} {g : Mut F (Bor Application × (Bor Application × Unit {0})) Ordering} {f : F} (row sorted : List Application)
        → Complete row → IsPermutation row sorted
        → ((lt : Application → Application → Bool) → IsStrictWeakOrder lt → ComparesAs g lt f → IsSortedBy lt sorted)
        → ((a : Bor Application × (Bor Application × Unit {0})) (r : Ordering) (f' : F) → Called g f a r f'
        → (is_lt r ≡ before a.0.now.0 a.1.0.now.0) × (a.0.now.0 < applications) × (a.1.0.now.0 < applications) × (f' ≡ f))
        → InOrder before sorted
    sorted_in_order {g = g} {f = f} row sorted by_number same clause calls = record {
      complete = complete;
      ordered = λ i j later below. elim (order.total (number_at sorted i) (number_at sorted j)
          (complete.below i (omega arith)) (complete.below j below)
          (λ equal. omega (arith, complete.once i j (omega arith) below equal))) [
            | inl early ↦ early
            | inr late ↦ absurd (both_ways (before (number_at sorted j) (number_at sorted i))
                (sym (within (number_at sorted j) (number_at sorted i) (complete.below j below) (complete.below i (omega arith)))
                ∙ sorted_far _ weak sorted up i j _ (omega arith) (omega (arith, complete.long))) late)
          ];
    }
      where
        complete : Complete sorted
        complete = sorted_complete row sorted same by_number

        up : IsSortedBy (λ (a b : Application). comes_before before a.0 b.0) sorted
        up = clause (λ a b. comes_before before a.0 b.0) weak (always_returns_same g (λ a r. is_lt r ≡ comes_before before a.0.now.0 a.1.0.now.0) f
            (λ a r f' call. let (is, first, second, stays) = calls a r f' call in
            (is ∙ sym (within a.0.now.0 a.1.0.now.0 first second), stays)))
