-- The sets whose members can be given different allowed places are the independent sets of a
-- matroid. For the exchange law take assignments s of S and u of U, which has more members. Some
-- member t of U has a place under u that no member of S has under s. If t is not in S, then it joins
-- S with that place. If it is, then it moves to that place, so that s and u differ at one member of
-- S less, and the same is done again. Assumes nothing.
use Rattle.std.proofs.Common.{◌≡◌, ℕ, zero, suc, ◌<◌, ◌≤◌, Bool, true, false, ◌&&◌, eqb, sym, ◌∙◌, inl, inr, arith}
use Rattle.std.proofs.lemmas.Bool.{and_parts, both_ways, cases_Bool, eqb-false, eqb-true, false≢true, ne_eqb, true_from_ne_false}
use Rattle.std.proofs.lemmas.Bool.Decides.{nat_tests}
use Rattle.matroid.specs.Sets.{Set, ◌∈◌, ◌∉◌, ◌⊆◌, ∅, ◌∖◌, add, card}
use Rattle.matroid.specs.Matroids.{Matroid}
use Rattle.matroid.specs.Assignments.{Assignment, assignable}
use Rattle.matroid.specs.Tests.{some}
use Rattle.matroid.proofs.Cards.{add_other, card_less}
use Rattle.matroid.proofs.Every.{latest, latest_passes, some_at, some_from}
use Rattle.matroid.proofs.Pigeonhole.{card_inject}
use Rattle.matroid.proofs.Sets.{outside_from, outside_parts}
use Rattle.matroid.proofs.Assignments.{assignable_by_assignment, assigned_part, assigned_put, put, put_here, put_other}

-- x is a member of S at the place p
abbrev holds : Set → (ℕ → ℕ) → ℕ → Set
holds S s p x = S x && eqb (s x) p

-- the numbers that have one place under both
abbrev alike : (s u : ℕ → ℕ) → Set
alike s u x = eqb (s x) (u x)

-- the members of S that have another place under s than under u
abbrev moved : Set → (s u : ℕ → ℕ) → Set
moved S s u = S ∖ alike s u

module _ (n m : ℕ) (allowed : ℕ → ℕ → Bool) (S U : Set) (u : ℕ → ℕ)
    (u_assigned : Assignment n m allowed U u) (more : card n S < card n U) where
  -- no member of S is at the place p
  abbrev Vacant : (ℕ → ℕ) → ℕ → Type 0
  Vacant s p = (x : ℕ) → x < n → x ∈ S → s x ≡ p → ⊥

  -- if the place of each member of U had a member of S, then U would have no more members than S
  all_held : (s : ℕ → ℕ) → ((t : ℕ) → t < n → t ∈ U → (x : ℕ) × (x < n) × (x ∈ holds S s (u t))) → ⊥
  all_held s held =
      let most : card n U ≤ card n S = card_inject n n U S at_place
      (λ t low member. ((found t low member).0, (and_parts (S (at_place t)) _ (found t low member).1).0)) injective in
      omega arith
    where
      at_place : ℕ → ℕ
      at_place t = latest n (holds S s (u t))

      found : (t : ℕ) → t < n → t ∈ U → (at_place t < n) × (at_place t ∈ holds S s (u t))
      found t low member = let (x, below, there) = held t low member in latest_passes n (holds S s (u t)) x below there

      place_of : (t : ℕ) → t < n → t ∈ U → s (at_place t) ≡ u t
      place_of t low member = eqb-true (s (at_place t)) (u t) (and_parts (S (at_place t)) _ (found t low member).1).1

      injective : (t v : ℕ) → t < n → v < n → t ∈ U → v ∈ U → at_place t ≡ at_place v → t ≡ v
      injective t v lt lv mt mv same = u_assigned.different t v lt lv mt mv
          (let et = place_of t lt mt in let ev = place_of v lv mv in cc)

  -- some member of U has a place that no member of S has
  vacancy : (s : ℕ → ℕ) → (t : ℕ) × (t < n) × (t ∈ U) × Vacant s (u t)
  vacancy s = elim (cases_Bool (some n (U ∖ held))) [
    | inl passes ↦
        let (t, low, both) = some_at n (U ∖ held) passes in
        let (member, none) = outside_parts U held t both in
        (t, low, member, vacant t none)
    | inr fails ↦ absurd (all_held s (λ t low member. some_at n (holds S s (u t)) (true_from_ne_false (held t)
        (λ none. both_ways (some n (U ∖ held)) fails (some_from n (U ∖ held) t low (outside_from U held t member none))))))
  ]
    where
      held : Set
      held t = some n (holds S s (u t))

      vacant : (t : ℕ) → held t ≡ false → Vacant s (u t)
      vacant t none x low member same = grind (arith, nat_tests, some_from n (holds S s (u t)) x low)

  -- when t moves from another place to its place under u, fewer members have another place than under u
  fewer_moved : (s : ℕ → ℕ) (t : ℕ) → t < n → t ∈ S → (s t ≡ u t → ⊥)
      → card n (moved S (put s t (u t)) u) < card n (moved S s u)
  fewer_moved s t low member away = card_less n (moved S s' u) (moved S s u) part t low
      (outside_from S (alike s u) t member (ne_eqb (s t) (u t) away))
      (grind (arith, nat_tests, put_here s t (u t)))
    where
      s' : ℕ → ℕ
      s' = put s t (u t)

      part : moved S s' u ⊆ moved S s u
      part x h =
          let (within, differs) = outside_parts S (alike s' u) x h in
          let same = put_other s t (u t) x (λ e. eqb-false (s' x) (u x) differs (rw e (put_here s t (u t)))) in
          outside_from S (alike s u) x within (rw same at differs)

  -- some member of U outside S joins S with a place
  abbrev Joins : Type 0
  Joins = (x : ℕ) × (x < n) × (x ∈ U) × (x ∉ S) × (place : ℕ → ℕ) × Assignment n m allowed (add S x) place

  joins : (bound : ℕ) (s : ℕ → ℕ) → Assignment n m allowed S s → card n (moved S s u) < bound → Joins
  joins zero s assigned few = absurd (omega arith)
  joins (suc bound) s assigned few = elim (cases_Bool (S t)) [
    | inl member ↦ joins bound (put s t (u t)) (takes S (λ x h within ne. within))
        (omega (arith, fewer_moved s t low member (vacant t low member)))
    | inr out ↦ (t, low, within, out, put s t (u t), takes (add S t) (λ x h old ne. sym (add_other S t x ne) ∙ old))
  ]
    where
      t : ℕ
      t = (vacancy s).0

      low : t < n
      low = (vacancy s).1

      within : t ∈ U
      within = (vacancy s).2

      vacant : Vacant s (u t)
      vacant = (vacancy s).3

      takes : (V : Set) → ((x : ℕ) → x < n → x ∈ V → (x ≡ t → ⊥) → x ∈ S) → Assignment n m allowed V (put s t (u t))
      takes V part = assigned_put m allowed n n S V s t (u t) (λ x h member ne. (h, part x h member ne))
          (u_assigned.within t low within) (u_assigned.allows t low within) vacant assigned

module _ (n m : ℕ) (allowed : ℕ → ℕ → Bool) where
  -- S has an assignment
  abbrev Placed : Set → Type 0
  Placed S = (place : ℕ → ℕ) × Assignment n m allowed S place

  placed_of : (S : Set) → assignable n m allowed S ≡ true → Placed S
  placed_of S = (assignable_by_assignment n m allowed S).0

  of_placed : (S : Set) → Placed S → assignable n m allowed S ≡ true
  of_placed S = (assignable_by_assignment n m allowed S).1

  placed_empty : Placed ∅
  placed_empty = (
    λ _. 0,
    record {
      within = λ x h member. absurd (false≢true member);
      allows = λ x h member. absurd (false≢true member);
      different = λ x y hx hy member. absurd (false≢true member);
    },
  )

  pub transversal_matroid : Matroid n (assignable n m allowed)
  transversal_matroid = record {
    empty = of_placed ∅ placed_empty;
    subset = λ S U part passes. let (place, assigned) = placed_of U passes in
        of_placed S (place, assigned_part m allowed n n S U place (λ x h member. (h, part x member)) assigned);
    exchange = λ S U passS passU more.
        let (s, s_assigned) = placed_of S passS in
        let (u, u_assigned) = placed_of U passU in
        let (x, low, member, out, place, assigned) = joins n m allowed S U u u_assigned more
        (suc (card n (moved S s u))) s s_assigned (omega arith) in
        (x, low, member, out, of_placed (add S x) (place, assigned));
  }
