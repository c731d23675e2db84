-- What a side chooses from a set it also chooses from every part of that set that holds it: the
-- members of a choice that precede a number are as many as any independent set of earlier members
-- has, and an independent set grows to the size of any other by members of that other. So a side has
-- one choice from a set. Assumes nothing.
use Rattle.std.proofs.Common.{◌≡◌, ℕ, zero, suc, ◌+◌, ◌<◌, ◌≤◌, Bool, true, inl, inr, arith}
use Rattle.std.proofs.lemmas.Bool.{and_from, and_right, or_left, both_ways, cases_lt, true_from_ne_false}
use Rattle.std.proofs.lemmas.Bool.Decides.{nat_tests}
use Rattle.matroid.specs.Sets.{Set, ◌∈◌, ◌∉◌, ◌⊆◌, ◌∪◌, add, Below, card}
use Rattle.matroid.specs.Matroids.{Matroid, Side, Lawful}
use Rattle.matroid.specs.Choices.{preceding, Choice}
use Rattle.matroid.specs.Theorems.{ChoiceFromAPart}
use Rattle.matroid.proofs.Cards.{add_part, card_add}
use Rattle.matroid.proofs.Choosing.{add_mono, chosen_fits, chosen_within, fitting_chosen, part_independent, preceding_within}
use Rattle.matroid.proofs.Sets.{same_set}

module _ (n : ℕ) (side : Side) (lawful : Lawful n side) where
  -- no independent set of members of A that precede e has more members than the choice has there
  earlier_largest : (A K : Set) → Below n A → Choice side A K → (e : ℕ) → e < n → (J : Set) → J ⊆ A
      → ((x : ℕ) → x ∈ J → side.precedes x e ≡ true) → side.independent J ≡ true
      → card n J ≤ card n (preceding side K e)
  earlier_largest A K below choice e e_below J part precede fits =
      elim (cases_lt (card n (preceding side K e)) (card n J)) [
        | inl less ↦ absurd (joins
            (lawful.matroid.exchange (preceding side K e) J (part_independent n side lawful A K below choice (preceding side K e) (preceding_within side K e)) fits less))
        | inr enough ↦ enough
      ]
    where
      shorter : (x : ℕ) → x ∈ J → preceding side K x ⊆ preceding side K e
      shorter x within y h = grind (
        arith,
        lawful.order.transitive y x e,
        below y,
        chosen_within side A K choice y,
        below x,
        part x,
        precede x,
      )

      joins : (x : ℕ) × (x < n) × (x ∈ J) × (x ∉ preceding side K e)
          × (side.independent (add (preceding side K e) x) ≡ true) → ⊥
      joins (x, x_below, within, out, joined) =
          let sooner : side.independent (add (preceding side K x) x) ≡ true = lawful.matroid.subset _ _
          (add_mono (preceding side K x) (preceding side K e) x (shorter x within)) joined in
          let chosen : x ∈ K = fitting_chosen side A K choice x (part x within) sooner in
          both_ways (preceding side K e x) out (and_from (K x) (side.precedes x e) chosen (precede x within))

-- an independent set that extends S by members of U and has no fewer members than U
record Augmented (n : ℕ) (independent : Set → Bool) (S U : Set) : Type 0 where
  set : Set
  extends : S ⊆ set
  within : set ⊆ S ∪ U
  fits : independent set ≡ true
  large : card n U ≤ card n set

module _ (n : ℕ) (independent : Set → Bool) (matroid : Matroid n independent) (U : Set) (U_fits : independent U ≡ true) where
  augmented_already : (S : Set) → independent S ≡ true → card n U ≤ card n S → Augmented n independent S U
  augmented_already S fits large = record
      { set = S; extends = λ x h. h; within = λ x h. or_left (S x) (U x) h; fits = fits; large = large }

  augmented_from_more : (S : Set) (x : ℕ) → x ∈ U → Augmented n independent (add S x) U → Augmented n independent S U
  augmented_from_more S x joins more = record {
    set = more.set;
    extends = λ y h. grind (arith, more.extends y);
    within = λ y h. grind (arith, nat_tests, more.within y);
    fits = more.fits;
    large = more.large;
  }

  augmented : (missing : ℕ) (S : Set) → independent S ≡ true → card n U ≤ card n S + missing → Augmented n independent S U
  augmented zero S fits room = augmented_already S fits (omega arith)
  augmented (suc missing) S fits room = elim (cases_lt (card n S) (card n U)) [
    | inl less ↦
        let (x, below, within, out, joined) = matroid.exchange S U fits U_fits less in
        augmented_from_more S x within (augmented missing (add S x) joined (omega (arith, card_add n S x below out)))
    | inr enough ↦ augmented_already S fits enough
  ]

-- the members of K before e, grown by those of M up to e
abbrev Grown : ℕ → Side → Set → Set → ℕ → Type 0
Grown n side K M e = Augmented n side.independent (preceding side K e) (add (preceding side M e) e)

-- If e, chosen from B, were left out of the choice from its part A, then the choice from A before
-- e would grow, by members of the choice from B up to e, to a set with more members of B before e
-- than the choice from B has there.
pub choice_from_a_part : ChoiceFromAPart
choice_from_a_part n side lawful A B K M part below from_A from_B e e_within e_chosen =
    true_from_ne_false (K e) (λ left. too_many left grown)
  where
    below_A : Below n A
    below_A x h = below x (part x h)

    grown : Grown n side K M e
    grown = augmented n side.independent lawful.matroid
        (add (preceding side M e) e) (chosen_fits side B M from_B e e_chosen) (card n (add (preceding side M e) e))
        (preceding side K e) (part_independent n side lawful A K below_A from_A (preceding side K e) (preceding_within side K e)) (omega arith)

    without_e : e ∉ K → (G : Grown n side K M e) → e ∈ G.set → ⊥
    without_e left G within = both_ways (K e) left (fitting_chosen side A K from_A e e_within
        (lawful.matroid.subset (add (preceding side K e) e) G.set
        (add_part (preceding side K e) G.set e G.extends within) G.fits))

    before_e : (S : Set) → S ⊆ B → (y : ℕ) → y ∈ preceding side S e → (y ∈ B) × (side.precedes y e ≡ true)
    before_e S inside y h = grind (arith, inside y)

    all_before_e : e ∉ K → (G : Grown n side K M e) → (y : ℕ) → y ∈ G.set → (y ∈ B) × (side.precedes y e ≡ true)
    all_before_e left G y within = grind (
      arith,
      nat_tests,
      G.within y,
      without_e left G,
      before_e K (λ x h. part x (chosen_within side A K from_A x h)) y,
      before_e M (chosen_within side B M from_B) y,
    )

    too_many : e ∉ K → Grown n side K M e → ⊥
    too_many left G =
        let most : card n G.set ≤ card n (preceding side M e) =
        earlier_largest n side lawful B M below from_B e (below_A e e_within) G.set
        (λ y h. (all_before_e left G y h).0) (λ y h. (all_before_e left G y h).1) G.fits in
        let one_more : card n (add (preceding side M e) e) ≡ card n (preceding side M e) + 1 =
        card_add n (preceding side M e) e (below_A e e_within)
        (and_right (M e) (side.precedes e e) (lawful.order.irreflexive e (below_A e e_within))) in
        omega (arith, G.large)

pub choice_once : (n : ℕ) (side : Side) → Lawful n side → (A K M : Set) → Below n A
    → Choice side A K → Choice side A M → K ≡ M
choice_once n side lawful A K M below from_K from_M = same_set K M (chosen_again K M from_K from_M) (chosen_again M K from_M from_K)
  where
    chosen_again : (J I : Set) → Choice side A J → Choice side A I → J ⊆ I
    chosen_again J I from_J from_I x chosen = choice_from_a_part n side lawful A A I J (λ y h. h) below from_I from_J x
        (chosen_within side A J from_J x chosen) chosen
