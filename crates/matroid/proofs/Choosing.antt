-- The choice of a side from a set: it exists, it is independent, it spans what it was chosen from, no
-- independent set of what was offered is larger, and it leaves out exactly what it dominates; and an
-- independent part of a set that dominates the rest is the choice from it. Assumes nothing.
use Rattle.std.proofs.Common.{◌≡◌, ℕ, zero, suc, ◌<◌, ◌≤◌, true, false, ◌&&◌, eqb, sym, ◌∙◌, inl, inr, arith}
use mathlib.Core.Path.{fun_ext}
use Rattle.std.proofs.lemmas.Bool.{both_ways, cases_Bool, cases_eq, cases_lt}
use Rattle.std.proofs.lemmas.Bool.Decides.{nat_tests}
use Rattle.matroid.specs.Sets.{Set, ◌∈◌, ◌∉◌, ◌⊆◌, ∅, ◌∩◌, ◌∖◌, add, Below, card}
use Rattle.matroid.specs.Matroids.{Side, Lawful}
use Rattle.matroid.specs.Choices.{preceding, Choice}
use Rattle.matroid.specs.Kernels.{dominates, spans}
use Rattle.matroid.proofs.Cards.{add_here, add_other, add_part}
use Rattle.matroid.proofs.Lasts.{asymmetric, Last, last_or_none}
use Rattle.matroid.proofs.Pigeonhole.{card_without, without_here, without_parts}

-- a set that lies within another does so too when both get the same new member
pub add_mono : (S U : Set) (x : ℕ) → S ⊆ U → add S x ⊆ add U x
add_mono S U x part = grind arith

module _ (side : Side) where
  pub preceding_within : (K : Set) (x : ℕ) → preceding side K x ⊆ K
  preceding_within K x = grind arith

  -- a new member that does not precede x changes nothing before x
  pub preceding_add : (K : Set) (a x : ℕ) → side.precedes a x ≡ false → preceding side (add K a) x ≡ preceding side K x
  preceding_add K a x behind = fun_ext (λ y. grind (arith, nat_tests))

  pub preceding_all : (K : Set) (x : ℕ) → ((y : ℕ) → y ∈ K → side.precedes y x ≡ true) → preceding side K x ≡ K
  preceding_all K x all = fun_ext (λ y. grind (arith, all y))

module _ (side : Side) (A K : Set) (choice : Choice side A K) where
  pub chosen_within : K ⊆ A
  chosen_within x chosen = grind (arith, choice x)

  pub chosen_fits : (x : ℕ) → x ∈ K → side.independent (add (preceding side K x) x) ≡ true
  chosen_fits x chosen = grind (arith, choice x)

  pub fitting_chosen : (x : ℕ) → x ∈ A → side.independent (add (preceding side K x) x) ≡ true → x ∈ K
  fitting_chosen x within fits = grind (arith, choice x)

  pub left_dominated : (x : ℕ) → x ∈ A → x ∉ K → x ∈ dominates side K
  left_dominated x within out = grind (arith, choice x)

  pub leaves_dominated : A ∖ K ≡ A ∩ dominates side K
  leaves_dominated = fun_ext (λ x. grind (arith, choice x))

module _ (n : ℕ) (side : Side) (lawful : Lawful n side) where
  -- an independent part of B that dominates the rest of B is the choice from B
  pub dominating_chosen : (B K : Set) → K ⊆ B → side.independent K ≡ true → B ∖ K ⊆ dominates side K → Choice side B K
  dominating_chosen B K part fits rest x =
      let chosen : x ∈ K → side.independent (add (preceding side K x) x) ≡ true = λ member.
      lawful.matroid.subset (add (preceding side K x) x) K
      (add_part (preceding side K x) K x (preceding_within side K x) member) fits in
      grind (arith, chosen, part x, rest x)

  module _ (A K : Set) (below : Below n A) (choice : Choice side A K) where
    -- a part of the choice lies within its last member and those that precede it, which were chosen together
    pub part_independent : (S : Set) → S ⊆ K → side.independent S ≡ true
    part_independent S part = elim (last_or_none n side.precedes lawful.order S n (omega arith))
        [ inl last ↦ some last | inr none ↦ nothing none ]
      where
        chosen_below : (x : ℕ) → x ∈ S → x < n
        chosen_below x h = below x (chosen_within side A K choice x (part x h))

        nothing : ((x : ℕ) → x < n → x ∉ S) → side.independent S ≡ true
        nothing none = lawful.matroid.subset S ∅
            (λ x h. grind (arith, none x, chosen_below x)) lawful.matroid.empty

        some : Last n side.precedes S → side.independent S ≡ true
        some last = lawful.matroid.subset S (add (preceding side K last.at) last.at) up_to_last
            (chosen_fits side A K choice last.at (part last.at last.member))
          where
            up_to_last : S ⊆ add (preceding side K last.at) last.at
            up_to_last x h = grind (arith, nat_tests, part x, last.after x, chosen_below x)

    pub chosen_independent : side.independent K ≡ true
    chosen_independent = part_independent K (λ x h. h)

    -- a number that would fit beside the whole choice is in it
    joining_chosen : (x : ℕ) → x ∈ A → side.independent (add K x) ≡ true → x ∈ K
    joining_chosen x within fits = fitting_chosen side A K choice x within
        (lawful.matroid.subset (add (preceding side K x) x) (add K x)
        (add_mono (preceding side K x) K x (preceding_within side K x)) fits)

    pub chosen_spans : A ⊆ spans side K
    chosen_spans x within = grind (arith, joining_chosen x)

    pub chosen_largest : (J : Set) → J ⊆ A → side.independent J ≡ true → card n J ≤ card n K
    chosen_largest J part fits = elim (cases_lt (card n K) (card n J)) [
      | inl less ↦
          let (x, low, member, out, joined) = lawful.matroid.exchange K J chosen_independent fits less in
          absurd (both_ways (K x) out (joining_chosen x (part x member) joined))
      | inr enough ↦ enough
    ]

  -- The choice from A, out of that from A without its last member: the last member joins where it fits.
  module _ (A : Set) (below : Below n A) (last : Last n side.precedes A) (K : Set)
      (choice : Choice side (A ∖ eqb last.at) K) where
    earlier : (y : ℕ) → y ∈ A → (y ≡ last.at → ⊥) → side.precedes y last.at ≡ true
    earlier y within other = last.after y (below y within) within other

    all_earlier : preceding side K last.at ≡ K
    all_earlier = preceding_all side K last.at (λ y chosen.
        let (within, other) = without_parts A last.at y (chosen_within side (A ∖ eqb last.at) K choice y chosen) in
        earlier y within (λ e. other (sym e)))

    not_chosen : last.at ∉ K
    not_chosen = grind (arith, choice last.at, without_here A last.at)

    -- any other number is chosen from A as it is from A without the last member
    elsewhere : (x : ℕ) → (x ≡ last.at → ⊥) → K x ≡ (A x && side.independent (add (preceding side K x) x))
    elsewhere x other = grind (arith, nat_tests, choice x)

    choice_joined : side.independent (add K last.at) ≡ true → Choice side A (add K last.at)
    choice_joined fits x = elim (cases_eq x last.at) [ inl e ↦ rw e here | inr other ↦ there other ]
      where
        here : add K last.at last.at
            ≡ (A last.at && side.independent (add (preceding side (add K last.at) last.at) last.at))
        here = rw (
          preceding_add side K last.at last.at (lawful.order.irreflexive last.at last.below),
          all_earlier,
          fits,
          last.member,
        ) (add_here K last.at)

        there : (x ≡ last.at → ⊥)
            → add K last.at x ≡ (A x && side.independent (add (preceding side (add K last.at) x) x))
        there other = elim (cases_Bool (A x)) [
          | inl within ↦ rw (preceding_add side K last.at x (asymmetric n side.precedes lawful.order x last.at
              (below x within) last.below (earlier x within other)))
              (add_other K last.at x other ∙ elsewhere x other)
          | inr none ↦ grind (arith, add_other K last.at x other, elsewhere x other)
        ]

    choice_stays : side.independent (add K last.at) ≡ false → Choice side A K
    choice_stays unfit x = elim (cases_eq x last.at) [ inl e ↦ rw e here | inr other ↦ elsewhere x other ]
      where
        here : K last.at ≡ (A last.at && side.independent (add (preceding side K last.at) last.at))
        here = rw (all_earlier, unfit) (grind (arith, not_chosen))

    choice_grown : (M : Set) × Choice side A M
    choice_grown = elim (cases_Bool (side.independent (add K last.at)))
        [ inl fits ↦ (add K last.at, choice_joined fits) | inr unfit ↦ (K, choice_stays unfit) ]

  choice_of_none : (A : Set) → Below n A → ((x : ℕ) → x < n → x ∉ A) → (K : Set) × Choice side A K
  choice_of_none A below none = (∅, λ x. grind (arith, none x, below x))

  choice_of_few : (most : ℕ) (A : Set) → Below n A → card n A ≤ most → (K : Set) × Choice side A K
  choice_of_few zero A below few = elim (last_or_none n side.precedes lawful.order A n (omega arith)) [
    | inl last ↦ absurd (omega (arith, card_without n A last.at last.below last.member))
    | inr none ↦ choice_of_none A below none
  ]
  choice_of_few (suc most) A below few = elim (last_or_none n side.precedes lawful.order A n (omega arith)) [
    | inl last ↦
        let (K, choice) = choice_of_few most (A ∖ eqb last.at) (λ x h. below x (without_parts A last.at x h).0)
        (omega (arith, card_without n A last.at last.below last.member)) in
        choice_grown A below last K choice
    | inr none ↦ choice_of_none A below none
  ]

  pub choice_exists : (A : Set) → Below n A → (K : Set) × Choice side A K
  choice_exists A below = choice_of_few (card n A) A below (omega arith)
