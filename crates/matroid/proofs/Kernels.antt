-- The list of deferred acceptance is a kernel, no kernel serves side one better, and every kernel has
-- its size and its spans. No member of a kernel is ever struck: in a turn the kernel dominates on side
-- two what side one offers beside it, so side two, shown all this, would keep the kernel. Assumes nothing.
use Rattle.std.proofs.Common.{◌≡◌, ℕ, ◌<◌, ◌≤◌, true, not, eqb, sym, subst, inl, inr, le_antisymm, arith}
use Rattle.std.proofs.lemmas.Bool.{or_cases, or_left, or_parts, or_right, both_ways, eqb-true, false≢true, false_from_ne_true, not-false, true_from_ne_false}
use Rattle.matroid.specs.Sets.{Set, ◌∈◌, ◌∉◌, ◌⊆◌, ◌∪◌, ◌∩◌, ◌∖◌, add, Below, card}
use Rattle.matroid.specs.Matroids.{Side, Lawful}
use Rattle.matroid.specs.Choices.{Choice}
use Rattle.matroid.specs.Kernels.{dominates, spans, Kernel, Alike}
use Rattle.matroid.specs.Turns.{Turn, Run, start, next, Ends}
use Rattle.matroid.proofs.Cards.{add_here, add_part, card_add}
use Rattle.matroid.proofs.Choosing.{chosen_independent, chosen_largest, chosen_spans, chosen_within, dominating_chosen, left_dominated}
use Rattle.matroid.proofs.Runs.{kept_unstruck, offered_unstruck, shown_live, struck_live, struck_shown, unkept_struck}
use Rattle.matroid.proofs.Sets.{outside_from, outside_parts, same_set}
use Rattle.matroid.proofs.Substitution.{choice_from_a_part}

-- Where S spans U and is no larger, U spans what S spans: what U does not span could join it, and then
-- something of U with it could join S.
module _ (n : ℕ) (side : Side) (lawful : Lawful n side) (S U : Set) (S_fits : side.independent S ≡ true)
    (U_fits : side.independent U ≡ true) (no_larger : card n S ≤ card n U) (spanned : U ⊆ spans side S) where
  span_passes : (x : ℕ) → x < n → x ∈ spans side S → x ∈ spans side U
  span_passes x low within = true_from_ne_false (spans side U x) joins
    where
      cannot_join : (y : ℕ) → y ∈ spans side S → y ∉ S → side.independent (add S y) ≡ true → ⊥
      cannot_join y in_span out joined = grind arith

      joins : x ∉ spans side U → ⊥
      joins out =
          let (left, fits) = or_parts (U x) (not (side.independent (add U x))) out in
          let (y, y_low, member, y_left, joined) = lawful.matroid.exchange S (add U x) S_fits
          (not-false (side.independent (add U x)) fits) (omega (arith, card_add n U x low left)) in
          cannot_join y (elim (or_cases (U y) (eqb y x) member)
          [ inl old ↦ spanned y old | inr new ↦ rw (eqb-true y x new) within ]) y_left joined

-- Where S spans U and they have as many members, they span the same.
same_span : (n : ℕ) (side : Side) → Lawful n side → (live S U : Set) → Below n live → S ⊆ live
    → side.independent S ≡ true → side.independent U ≡ true → card n S ≡ card n U → U ⊆ spans side S
    → live ∩ spans side S ≡ live ∩ spans side U
same_span n side lawful live S U below S_live S_fits U_fits size spanned =
    same_set (live ∩ spans side S) (live ∩ spans side U) (passes S U there) (passes U S back)
  where
    there : (x : ℕ) → x < n → x ∈ spans side S → x ∈ spans side U
    there = span_passes n side lawful S U S_fits U_fits (omega arith) spanned

    back : (x : ℕ) → x < n → x ∈ spans side U → x ∈ spans side S
    back = span_passes n side lawful U S U_fits S_fits (omega arith) (λ y member. there y (below y (S_live y member)) (grind arith))

    passes : (I J : Set) → ((x : ℕ) → x < n → x ∈ spans side I → x ∈ spans side J) → live ∩ spans side I ⊆ live ∩ spans side J
    passes I J pass x h = grind (arith, pass x, below x)

module _ (n : ℕ) (one two : Side) (lawful_one : Lawful n one) (lawful_two : Lawful n two)
    (live : Set) (below : Below n live) where
  open_below : (struck : Set) → Below n (live ∖ struck)
  open_below struck x h = below x (outside_parts live struck x h).0

  module _ {K : Set} (kernel : Kernel one two live K) where
    -- no member of the kernel is struck, and what is struck the kernel dominates on side two
    record Unharmed (struck : Set) : Type 0 where
      unstruck : (x : ℕ) → x ∈ struck → x ∉ K
      beaten : struck ⊆ dominates two K

    module _ {struck offered struck' : Set} (struck_part : struck ⊆ live)
        (turn : Turn one two live struck offered struck') (unharmed : Unharmed struck) where
      kernel_open : K ⊆ live ∖ struck
      kernel_open x member = grind (arith, kernel.within x, unharmed.unstruck x)

      -- side one offered f although it could offer K, so K does not dominate f there
      offered_beaten : (f : ℕ) → f ∈ offered → f ∉ K → f ∈ dominates two K
      offered_beaten f offer out =
          let (is_live, yet) = outside_parts live struck f (offered_unstruck turn f offer) in
          elim (or_cases (dominates one K f) (dominates two K f) (kernel.dominating f (outside_from live K f is_live out))) [
            | inl first ↦ absurd (both_ways (K f) out (choice_from_a_part n one lawful_one (add K f) (live ∖ struck) K offered
                (add_part K (live ∖ struck) f kernel_open (outside_from live struck f is_live yet)) (open_below struck)
                (dominating_chosen n one lawful_one (add K f) K (λ x h. or_left (K x) (eqb x f) h) kernel.independent_one
                (λ x h. rest first x h)) turn.offers f (add_here K f) offer))
            | inr second ↦ second
          ]
        where
          rest : f ∈ dominates one K → (x : ℕ) → x ∈ add K f ∖ K → x ∈ dominates one K
          rest first x h =
              let (within, other) = outside_parts (add K f) K x h in
              elim (or_cases (K x) (eqb x f) within)
              [ inl member ↦ absurd (both_ways (K x) other member) | inr same ↦ rw (eqb-true x f same) first ]

      shown_beaten : (x : ℕ) → x ∈ struck ∪ offered → x ∉ K → x ∈ dominates two K
      shown_beaten x shown out = grind (arith, unharmed.beaten x, offered_beaten x)

      -- of all that it was ever shown and the kernel, side two would keep the kernel
      kernel_kept : Choice two ((struck ∪ offered) ∪ K) K
      kernel_kept = dominating_chosen n two lawful_two ((struck ∪ offered) ∪ K) K
          (λ x h. or_right ((struck ∪ offered) x) (K x) h) kernel.independent_two (λ x h. grind (arith, shown_beaten x))

      all_below : Below n ((struck ∪ offered) ∪ K)
      all_below x h = grind (arith, below x, shown_live turn struck_part x, kernel.within x)

      unharmed_after : Unharmed struck'
      unharmed_after = record {
        unstruck = spared;
        beaten = λ x lost. shown_beaten x (struck_shown turn x lost).0 (spared x lost);
      }
        where
          spared : (x : ℕ) → x ∈ struck' → x ∉ K
          spared x lost =
              let (shown, left) = struck_shown turn x lost in
              false_from_ne_true (K x) (λ member. both_ways (turn.kept x) left (choice_from_a_part n two lawful_two
              (struck ∪ offered) ((struck ∪ offered) ∪ K) turn.kept K (λ y h. or_left ((struck ∪ offered) y) (K y) h)
              all_below turn.keeps kernel_kept x shown member))

    never_struck : {turns : ℕ} {struck : Set} → Run one two live turns struck → Unharmed struck
    never_struck start = record { unstruck = λ x h. absurd (false≢true h); beaten = λ x h. absurd (false≢true h) }
    never_struck (next offered run turn new) = unharmed_after (struck_live run) turn (never_struck run)

  module _ (turns : ℕ) (list : Set) (ends : Ends one two live turns list) where
    struck_part : ends.struck ⊆ live
    struck_part = struck_live ends.run

    -- in the last turn side two kept what side one offered, and nothing else
    kept_all : ends.last.kept ≡ list
    kept_all = same_set ends.last.kept list there back
      where
        there : ends.last.kept ⊆ list
        there x kept =
            grind (arith, chosen_within two (ends.struck ∪ list) ends.last.kept ends.last.keeps x, kept_unstruck ends.last x)

        back : list ⊆ ends.last.kept
        back x offer = grind (arith, offered_unstruck ends.last x, unkept_struck ends.last x)

    list_kept : Choice two (ends.struck ∪ list) list
    list_kept = let from : Set → Type 0 = λ Q. Choice two (ends.struck ∪ list) Q in subst from kept_all ends.last.keeps

    pub list_is_a_kernel : Kernel one two live list
    list_is_a_kernel = record {
      within = λ x h. (outside_parts live ends.struck x (offered_unstruck ends.last x h)).0;
      independent_one = chosen_independent n one lawful_one (live ∖ ends.struck) list (open_below ends.struck) ends.last.offers;
      independent_two = chosen_independent n two lawful_two (ends.struck ∪ list) list
          (λ x h. below x (shown_live ends.last struck_part x h)) list_kept;
      dominating = λ x h. grind (
        arith,
        left_dominated two (ends.struck ∪ list) list list_kept x,
        left_dominated one (live ∖ ends.struck) list ends.last.offers x,
      );
    }

    module _ (K : Set) (kernel : Kernel one two live K) where
      unharmed : Unharmed kernel ends.struck
      unharmed = never_struck kernel ends.run

      all_open : K ⊆ live ∖ ends.struck
      all_open = kernel_open kernel struck_part ends.last unharmed

      pub list_is_best : K ⊆ list ∪ dominates one list
      list_is_best x member =
          grind (arith, all_open x, left_dominated one (live ∖ ends.struck) list ends.last.offers x)

      both_kept : Choice two ((ends.struck ∪ list) ∪ K) K
      both_kept = kernel_kept kernel struck_part ends.last unharmed

      list_shown : list ⊆ (ends.struck ∪ list) ∪ K
      list_shown x offer = grind arith

      all_shown : Below n ((ends.struck ∪ list) ∪ K)
      all_shown = all_below kernel struck_part ends.last unharmed

      size : card n list ≡ card n K
      size = le_antisymm
          (chosen_largest n two lawful_two ((ends.struck ∪ list) ∪ K) K all_shown both_kept list list_shown list_is_a_kernel.independent_two)
          (chosen_largest n one lawful_one (live ∖ ends.struck) list (open_below ends.struck) ends.last.offers K all_open
          kernel.independent_one)

      pub every_kernel_is_alike : Alike n one two live K list
      every_kernel_is_alike = record {
        size = sym size;
        span_one = sym (same_span n one lawful_one live list K below list_is_a_kernel.within list_is_a_kernel.independent_one
            kernel.independent_one size (λ x member. chosen_spans n one lawful_one (live ∖ ends.struck) list
            (open_below ends.struck) ends.last.offers x (all_open x member)));
        span_two = same_span n two lawful_two live K list below kernel.within kernel.independent_two
            list_is_a_kernel.independent_two (sym size) (λ x offer. chosen_spans n two lawful_two ((ends.struck ∪ list) ∪ K) K
            all_shown both_kept x (list_shown x offer));
      }
