-- Going through the applications in order and keeping each that is offered and fits beside those
-- kept makes the choice: what is kept later does not precede an earlier application, and all that
-- is kept so far precedes the next one. Assumes nothing.
use Rattle.std.proofs.Common.{◌≡◌, ℕ, ◌+◌, ◌<◌, ◌≤◌, true, false, ◌&&◌, eqb, List, sym, refl, ◌∙◌, inl, inr, arith}
use Rattle.std.proofs.lemmas.Bool.{and_left, both_ways, cases_Bool, cases_eq, cases_lt, eqb-true, false≢true, or_cases}
use Rattle.matroid.specs.Sets.{Set, ◌∈◌, ◌∉◌, ∅, Below, add}
use Rattle.matroid.specs.Matroids.{Side, StrictOrder}
use Rattle.matroid.specs.Choices.{preceding, Choice}
use Rattle.matroid.proofs.Cards.{add_here, add_other}
use Rattle.matroid.proofs.Choosing.{preceding_add, preceding_all}
use Rattle.matroid.proofs.Lasts.{asymmetric}
use Rattle.parts.specs.Limits.{applications}
use Rattle.parts.specs.declared.numbers.Application.{Application}
use Rattle.parts.specs.Rows.{number_at}
use Rattle.clearing.specs.Orders.{InOrder}

-- the applications before that place have been decided on, and none of the others is kept
pub record Chosen (side : Side) (row : List Application) (offered kept : Set) (until : ℕ) : Type 0 where
  pub within : Below applications kept
  pub decided : (i : ℕ) → i < until → kept (number_at row i)
      ≡ (offered (number_at row i) && side.independent (add (preceding side kept (number_at row i)) (number_at row i)))
  pub ahead : (i : ℕ) → until ≤ i → i < applications → number_at row i ∉ kept

-- before the first place nothing is kept
pub chosen_none : (side : Side) (row : List Application) (offered kept : Set) → kept ≡ ∅ → Chosen side row offered kept 0
chosen_none side row offered kept none = rw none (record {
  within = λ x member. absurd (false≢true member);
  decided = λ i h. absurd (omega arith);
  ahead = λ i h k. refl;
})

module _ (side : Side) (order : StrictOrder applications side.precedes) where
  module _ (row : List Application) (in_order : InOrder side.precedes row) (offered kept : Set) where
    pub chosen_all : Below applications offered → (until : ℕ) → applications ≤ until → Chosen side row offered kept until
        → Choice side offered kept
    chosen_all below until all chosen x = elim (cases_lt x applications) [ inl h ↦ somewhere h | inr past ↦ nowhere past ]
      where
        somewhere : x < applications → kept x ≡ (offered x && side.independent (add (preceding side kept x) x))
        somewhere h =
            let (i, i_below, e) = in_order.complete.stands x h in
            rw e at (chosen.decided i (omega arith))

        outside : (S : Set) → Below applications S → applications ≤ x → x ∉ S
        outside S inside past = elim (cases_Bool (S x)) [ inl member ↦ absurd (omega (arith, inside x member)) | inr out ↦ out ]

        nowhere : applications ≤ x → kept x ≡ (offered x && side.independent (add (preceding side kept x) x))
        nowhere past = outside kept chosen.within past
            ∙ sym (and_left (offered x) (side.independent (add (preceding side kept x) x)) (outside offered below past))

    module _ (at : ℕ) (h : at < applications) (chosen : Chosen side row offered kept at) where
      -- all that is kept precedes the application at the next place
      all_precede : (y : ℕ) → y ∈ kept → side.precedes y (number_at row at) ≡ true
      all_precede y member =
          let (i, i_below, e) = in_order.complete.stands y (chosen.within y member) in
          elim (cases_lt i at) [
            | inl earlier ↦ rw (← e) (in_order.ordered i at earlier h)
            | inr later ↦ absurd (both_ways (kept y) (rw (← e) (chosen.ahead i later i_below)) member)
          ]

      pub chosen_left : (new : Set) → new ≡ kept → (offered (number_at row at) && side.independent (add kept (number_at row at))) ≡ false
          → Chosen side row offered new (at + 1)
      chosen_left new same left = rw same (record {
        within = chosen.within;
        decided = λ i k. elim (cases_eq i at) [ inl e ↦ rw e here | inr ne ↦ chosen.decided i (omega arith) ];
        ahead = λ i k below. chosen.ahead i (omega arith) below;
      })
        where
          here : kept (number_at row at)
              ≡ (offered (number_at row at) && side.independent (add (preceding side kept (number_at row at)) (number_at row at)))
          here = rw (preceding_all side kept (number_at row at) all_precede, left) (chosen.ahead at (omega arith) h)

      pub chosen_taken : (new : Set) → new ≡ add kept (number_at row at)
          → (offered (number_at row at) && side.independent (add kept (number_at row at))) ≡ true
          → Chosen side row offered new (at + 1)
      chosen_taken new more taken = rw more (record {
        within = λ x member. elim (or_cases (kept x) (eqb x (number_at row at)) member)
            [ inl old ↦ chosen.within x old | inr new ↦ rw (eqb-true x (number_at row at) new) (in_order.complete.below at h) ];
        decided = λ i k. elim (cases_eq i at) [ inl e ↦ rw e here | inr ne ↦ earlier i (omega arith) ];
        ahead = λ i k below. add_other kept (number_at row at) (number_at row i)
            (λ e. omega (arith, in_order.complete.once i at below h e)) ∙ chosen.ahead i (omega arith) below;
      })
        where
          here : add kept (number_at row at) (number_at row at)
              ≡ (offered (number_at row at)
              && side.independent (add (preceding side (add kept (number_at row at)) (number_at row at)) (number_at row at)))
          here = rw (
            preceding_add side kept (number_at row at) (number_at row at)
                (order.irreflexive (number_at row at) (in_order.complete.below at h)),
            preceding_all side kept (number_at row at) all_precede,
            taken,
          ) (add_here kept (number_at row at))

          earlier : (i : ℕ) → i < at → add kept (number_at row at) (number_at row i)
              ≡ (offered (number_at row i)
              && side.independent (add (preceding side (add kept (number_at row at)) (number_at row i)) (number_at row i)))
          earlier i k = rw (preceding_add side kept (number_at row at) (number_at row i)
              (asymmetric applications side.precedes order (number_at row i) (number_at row at) (in_order.complete.below i (omega arith))
              (in_order.complete.below at h) (in_order.ordered i at k h)))
              (add_other kept (number_at row at) (number_at row i)
              (λ e. omega (arith, in_order.complete.once i at (omega arith) h e)) ∙ chosen.decided i k)
