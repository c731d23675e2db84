-- Deferred acceptance ends: a turn can always be made, since the sides have their choices, and each turn
-- but the last strikes one application more. Assumes nothing.
use Rattle.std.proofs.Common.{◌≡◌, ℕ, zero, suc, ◌+◌, ◌<◌, ◌≤◌, ◌⊎◌, refl, ap, subst, inl, inr, arith}
use Rattle.matroid.specs.Sets.{Set, ◌⊆◌, ◌∪◌, ◌∖◌, Below, card}
use Rattle.matroid.specs.Matroids.{Side, Lawful}
use Rattle.matroid.specs.Choices.{Choice}
use Rattle.matroid.specs.Turns.{Turn, Run, start, next, Ends}
use Rattle.matroid.proofs.Cards.{card_mono, different_below}
use Rattle.matroid.proofs.Choosing.{choice_exists, chosen_within}
use Rattle.matroid.proofs.Runs.{more_struck, shown_live, struck_live, struck_shown}
use Rattle.matroid.proofs.Sets.{outside_parts, same_below}

module _ (n : ℕ) (one two : Side) (lawful_one : Lawful n one) (lawful_two : Lawful n two)
    (live : Set) (below : Below n live) where
  turn_exists : (struck : Set) → struck ⊆ live → (offered : Set) × (struck' : Set) × Turn one two live struck offered struck'
  turn_exists struck part =
      let (offered, offers) = choice_exists n one lawful_one (live ∖ struck) (λ x h. below x (outside_parts live struck x h).0) in
      let (kept, keeps) = choice_exists n two lawful_two (struck ∪ offered) (λ x h. below x (shown offered offers x h)) in
      (offered, (struck ∪ offered) ∖ kept, record { kept = kept; offers = offers; keeps = keeps; strikes = refl })
    where
      shown : (offered : Set) → Choice one (live ∖ struck) offered → struck ∪ offered ⊆ live
      shown offered offers x h = grind (arith, part x, chosen_within one (live ∖ struck) offered offers x)

  -- what comes of one more turn: it is the last, or the run goes on with more struck than before
  record Longer (turns : ℕ) (struck : Set) : Type 0 where
    struck' : Set
    run : Run one two live (turns + 1) struck'
    more : card n struck + 1 ≤ card n struck'

  one_more : {turns : ℕ} {struck : Set} → Run one two live turns struck
      → ((list : Set) × Ends one two live (turns + 1) list) ⊎ Longer turns struck
  one_more {turns} {struck} run =
      let (offered, struck', turn) = turn_exists struck (struck_live run) in
      elim (different_below n struck' struck) [
        | inl (x, low, differ) ↦ inr (longer offered struck' turn (λ same. differ (ap (λ S. S x) same)))
        | inr same ↦ inl (offered, last offered struck' turn same)
      ]
    where
      longer : (offered struck' : Set) → Turn one two live struck offered struck' → (struck' ≡ struck → ⊥) → Longer turns struck
      longer offered struck' turn new = record {
        struck' = struck';
        run = next offered run turn new;
        more = omega (arith, more_struck n one two lawful_one lawful_two live below run offered struck' turn new);
      }

      last : (offered struck' : Set) → Turn one two live struck offered struck' → ((x : ℕ) → x < n → struck' x ≡ struck x)
          → Ends one two live (turns + 1) offered
      last offered struck' turn same =
          let to : Set → Type 0 = λ R. Turn one two live struck offered R in
          record {
            before = turns;
            struck = struck;
            run = run;
            last = subst to (same_below n struck' struck
                (λ x h. below x (shown_live turn (struck_live run) x (struck_shown turn x h).0))
                (λ x h. below x (struck_live run x h)) same) turn;
            count = refl;
          }

  ending : (left : ℕ) {turns : ℕ} {struck : Set} → Run one two live turns struck → card n live ≤ card n struck + left
      → (t : ℕ) × (list : Set) × Ends one two live t list
  ending zero {turns} run room = elim (one_more run) [
    | inl (list, ends) ↦ (turns + 1, list, ends)
    | inr longer ↦ absurd (omega (arith, longer.more, card_mono n longer.struck' live (struck_live longer.run)))
  ]
  ending (suc left) {turns} run room = elim (one_more run) [
    | inl (list, ends) ↦ (turns + 1, list, ends)
    | inr longer ↦ ending left longer.run (omega (arith, longer.more))
  ]

  pub ends_always : (turns : ℕ) × (list : Set) × Ends one two live turns list
  ends_always = ending (card n live) start (omega arith)
