-- In a run of turns what is struck is live and stays struck, so each turn but the last strikes one
-- application more at least, and there is at most one turn more than there are live applications.
-- Assumes nothing.
use Rattle.std.proofs.Common.{◌≡◌, ℕ, ◌<◌, ◌+◌, ◌≤◌, inl, inr, arith}
use Rattle.std.proofs.lemmas.Bool.{or_left, both_ways, false_from_ne_true, false≢true}
use Rattle.matroid.specs.Sets.{Set, ◌∈◌, ◌∉◌, ◌⊆◌, ◌∪◌, ◌∖◌, Below, card}
use Rattle.matroid.specs.Matroids.{Side, Lawful}
use Rattle.matroid.specs.Turns.{Turn, Run, start, next, Ends}
use Rattle.matroid.proofs.Cards.{card_less, card_mono, different_below}
use Rattle.matroid.proofs.Choosing.{chosen_within}
use Rattle.matroid.proofs.Sets.{outside_from, outside_parts, same_below}
use Rattle.matroid.proofs.Substitution.{choice_from_a_part}

-- one turn, by its sets
module _ {one two : Side} {live struck offered struck' : Set} (turn : Turn one two live struck offered struck') where
  pub offered_unstruck : offered ⊆ live ∖ struck
  offered_unstruck = chosen_within one (live ∖ struck) offered turn.offers

  pub shown_live : struck ⊆ live → struck ∪ offered ⊆ live
  shown_live part x shown = grind (arith, part x, offered_unstruck x)

  pub struck_shown : (x : ℕ) → x ∈ struck' → (x ∈ struck ∪ offered) × (x ∉ turn.kept)
  struck_shown x h = grind (arith, turn.strikes)

  pub unkept_struck : (x : ℕ) → x ∈ struck ∪ offered → x ∉ turn.kept → x ∈ struck'
  unkept_struck x shown out = grind (arith, turn.strikes)

  pub kept_unstruck : (x : ℕ) → x ∈ turn.kept → x ∉ struck'
  kept_unstruck x kept = grind (arith, turn.strikes)

pub struck_live : {one two : Side} {live : Set} {turns : ℕ} {struck : Set} → Run one two live turns struck → struck ⊆ live
struck_live start x h = absurd (false≢true h)
struck_live (next offered run turn new) x h = shown_live turn (struck_live run) x (struck_shown turn x h).0

-- a part that is not the whole has fewer members
card_proper : (n : ℕ) (S U : Set) → S ⊆ U → Below n U → (U ≡ S → ⊥) → card n S < card n U
card_proper n S U part below differ = elim (different_below n U S) [
  | inl (x, h, unlike) ↦ grind (arith, part x, card_less n S U part x h)
  | inr same ↦ absurd (differ (same_below n U S below (λ x h. below x (part x h)) same))
]

module _ (n : ℕ) (one two : Side) (lawful_one : Lawful n one) (lawful_two : Lawful n two)
    (live : Set) (below : Below n live) where
  -- what side two is shown in a turn it is shown in the next one, if all that was struck stays struck
  shown_again : {R₀ P₀ R P R' : Set} → Turn one two live R₀ P₀ R → Turn one two live R P R' → R₀ ⊆ R → R₀ ∪ P₀ ⊆ R ∪ P
  shown_again {R₀} {P₀} {R} {P} turn₀ turn stays x shown =
      grind (arith, stays x, unkept_struck turn₀ x, offered_again)
    where
      less_open : live ∖ R ⊆ live ∖ R₀
      less_open y h = grind (arith, stays y)

      offered_again : x ∈ turn₀.kept → x ∈ P₀ → x ∈ P
      offered_again kept new = choice_from_a_part n one lawful_one (live ∖ R) (live ∖ R₀) P P₀ less_open
          (λ y h. below y (outside_parts live R₀ y h).0) turn.offers turn₀.offers x
          (outside_from live R x (outside_parts live R₀ x (offered_unstruck turn₀ x new)).0 (kept_unstruck turn₀ x kept))
          new

  -- if all that was struck stayed struck in a turn, then it does in the next one
  stays_again : {R₀ P₀ R P R' : Set} → R ⊆ live → Turn one two live R₀ P₀ R → Turn one two live R P R' → R₀ ⊆ R → R ⊆ R'
  stays_again {R₀} {P₀} {R} {P} part turn₀ turn stays x h =
      let (shown, left) = struck_shown turn₀ x h in
      unkept_struck turn x (or_left (R x) (P x) h)
      (false_from_ne_true (turn.kept x) (λ kept. both_ways (turn₀.kept x) left
      (choice_from_a_part n two lawful_two (R₀ ∪ P₀) (R ∪ P) turn₀.kept turn.kept (shown_again turn₀ turn stays)
      (λ y k. below y (shown_live turn part y k)) turn₀.keeps turn.keeps x shown kept)))

  pub struck_grows : {turns : ℕ} {struck offered struck' : Set} → Run one two live turns struck
      → Turn one two live struck offered struck' → struck ⊆ struck'
  struck_grows start turn x h = absurd (false≢true h)
  struck_grows (next earlier run turn₀ new) turn x h =
      stays_again (struck_live (next earlier run turn₀ new)) turn₀ turn (struck_grows run turn₀) x h

  pub more_struck : {turns : ℕ} {struck : Set} → Run one two live turns struck → (offered struck' : Set)
      → Turn one two live struck offered struck' → (struck' ≡ struck → ⊥) → card n struck < card n struck'
  more_struck {struck} run offered struck' turn new = card_proper n struck struck' (struck_grows run turn)
      (λ x h. below x (struck_live (next offered run turn new) x h)) new

  pub turns_struck : {turns : ℕ} {struck : Set} → Run one two live turns struck → turns ≤ card n struck
  turns_struck start = omega arith
  turns_struck (next {struck'} offered run turn new) =
      omega (arith, turns_struck run, more_struck run offered struck' turn new)

  pub turns_bounded : (turns : ℕ) (list : Set) → Ends one two live turns list → turns ≤ card n live + 1
  turns_bounded turns list ends =
      omega (arith, ends.count, turns_struck ends.run, card_mono n ends.struck live (struck_live ends.run))
