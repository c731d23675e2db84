-- Deferred acceptance has one outcome: a turn has one, since a side has one choice, and turns that each
-- changed the struck set lead to one end. Assumes nothing.
use Rattle.std.proofs.Common.{◌≡◌, ℕ, ◌<◌, sym, refl, ◌∙◌, subst, ap₂, inl, inr, arith}
use Rattle.std.proofs.lemmas.Bool.{cases_eq, cases_order}
use Rattle.matroid.specs.Sets.{Set, ◌⊆◌, ◌∪◌, ◌∖◌, Below}
use Rattle.matroid.specs.Matroids.{Side, Lawful}
use Rattle.matroid.specs.Choices.{Choice}
use Rattle.matroid.specs.Turns.{Turn, Run, start, next, Ends}
use Rattle.matroid.proofs.Runs.{shown_live, struck_live}
use Rattle.matroid.proofs.Sets.{outside_parts}
use Rattle.matroid.proofs.Substitution.{choice_once}

module _ (n : ℕ) (one two : Side) (lawful_one : Lawful n one) (lawful_two : Lawful n two)
    (live : Set) (below : Below n live) where
  turn_once : {struck offered struck' offered₂ struck'' : Set} → struck ⊆ live → Turn one two live struck offered struck'
      → Turn one two live struck offered₂ struck'' → (offered ≡ offered₂) × (struck' ≡ struck'')
  turn_once {struck} {offered} {struck'} {offered₂} part turn turn₂ =
      (same, turn.strikes ∙ ap₂ (λ (P Q : Set). (struck ∪ P) ∖ Q) same kept ∙ sym turn₂.strikes)
    where
      same : offered ≡ offered₂
      same = choice_once n one lawful_one (live ∖ struck) offered offered₂
          (λ x h. below x (outside_parts live struck x h).0) turn.offers turn₂.offers

      FromKept : Set → Type 0
      FromKept P = Choice two (struck ∪ P) turn₂.kept

      kept : turn.kept ≡ turn₂.kept
      kept = choice_once n two lawful_two (struck ∪ offered) turn.kept turn₂.kept
          (λ x h. below x (shown_live turn part x h))
          turn.keeps (subst FromKept (sym same) turn₂.keeps)

  run_once : {t u : ℕ} {S U : Set} → Run one two live t S → Run one two live u U → t ≡ u → S ≡ U
  run_once start start same = refl
  run_once start (next offered run turn new) same = absurd (omega arith)
  run_once (next offered run turn new) start same = absurd (omega arith)
  run_once (next offered run turn new) (next {struck' = U'} offered₂ run₂ turn₂ new₂) same =
      let from : Set → Type 0 = λ R. Turn one two live R offered₂ U' in
      (turn_once (struck_live run) turn (subst from (sym (run_once run run₂ (omega arith))) turn₂)).1

  -- a turn of a run that is not its end
  record Step (k : ℕ) : Type 0 where
    from : Set
    offers : Set
    to : Set
    before : Run one two live k from
    made : Turn one two live from offers to
    changed : to ≡ from → ⊥

  step_at : {t : ℕ} {S : Set} → Run one two live t S → (k : ℕ) → k < t → Step k
  step_at start k l = absurd (omega arith)
  step_at (next {turns} {struck} {struck'} offered run turn new) k l = elim (cases_eq k turns) [
    | inl e ↦ subst Step (sym e)
        (record { from = struck; offers = offered; to = struck'; before = run; made = turn; changed = new })
    | inr ne ↦ step_at run k (omega arith)
  ]

  -- no run goes past an end
  not_past : {t : ℕ} {S : Set} → Run one two live t S → (u : ℕ) (list : Set) (ends : Ends one two live u list)
      → ends.before < t → ⊥
  not_past run u list ends l =
      let step = step_at run ends.before l in
      let same : step.from ≡ ends.struck = run_once step.before ends.run refl in
      let from : Set → Type 0 = λ R. Turn one two live R step.offers step.to in
      step.changed ((turn_once (struck_live ends.run) (subst from same step.made) ends.last).1 ∙ sym same)

  pub ends_once : (t u : ℕ) (list other : Set) → Ends one two live t list → Ends one two live u other
      → (t ≡ u) × (list ≡ other)
  ends_once t u list other a b = (
    omega (arith, a.count, b.count, count),
    (turn_once (struck_live a.run) a.last (subst from (sym (run_once a.run b.run count)) b.last)).0,
  )
    where
      from : Set → Type 0
      from R = Turn one two live R other b.struck

      count : a.before ≡ b.before
      count = elim (cases_order a.before b.before) [
        | inl same ↦ same
        | inr (inl less) ↦ absurd (not_past b.run t list a less)
        | inr (inr more) ↦ absurd (not_past a.run u other b more)
      ]
