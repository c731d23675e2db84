-- The tree of groups: what lies inside what, by the way up from a group to the root, and that the
-- groups of a tree make a laminar family. Assumes nothing.
use Rattle.std.proofs.Common.{◌≡◌, ℕ, zero, suc, ◌<◌, ◌≤◌, Bool, true, false, ◌&&◌, ◌||◌, eqb, ltb, ◌⊎◌, sym, refl, ap, ◌∙◌, inl, inr, arith}
use Rattle.std.proofs.lemmas.Bool.{le-ltb, both_ways, cases_lt, cases_Bool, false_from_ne_true}
use Rattle.std.proofs.lemmas.Bool.Decides.{nat_tests}
use Rattle.matroid.specs.Laminar.{Laminar}
use Rattle.matroid.specs.Trees.{climbs, inside, Rooted}

-- a step that is not taken leaves the test at the start
no_step : (a b c : Bool) → b ≡ false → (a || (b && c)) ≡ a
no_step a b c none = grind arith

module _ (parents : ℕ → ℕ) (rooted : Rooted parents) where
  -- two numbers of steps that lead up to the root tell the same
  climbs_same : (s t h g : ℕ) → h ≤ s → h ≤ t → climbs parents s h g ≡ climbs parents t h g
  unfolding climbs
  climbs_same zero zero h g ls lt = refl
  climbs_same zero (suc t) h g ls lt = sym (no_step (eqb h g) (ltb 0 h) (climbs parents t (parents h) g) (le-ltb 0 h ls))
  climbs_same (suc s) zero h g ls lt = no_step (eqb h g) (ltb 0 h) (climbs parents s (parents h) g) (le-ltb 0 h lt)
  climbs_same (suc s) (suc t) h g ls lt = elim (cases_lt 0 h) [
    | inl l ↦ ap (λ b. eqb h g || (ltb 0 h && b))
        (let low = rooted h l in climbs_same s t (parents h) g (omega arith) (omega arith))
    | inr z ↦ no_step (eqb h g) (ltb 0 h) (climbs parents s (parents h) g) (le-ltb 0 h z)
        ∙ sym (no_step (eqb h g) (ltb 0 h) (climbs parents t (parents h) g) (le-ltb 0 h z))
  ]

  -- more steps than h change nothing
  climbs_enough : (steps h g : ℕ) → h ≤ steps → climbs parents steps h g ≡ inside parents h g
  climbs_enough steps h g enough = climbs_same steps h h g enough (omega arith)

  pub inside_step : (h g : ℕ) → inside parents h g ≡ (eqb h g || (ltb 0 h && inside parents (parents h) g))
  unfolding climbs
  inside_step zero g = sym (no_step (eqb 0 g) (ltb 0 0) (inside parents (parents 0) g) refl)
  inside_step (suc h) g =
      let low = rooted (suc h) (omega arith) in
      ap (λ b. eqb (suc h) g || (ltb 0 (suc h) && b)) (climbs_enough h (parents (suc h)) g (omega arith))

  -- the two ways to lie inside g
  inside_cases : (h g : ℕ) → inside parents h g ≡ true → (h ≡ g) ⊎ ((0 < h) × (inside parents (parents h) g ≡ true))
  inside_cases h g within = grind (arith, nat_tests, inside_step h g)

  pub inside_self : (h : ℕ) → inside parents h h ≡ true
  inside_self h = grind (arith, nat_tests, inside_step h h)

  inside_up : (h g : ℕ) → 0 < h → inside parents (parents h) g ≡ true → inside parents h g ≡ true
  inside_up h g l up = grind (arith, nat_tests, inside_step h g)

  -- what holds of a group where it holds of its parent, up to a bound
  up_to : (P : ℕ → Type 0) → ((h : ℕ) → (0 < h → P (parents h)) → P h) → (bound h : ℕ) → h ≤ bound → P h
  up_to P step zero h l = step h (λ pos. absurd (omega arith))
  up_to P step (suc bound) h l = step h (λ pos. let low = rooted h pos in up_to P step bound (parents h) (omega arith))

  -- induction on the way up
  by_parents : (P : ℕ → Type 0) → ((h : ℕ) → (0 < h → P (parents h)) → P h) → (h : ℕ) → P h
  by_parents P step h = up_to P step h h (omega arith)

  pub inside_small : (h g : ℕ) → inside parents h g ≡ true → g ≤ h
  inside_small h g = by_parents (λ h. inside parents h g ≡ true → g ≤ h) (λ h above within. elim (inside_cases h g within) [
    | inl same ↦ omega arith
    | inr up ↦ let low = rooted h up.0 in let small = above up.0 up.1 in omega arith
  ]) h

  -- of two groups that h lies inside, the one of larger number lies inside the other
  inside_between : (h g k : ℕ) → inside parents h g ≡ true → inside parents h k ≡ true → k < g → inside parents g k ≡ true
  inside_between h g k inG inK less = by_parents
      (λ h. inside parents h g ≡ true → inside parents h k ≡ true → inside parents g k ≡ true)
      (λ h above inG inK. elim (inside_cases h g inG) [
        | inl same ↦ rw same at inK
        | inr up ↦ elim (inside_cases h k inK) [
          | inl top ↦ let small = inside_small h g inG in absurd (omega arith)
          | inr further ↦ above up.0 up.1 further.1
        ]
      ])
      h inG inK

  inside_through : (h g k : ℕ) → inside parents h g ≡ true → inside parents g k ≡ true → inside parents h k ≡ true
  inside_through h g k inG onward = by_parents
      (λ h. inside parents h g ≡ true → inside parents h k ≡ true)
      (λ h above inG. elim (inside_cases h g inG) [
        | inl same ↦ rw same onward
        | inr up ↦ inside_up h k up.0 (above up.0 up.1)
      ])
      h inG

  -- the members of a group are the numbers whose home lies inside it
  pub tree_laminar : (m : ℕ) (homes : ℕ → ℕ) → Laminar m (λ g c. inside parents (homes c) g)
  tree_laminar m homes g k below less = elim (cases_Bool (inside parents g k)) [
    | inl inner ↦ inl (λ c member. inside_through (homes c) g k member inner)
    | inr apart ↦ inr (λ c member. false_from_ne_true (inside parents (homes c) k)
        (λ also. both_ways (inside parents g k) apart (inside_between (homes c) g k member also less)))
  ]
