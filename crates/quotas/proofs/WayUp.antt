-- The groups that are still ahead on the way up: past group h they are the same but for h itself.
-- Assumes nothing.
use Rattle.std.proofs.Common.{◌≡◌, ℕ, ◌+◌, ◌<◌, Bool, false, cond, List, length, get_or, set, Some, None, Option, refl, arith}
use Rattle.std.proofs.lemmas.Grind.{common_steps}
use Rattle.matroid.specs.Trees.{inside, Rooted}
use Rattle.matroid.proofs.Trees.{inside_self, inside_small, inside_step}
use Rattle.parts.specs.Numbers.{Group}
use Rattle.quotas.specs.Climbs.{NextUp}

-- the groups from the next one on the way up
abbrev pub ahead : (ℕ → ℕ) → Option Group → ℕ → Bool
ahead parents None g = false
ahead parents (Some h) g = inside parents h.number g

-- how much of the way is left
abbrev pub left : Option Group → ℕ
left None = 0
left (Some h) = h.number + 1

module _ (parents : ℕ → ℕ) (rooted : Rooted parents) where
  -- past group h every other group is ahead exactly if it was
  ahead_other : (h : Group) (next : Option Group) → NextUp parents h.number next → (g : ℕ) → (g ≡ h.number → ⊥)
      → ahead parents next g ≡ ahead parents (Some h) g
  ahead_other h None top g other = grind (arith, inside_step parents rooted h.number g)
  ahead_other h (Some p) up g other = grind (arith, inside_step parents rooted h.number g)

  -- and group h is behind
  ahead_none : (h : Group) (next : Option Group) → NextUp parents h.number next → ahead parents next h.number ≡ false
  ahead_none h None top = refl
  ahead_none h (Some p) up = grind (arith, inside_small, rooted)

  -- one member more for group h: what is counted and what is ahead come to the same as before
  pub count_here : (counts : List ℕ) (h : Group) (next : Option Group) (at : ℕ) → at ≡ h.number → at < length counts
      → NextUp parents h.number next
      → (g : ℕ) → get_or (set counts at (get_or counts at 0 + 1)) g 0 + cond (ahead parents next g) 1 0
      ≡ get_or counts g 0 + cond (ahead parents (Some h) g) 1 0
  count_here counts h next at is within up g = grind (arith, common_steps, ahead_other, ahead_none, inside_self)
