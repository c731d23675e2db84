-- Domination, span and kernels. Assumes nothing.
use Rattle.std.specs.Prelude.{◌≡◌, ℕ, true, not, ◌||◌}
use Rattle.matroid.specs.Sets.{Set, ◌⊆◌, ◌∪◌, ◌∩◌, ◌∖◌, add, card}
use Rattle.matroid.specs.Matroids.{Side}
use Rattle.matroid.specs.Choices.{preceding}

-- K dominates e on the side: the members of K that precede e there, together with e, are not
-- independent there. Members that e precedes do not count.
abbrev pub dominates : Side → Set → Set
dominates side K e = not (side.independent (add (preceding side K e) e))

-- An independent K spans e on the side: e is in K, or K together with e is not independent there.
abbrev pub spans : Side → Set → Set
spans side K e = K e || not (side.independent (add K e))

-- A kernel of the live applications: some of them, independent on both sides, that dominate every
-- other live application on at least one side.
pub record Kernel (one two : Side) (live K : Set) : Type 0 where
  pub within : K ⊆ live
  pub independent_one : one.independent K ≡ true
  pub independent_two : two.independent K ≡ true
  pub dominating : live ∖ K ⊆ dominates one K ∪ dominates two K

-- K and M have as many members, counted below n, and on each side they span the same live applications.
pub record Alike (n : ℕ) (one two : Side) (live K M : Set) : Type 0 where
  pub size : card n K ≡ card n M
  pub span_one : live ∩ spans one K ≡ live ∩ spans one M
  pub span_two : live ∩ spans two K ≡ live ∩ spans two M

-- The kernel that serves side one best: each application of every kernel is on the list, or the list
-- dominates it on side one; and no kernel differs from the list in its size or in what it spans.
pub record BestKernel (n : ℕ) (one two : Side) (live list : Set) : Type 0 where
  pub kernel : Kernel one two live list
  pub best : (K : Set) → Kernel one two live K → K ⊆ list ∪ dominates one list
  pub alike : (K : Set) → Kernel one two live K → Alike n one two live K list
