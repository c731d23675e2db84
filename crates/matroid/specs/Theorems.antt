-- The theorems that the public functions of this crate promise. Assumes nothing.
use Rattle.std.specs.Prelude.{◌≡◌, ℕ, ◌+◌, ◌≤◌, Bool, true, ◌&&◌, ◌||◌, Decides, ◌==◌, nat_lt}
use Rattle.matroid.specs.Sets.{Set, ◌∈◌, ◌⊆◌, ◌∪◌, ◌∩◌, ◌∖◌, Below, card}
use Rattle.matroid.specs.Matroids.{Matroid, Side, Lawful}
use Rattle.matroid.specs.Choices.{Choice}
use Rattle.matroid.specs.Kernels.{dominates, spans, Kernel, Alike}
use Rattle.matroid.specs.Turns.{Ends}
use Rattle.matroid.specs.Laminar.{Laminar, within_caps}
use Rattle.matroid.specs.Trees.{inside, Rooted}
use Rattle.matroid.specs.Assignments.{Assignment, assignable}
use Rattle.matroid.specs.Truncations.{truncated}

-- What a side chooses from a set it also chooses from every part of that set that holds it.
abbrev pub ChoiceFromAPart : Type 0
ChoiceFromAPart = (n : ℕ) (side : Side) → Lawful n side → (A B K M : Set) → A ⊆ B → Below n B
    → Choice side A K → Choice side B M → (x : ℕ) → x ∈ A → x ∈ M → x ∈ K

-- A side has a choice from every set.
abbrev pub ChoiceExists : Type 0
ChoiceExists = (n : ℕ) (side : Side) → Lawful n side → (A : Set) → Below n A → (K : Set) × Choice side A K

-- A side has no two choices from a set.
abbrev pub ChoiceIsUnique : Type 0
ChoiceIsUnique = (n : ℕ) (side : Side) → Lawful n side → (A K M : Set) → Below n A
    → Choice side A K → Choice side A M → K ≡ M

-- A choice is independent.
abbrev pub ChoiceIsIndependent : Type 0
ChoiceIsIndependent = (n : ℕ) (side : Side) → Lawful n side → (A K : Set) → Below n A → Choice side A K
    → side.independent K ≡ true

-- A choice spans all that it was chosen from.
abbrev pub ChoiceSpans : Type 0
ChoiceSpans = (n : ℕ) (side : Side) → Lawful n side → (A K : Set) → Below n A → Choice side A K → A ⊆ spans side K

-- A choice leaves out exactly what it dominates of the set that it was chosen from.
abbrev pub ChoiceLeavesTheDominated : Type 0
ChoiceLeavesTheDominated = (side : Side) (A K : Set) → Choice side A K → A ∖ K ≡ A ∩ dominates side K

-- Deferred acceptance takes at most one turn more than there are live applications.
abbrev pub TurnsBounded : Type 0
TurnsBounded = (n : ℕ) (one two : Side) → Lawful n one → Lawful n two → (live : Set) → Below n live
    → (turns : ℕ) (list : Set) → Ends one two live turns list → turns ≤ card n live + 1

-- Deferred acceptance ends.
abbrev pub EndsAlways : Type 0
EndsAlways = (n : ℕ) (one two : Side) → Lawful n one → Lawful n two → (live : Set) → Below n live
    → (turns : ℕ) × (list : Set) × Ends one two live turns list

-- It ends in one way: two runs have the same turn count and the same list.
abbrev pub EndsOnce : Type 0
EndsOnce = (n : ℕ) (one two : Side) → Lawful n one → Lawful n two → (live : Set) → Below n live
    → (turns more : ℕ) (list other : Set) → Ends one two live turns list → Ends one two live more other
    → (turns ≡ more) × (list ≡ other)

-- The list is a kernel.
abbrev pub ListIsAKernel : Type 0
ListIsAKernel = (n : ℕ) (one two : Side) → Lawful n one → Lawful n two → (live : Set) → Below n live
    → (turns : ℕ) (list : Set) → Ends one two live turns list → Kernel one two live list

-- Each application of every kernel is on the list, or the list dominates it on side one.
abbrev pub ListIsBest : Type 0
ListIsBest = (n : ℕ) (one two : Side) → Lawful n one → Lawful n two → (live : Set) → Below n live
    → (turns : ℕ) (list : Set) → Ends one two live turns list
    → (K : Set) → Kernel one two live K → K ⊆ list ∪ dominates one list

-- Every kernel spans, on each side, the same live applications as the list, and has as many members.
abbrev pub KernelsAreAlike : Type 0
KernelsAreAlike = (n : ℕ) (one two : Side) → Lawful n one → Lawful n two → (live : Set) → Below n live
    → (turns : ℕ) (list : Set) → Ends one two live turns list
    → (K : Set) → Kernel one two live K → Alike n one two live K list

-- The sets that keep every cap of a laminar family of groups are the independent sets of a matroid.
abbrev pub LaminarIsMatroid : Type 0
LaminarIsMatroid = (n m : ℕ) (group : ℕ → Set) (caps : ℕ → ℕ) → Laminar m group → Matroid n (within_caps n m group caps)

-- A group lies inside itself and inside each group that its parent lies inside, and inside no other.
abbrev pub InsideByParents : Type 0
InsideByParents = (parents : ℕ → ℕ) → Rooted parents → (h g : ℕ)
    → inside parents h g ≡ (h == g || (nat_lt 0 h && inside parents (parents h) g))

-- The test says yes exactly when there is an assignment of different allowed places.
abbrev pub AssignableByAssignment : Type 0
AssignableByAssignment = (n m : ℕ) (allowed : ℕ → ℕ → Bool) (S : Set)
    → Decides (assignable n m allowed S) ((place : ℕ → ℕ) × Assignment n m allowed S place)

-- The sets whose members can be given different allowed places are the independent sets of a matroid.
abbrev pub TransversalIsMatroid : Type 0
TransversalIsMatroid = (n m : ℕ) (allowed : ℕ → ℕ → Bool) → Matroid n (assignable n m allowed)

-- The independent sets of a matroid that have no more members than a cap are those of a matroid.
abbrev pub TruncationIsMatroid : Type 0
TruncationIsMatroid = (n most : ℕ) (independent : Set → Bool) → Matroid n independent → Matroid n (truncated n most independent)
