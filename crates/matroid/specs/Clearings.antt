-- What a clearing comes to. Assumes nothing.
use Rattle.std.specs.Prelude.{◌≡◌, ℕ, ◌+◌, ◌≤◌}
use Rattle.matroid.specs.Sets.{Set, card}
use Rattle.matroid.specs.Matroids.{Side}
use Rattle.matroid.specs.Kernels.{BestKernel}
use Rattle.matroid.specs.Turns.{Ends}

-- The list and the turn count are those of deferred acceptance, and no others are; the turns are at most
-- one more than the live applications; and the list is the kernel that serves side one best.
pub record Clearing (n : ℕ) (one two : Side) (live : Set) (turns : ℕ) (list : Set) : Type 0 where
  pub ends : Ends one two live turns list
  pub determined : (t : ℕ) (other : Set) → Ends one two live t other → (turns ≡ t) × (list ≡ other)
  pub bounded : turns ≤ card n live + 1
  pub serves : BestKernel n one two live list
