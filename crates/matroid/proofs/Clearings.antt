-- What deferred acceptance ends with is all that a clearing promises. Assumes nothing.
use Rattle.std.proofs.Common.{ℕ}
use Rattle.matroid.specs.Clearings.{Clearing}
use Rattle.matroid.specs.Matroids.{Side, Lawful}
use Rattle.matroid.specs.Sets.{Set, Below}
use Rattle.matroid.specs.Turns.{Ends}
use Rattle.matroid.proofs.Kernels.{every_kernel_is_alike, list_is_a_kernel, list_is_best}
use Rattle.matroid.proofs.Once.{ends_once}
use Rattle.matroid.proofs.Runs.{turns_bounded}

module _ (n : ℕ) (one two : Side) (lawful_one : Lawful n one) (lawful_two : Lawful n two)
    (live : Set) (below : Below n live) where
  pub clearing_from : (turns : ℕ) (list : Set) → Ends one two live turns list → Clearing n one two live turns list
  clearing_from turns list ends = record {
    ends = ends;
    determined = λ t other. ends_once n one two lawful_one lawful_two live below turns t list other ends;
    bounded = turns_bounded n one two lawful_one lawful_two live below turns list ends;
    serves = record {
      kernel = list_is_a_kernel n one two lawful_one lawful_two live below turns list ends;
      best = list_is_best n one two lawful_one lawful_two live below turns list ends;
      alike = every_kernel_is_alike n one two lawful_one lawful_two live below turns list ends;
    };
  }
