-- By any row of scores the larger score precedes, and of equal scores the smaller number, in a strict
-- order. Assumes nothing.
use Rattle.std.specs.Prelude.{◌≡◌, ℕ, ◌<◌, ◌⊎◌, List, ℤ, ◌<ℤ◌, Decides}
use Rattle.std.proofs.Common.{rules}
use Rattle.std.proofs.lemmas.Int.{ints}
use Rattle.matroid.specs.Matroids.{StrictOrder}
use Rattle.parts.specs.Limits.{applications}
use Rattle.rankings.specs.Scores.{score_before, score_of}

module _ (scores : List ℤ) where
  pub larger_precedes : (a b : ℕ) → Decides (score_before scores a b)
      ((score_of scores b <ℤ score_of scores a) ⊎ ((score_of scores a ≡ score_of scores b) × (a < b)))
  larger_precedes a b = search (rules, ints)

  pub scores_order : StrictOrder applications (score_before scores)
  scores_order = search (rules, ints)
