use Rattle.std.proofs.Common.{ℕ, ℤ, pos, negsuc, ◌≤ℤ◌, replicate, rules}
use Rattle.std.proofs.lemmas.Grind.{common_steps}
use Rattle.rankings.specs.Scores.{WithinThousand}
use Rattle.rankings.proofs.scores.Scores.new.Goals as goal

-- one score within the limits, for every application
all_within : (n : ℕ) (score : ℤ) → negsuc 999 ≤ℤ score → score ≤ℤ pos 1000 → WithinThousand (replicate n score)
all_within n score low high = search (rules, common_steps)

pub invariant_of-result : goal.invariant_of-result
invariant_of-result c = search (rules, all_within)
