-- What is proved of the supplied rankings, whatever was written to them. A statement takes the meaning
-- that the ranking's implementation gives to its settings. Assumes nothing.
use Rattle.std.specs.Prelude.{◌≡◌, ℕ, ◌<◌, Bool, ◌⊎◌, List, ℤ, ◌<ℤ◌, Decides}
use Rattle.rankings.specs.Ranks.{rank_of}
use Rattle.rankings.specs.Scores.{score_of}
use Rattle.rankings.specs.declared.rank_list.RankList.{RankList}
use Rattle.rankings.specs.declared.scores.Scores.{Scores}

-- An application precedes another exactly when its rank is the smaller.
abbrev pub SmallerRanksPrecede : (RankList → List ℕ) → (List ℕ → ℕ → ℕ → Bool) → Type 0
SmallerRanksPrecede settings before = (list : RankList) (a b : ℕ)
    → Decides (before (settings list) a b) (rank_of list.ranks a < rank_of list.ranks b)

-- An application precedes another exactly when its score is the larger, or the scores are equal and
-- its number is the smaller.
abbrev pub LargerScoresPrecede : (Scores → List ℤ) → (List ℤ → ℕ → ℕ → Bool) → Type 0
LargerScoresPrecede settings before = (s : Scores) (a b : ℕ) → Decides (before (settings s) a b)
    ((score_of s.scores b <ℤ score_of s.scores a) ⊎ ((score_of s.scores a ≡ score_of s.scores b) × (a < b)))
