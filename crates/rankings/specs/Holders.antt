-- How a rank list keeps the application of each rank beside the rank of each application. Assumes nothing.
use Rattle.std.specs.Prelude.{◌≡◌, ℕ, ◌<◌, List, length}
use Rattle.parts.specs.Limits.{applications}
use Rattle.parts.specs.Rows.{number_at}
use Rattle.rankings.specs.Ranks.{rank_of}
use Rattle.parts.specs.declared.numbers.Application.{Application}

-- A row of holders has at place r the application whose rank is r. This is its number.
abbrev pub holder_of : List Application → ℕ → ℕ
holder_of = number_at

-- The two rows belong together: there are 256 ranks and 256 holders, each rank is below 256, holders
-- undo ranks, and ranks undo holders.
abbrev pub Paired : List ℕ → List Application → Type 0
Paired ranks holders =
    (length ranks ≡ applications) × (length holders ≡ applications)
    × ((c : ℕ) → c < applications → rank_of ranks c < applications)
    × ((c : ℕ) → c < applications → holder_of holders (rank_of ranks c) ≡ c)
    × ((r : ℕ) → r < applications → rank_of ranks (holder_of holders r) ≡ r)
