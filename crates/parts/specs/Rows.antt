-- Rows of applications. Assumes nothing.
use Rattle.std.specs.Prelude.{◌≡◌, ℕ, ◌<◌, List, length, slice_index_or}
use Rattle.parts.specs.Limits.{applications}
use Rattle.parts.specs.declared.numbers.Application.{Application}

-- the number of the application at a place of the row
abbrev pub number_at : List Application → ℕ → ℕ
number_at row place = (slice_index_or row place (record { 0 = 0 })).0

-- every application stands in the row, at the place of its number
pub record AllByNumber (row : List Application) : Type 0 where
  pub long : length row ≡ applications
  pub numbered : (i : ℕ) → i < applications → number_at row i ≡ i
