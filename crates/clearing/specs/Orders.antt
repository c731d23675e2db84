-- Rows of all the applications, and rows in the order of a ranking. Assumes nothing.
use Rattle.std.specs.Prelude.{◌≡◌, ℕ, ◌<◌, Bool, true, List, length}
use Rattle.parts.specs.Limits.{applications}
use Rattle.parts.specs.Rows.{number_at}
use Rattle.parts.specs.declared.numbers.Application.{Application}

-- every application stands in the row, each at one place
pub record Complete (row : List Application) : Type 0 where
  pub long : length row ≡ applications
  pub below : (i : ℕ) → i < applications → number_at row i < applications
  pub once : (i j : ℕ) → i < applications → j < applications → number_at row i ≡ number_at row j → i ≡ j
  pub stands : (x : ℕ) → x < applications → (i : ℕ) × (i < applications) × (number_at row i ≡ x)

-- the row holds every application, each before those that it precedes
pub record InOrder (before : ℕ → ℕ → Bool) (row : List Application) : Type 0 where
  pub complete : Complete row
  pub ordered : (i j : ℕ) → i < j → j < applications → before (number_at row i) (number_at row j) ≡ true
