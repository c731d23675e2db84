-- Who holds which place. A row of holders has at p the application that holds place p, if one does.
-- Assumes nothing.
use Rattle.std.specs.Prelude.{◌≡◌, ℕ, ◌<◌, Bool, true, false, List, Some, None, Option, ◌==◌, slice_index_or}
use Rattle.matroid.specs.Sets.{Set}
use Rattle.matroid.specs.Tests.{some}
use Rattle.parts.specs.Limits.{applications, places}
use Rattle.parts.specs.declared.numbers.Application.{Application}
use Rattle.seats.specs.Places.{allowed}
use Rattle.seats.specs.declared.places.Places.{Places}

-- the holder is the application of that number
abbrev pub is_holder : Option Application → ℕ → Bool
is_holder None x = false
is_holder (Some a) x = a.0 == x

-- application x holds place p
abbrev pub holds_place : List (Option Application) → ℕ → ℕ → Bool
holds_place holders x p = is_holder (slice_index_or holders p None) x

-- the applications that hold a place
abbrev pub seated : List (Option Application) → Set
seated holders x = some places (holds_place holders x)

-- Every holder is one of the applications and is allowed its place, and nobody holds two places.
pub record Proper (masks : List Places) (holders : List (Option Application)) : Type 0 where
  pub real : (x p : ℕ) → p < places → holds_place holders x p ≡ true → x < applications
  pub lawful : (x p : ℕ) → p < places → holds_place holders x p ≡ true → allowed masks x p ≡ true
  pub once : (x p q : ℕ) → p < places → q < places → holds_place holders x p ≡ true → holds_place holders x q ≡ true → p ≡ q

-- The members of S, and nobody else, hold places: different ones, each allowed.
pub record Seating (masks : List Places) (holders : List (Option Application)) (S : Set) : Type 0 where
  pub proper : Proper masks holders
  pub all : seated holders ≡ S
