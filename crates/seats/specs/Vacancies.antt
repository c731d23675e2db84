-- What it comes to when an application looks for a place, step by step. Assumes nothing.
use Rattle.std.specs.Prelude.{◌≡◌, ℕ, ◌<◌, Bool, true, false, List, MatchBool, Option}
use Rattle.matroid.specs.Sets.{∅, add}
use Rattle.parts.specs.Limits.{places}
use Rattle.parts.specs.declared.numbers.Application.{Application}
use Rattle.seats.specs.Places.{allowed, bit}
use Rattle.seats.specs.Seatings.{holds_place, seated, Proper}
use Rattle.seats.specs.declared.places.Places.{Places}

-- Nobody holds a place, and so the seating is proper whatever the masks.
pub record Vacant (holders : List (Option Application)) : Type 0 where
  pub nobody : seated holders ≡ ∅
  pub proper : (masks : List Places) → Proper masks holders

-- Every place that application x is allowed has been tried.
abbrev pub Exhausted : List Places → ℕ → ℕ → Type 0
Exhausted masks untried x = (q : ℕ) → q < places → allowed masks x q ≡ true → bit untried q ≡ false

-- Each place that was tried, from `before` to `after`, is held by an application of which every allowed
-- place has been tried.
pub record Tried (masks : List Places) (holders : List (Option Application)) (before after : ℕ) : Type 0 where
  pub fewer : (p : ℕ) → bit after p ≡ true → bit before p ≡ true
  pub taken : (p : ℕ) → p < places → bit before p ≡ true → bit after p ≡ false
      → (x : ℕ) × (holds_place holders x p ≡ true) × Exhausted masks after x

-- The asked application found no room: every place that it is allowed has been tried too.
abbrev pub Blocked : List Places → List (Option Application) → (before after asked : ℕ) → Type 0
Blocked masks holders before after asked = Tried masks holders before after × Exhausted masks after asked

-- The asked application holds a place now, beside all that held one before.
pub record LetIn (masks : List Places) (before after : List (Option Application)) (asked : ℕ) : Type 0 where
  pub proper : Proper masks after
  pub all : seated after ≡ add (seated before) asked

-- What came of it when the asked application looked for a place: it found one, or it found none and left
-- the holders as they were.
abbrev pub Searched : List Places → (holders holders' : List (Option Application)) → (untried untried' asked : ℕ) → Bool → Type 0
Searched masks holders holders' untried untried' asked found =
    MatchBool found (LetIn masks holders holders' asked) ((holders' ≡ holders) × Blocked masks holders untried untried' asked)
