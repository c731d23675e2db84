-- Deferred acceptance, as relations between struck sets. Assumes nothing.
use Rattle.std.specs.Prelude.{◌≡◌, ℕ, ◌+◌, ◌≢◌}
use Rattle.matroid.specs.Sets.{Set, ∅, ◌∪◌, ◌∖◌}
use Rattle.matroid.specs.Matroids.{Side}
use Rattle.matroid.specs.Choices.{Choice}

-- One turn over the live applications: of those not struck side one offers its choice, of the
-- struck and the offered side two keeps its choice, and what side two leaves is struck from now on.
pub record Turn (one two : Side) (live struck offered struck' : Set) : Type 0 where
  pub kept : Set
  pub offers : Choice one (live ∖ struck) offered
  pub keeps : Choice two (struck ∪ offered) kept
  pub strikes : struck' ≡ (struck ∪ offered) ∖ kept

-- After that many turns, each of which changed the struck set, so much is struck.
pub data Run (one two : Side) (live : Set) : ℕ → Set → Type 0 where
  start : Run one two live 0 ∅
  next : {turns : ℕ} {struck struck' : Set} (offered : Set) → Run one two live turns struck
      → Turn one two live struck offered struck' → (struck' ≢ struck) → Run one two live (turns + 1) struck'

-- Deferred acceptance ends with the list after that many turns: the last one, which counts too,
-- left the struck set as it was, and the list is what side one offered in it.
pub record Ends (one two : Side) (live : Set) (turns : ℕ) (list : Set) : Type 0 where
  pub before : ℕ
  pub struck : Set
  pub run : Run one two live before struck
  pub last : Turn one two live struck list struck
  pub count : turns ≡ before + 1
