-- The turns of a clearing: a turn is made of two choices; what is struck is reached by turns that
-- each struck something new, so more is struck from turn to turn, there are few turns, and a turn
-- that strikes nothing new ends the clearing. Assumes nothing.
use Rattle.std.proofs.Common.{◌≡◌, ℕ, ◌+◌, ◌-◌, ◌<◌, ◌≤◌, refl, ap, arith}
use Rattle.std.specs.Prelude.{◌≢◌}
use Rattle.matroid.specs.Choices.{Choice}
use Rattle.matroid.specs.Clearings.{Clearing}
use Rattle.matroid.specs.Sets.{Set, ∅, ◌∪◌, ◌∖◌, Below, card}
use Rattle.matroid.specs.Matroids.{Side, Lawful}
use Rattle.matroid.specs.Turns.{Turn, Run, start, next, Ends}
use Rattle.matroid.proofs.Cards.{card_bound}
use Rattle.matroid.proofs.Clearings.{clearing_from}
use Rattle.matroid.proofs.Runs.{more_struck, turns_struck}
use Rattle.parts.specs.Limits.{applications}

-- one turn, by what was made of the sets on the way
pub turn_made : (one two : Side) (live struck unstruck offered shown kept struck' : Set) → unstruck ≡ live ∖ struck
    → Choice one unstruck offered → shown ≡ struck ∪ offered → Choice two shown kept → struck' ≡ shown ∖ kept
    → Turn one two live struck offered struck'
turn_made one two live struck unstruck offered shown kept struck' left offers showed keeps strikes =
    record { kept = kept; offers = rw left at offers; keeps = rw showed at keeps; strikes = rw showed at strikes }

-- As the turn of that number begins: the turns before it, each of which struck something new,
-- struck so much.
pub record Running (one two : Side) (live : Set) (turns : ℕ) (struck : Set) : Type 0 where
  pub before : ℕ
  pub count : turns ≡ before + 1
  pub run : Run one two live before struck

module _ (one two : Side) (live : Set) where
  pub running_first : (struck : Set) → struck ≡ ∅ → Running one two live 1 struck
  running_first struck none = record { before = 0; count = refl; run = rw none start }

  module _ (turns : ℕ) (struck : Set) (running : Running one two live turns struck) (offered struck' : Set)
      (turn : Turn one two live struck offered struck') where
    pub running_next : struck' ≢ struck → Running one two live (turns + 1) struck'
    running_next new = record {
      before = running.before + 1;
      count = ap (λ n. n + 1) running.count;
      run = next offered running.run turn new;
    }

    pub running_ends : struck' ≡ struck → Ends one two live turns offered
    running_ends same =
        record { before = running.before; struck = struck; run = running.run; last = rw same at turn; count = running.count }

  module _ (lawful_one : Lawful applications one) (lawful_two : Lawful applications two) (below : Below applications live)
      (turns : ℕ) (struck : Set) (running : Running one two live turns struck) where
    pub running_few : turns ≤ applications + 1
    running_few = omega (
      arith,
      running.count,
      turns_struck applications one two lawful_one lawful_two live below running.run,
      card_bound applications struck,
    )

    module _ (offered struck' : Set) (turn : Turn one two live struck offered struck') where
      pub running_less : struck' ≢ struck → applications - card applications struck' < applications - card applications struck
      running_less new = omega (
        arith,
        more_struck applications one two lawful_one lawful_two live below running.run offered struck' turn new,
        card_bound applications struck',
      )

      -- a turn that strikes nothing new ends the clearing
      pub running_cleared : struck' ≡ struck → Clearing applications one two live turns offered
      running_cleared same = clearing_from applications one two lawful_one lawful_two live below turns offered
          (running_ends turns struck running offered struck' turn same)
