-- The truncation, a layer over any rule: what its settings mean, and what a write makes of them. Assumes nothing.
use Rattle.std.specs.Prelude.{ℕ, ◌-◌, ◌≤◌, Bool, cond, ◌==◌, nat_le, Ok, Err}
use Rattle.matroid.specs.Sets.{Set}
use Rattle.matroid.specs.Truncations.{truncated}
use Rattle.parts.specs.Limits.{applications}
use Rattle.parts.specs.Outcomes.{Outcome, refuses, refusal_above}
use Rattle.parts.specs.declared.numbers.Cap.{Cap}
use Rattle.parts.specs.declared.refusal.Cause.TheVariants.{ValueAboveLimit}
use Rattle.parts.specs.declared.truncation.Capped.{Capped}

module _ {Settings : Type 0} where
  -- sound settings: the cap is from 0 to 256, and the settings below are sound
  abbrev pub CappedSound : (Settings → Type 0) → Capped Settings → Type 0
  CappedSound sound s = (s.«cap».0 ≤ 256) × sound s.below

  -- a set is independent exactly when it is so below and has no more members than the cap
  abbrev pub capped_independent : (Settings → Set → Bool) → Capped Settings → Set → Bool
  capped_independent independent s = truncated applications s.«cap».0 (independent s.below)

  -- key 0 sets the cap, to 256 at most
  abbrev pub cap_written : Capped Settings → ℕ → Outcome (Capped Settings)
  cap_written s value = cond (nat_le value 256) (Ok (record { «cap» = record { 0 = value }; below = s.below })) (refuses ValueAboveLimit 0)

  -- what came of a write below, seen from above: the same cap over the settings after it, or the refusal, passed up
  abbrev pub passed_up : Cap → Outcome Settings → Outcome (Capped Settings)
  passed_up most (Ok new) = Ok (record { «cap» = most; below = new })
  passed_up most (Err why) = Err (refusal_above why)

  -- what comes of a write; key k above 0 goes below as k − 1
  abbrev pub capped_written : (Settings → ℕ → ℕ → Outcome Settings) → Capped Settings → ℕ → ℕ → Outcome (Capped Settings)
  capped_written written s key value = cond (key == 0) (cap_written s value) (passed_up s.«cap» (written s.below (key - 1) value))
