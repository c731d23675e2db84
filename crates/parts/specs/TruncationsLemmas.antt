-- A truncation keeps its cap within 256 and the settings below sound, whatever is written to it.
-- Assumes nothing.
use Rattle.std.specs.Prelude.{ℕ, ◌-◌, ◌≤◌, Ok, Err, IfOk, ◌==◌, nat_le}
use Rattle.std.proofs.lemmas.Bool.{cond_both, leb-true}
use Rattle.parts.specs.Outcomes.{Outcome}
use Rattle.parts.specs.Truncations.{cap_written, CappedSound, capped_written, passed_up}
use Rattle.parts.specs.declared.numbers.Cap.{Cap}
use Rattle.parts.specs.declared.truncation.Capped.{Capped}

module _ {Settings : Type 0} (sound : Settings → Type 0) where
  -- the outcome leaves sound settings, if it is no refusal
  abbrev Keeps : Outcome (Capped Settings) → Type 0
  Keeps outcome = IfOk outcome (CappedSound sound)

  passed_keeps : (most : Cap) → most.0 ≤ 256 → (outcome : Outcome Settings) → IfOk outcome sound → Keeps (passed_up most outcome)
  passed_keeps most within (Ok new) keeps = (within, keeps)
  passed_keeps most within (Err why) keeps = tt

  cap_keeps : (s : Capped Settings) (value : ℕ) → sound s.below → Keeps (cap_written s value)
  cap_keeps s value below = cond_both (nat_le value 256) _ _ Keeps (λ low. (leb-true value 256 low, below)) (λ _. tt)

  module _ (written : Settings → ℕ → ℕ → Outcome Settings)
      (kept : (s : Settings) (key value : ℕ) → sound s → IfOk (written s key value) sound) where
    pub capped_written_sound : (s : Capped Settings) (key value : ℕ) → CappedSound sound s
        → IfOk (capped_written written s key value) (CappedSound sound)
    capped_written_sound s key value (within, below) = cond_both (key == 0) _ _ Keeps
        (λ _. cap_keeps s value below)
        (λ _. passed_keeps s.«cap» within _ (kept s.below (key - 1) value below))
