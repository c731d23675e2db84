-- What stands under the keys of a quota tree. Assumes nothing.
use Rattle.std.specs.Prelude.{◌≡◌, ℕ, ◌+◌, ◌<◌, ◌≤◌, ◌⊎◌, Ok, Err, Result}
use Rattle.parts.specs.Limits.{applications}
use Rattle.parts.specs.Outcomes.{refuses}
use Rattle.parts.specs.declared.refusal.Cause.{Cause}
use Rattle.parts.specs.declared.refusal.WriteRefusal.{WriteRefusal}
use Rattle.quotas.specs.declared.quota_tree.keys.Setting.{Setting}
use Rattle.quotas.specs.declared.quota_tree.keys.Setting.TheVariants.{Cap, Parent, Home}

-- the setting stands under the key
abbrev pub StandsUnder : ℕ → Setting → Type 0
StandsUnder key (Cap group) = key ≡ group.number
StandsUnder key (Parent group) = (0 < group.number) × (key ≡ 128 + group.number)
StandsUnder key (Home application) = (application.0 < applications) × (key ≡ 256 + application.0)

-- no setting stands under the key: group 0 has no parent, and the last key is that of the last home
abbrev pub Unused : ℕ → Type 0
Unused key = (key ≡ 128) ⊎ (512 ≤ key)

-- the answer to a write with the key, where a refusal names the cause alone
abbrev pub at_key : ℕ → Result (Unit {0}) Cause → Result (Unit {0}) WriteRefusal
at_key key (Ok done) = Ok done
at_key key (Err cause) = refuses cause key
