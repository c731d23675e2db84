-- What a write to a part comes to. Assumes nothing.
use Rattle.std.specs.Prelude.{◌≡◌, ℕ, ◌+◌, min, List, ◌++◌, Ok, Err, codes, decimal, Result}
use Rattle.parts.specs.declared.refusal.Cause.{Cause}
use Rattle.parts.specs.declared.refusal.Cause.TheVariants.{UnusedKey, ValueAboveLimit, ParentNotSmaller}
use Rattle.parts.specs.declared.refusal.WriteRefusal.{WriteRefusal}

-- the number of each cause
abbrev pub cause_number : Cause → ℕ
cause_number UnusedKey = 1
cause_number ValueAboveLimit = 2
cause_number ParentNotSmaller = 3

-- the words for each cause
abbrev pub cause_text : Cause → List ℕ
cause_text UnusedKey = codes "the key has no use in this part"
cause_text ValueAboveLimit = codes "the value is above the limit of its key"
cause_text ParentNotSmaller = codes "the parent is not smaller than the group"

-- the words for a refusal
abbrev pub refusal_text : WriteRefusal → List ℕ
refusal_text refusal =
    codes "write refused at depth " ++ (decimal refusal.depth ++ (codes ", key " ++ (decimal refusal.key ++ (codes ": " ++ cause_text refusal.cause))))

-- the refusal of the part that was written to: no layer lies above it
abbrev pub refusal_here : Cause → ℕ → WriteRefusal
refusal_here cause key = record { cause = cause; depth = 0; key = key }

-- the refusal of the part below, as a layer passes it up: cause and key stay, the depth is one more,
-- and 65,535, the largest number of 16 bits, is raised no further
abbrev pub refusal_above : WriteRefusal → WriteRefusal
refusal_above refusal = record { cause = refusal.cause; depth = min (refusal.depth + 1) 65535; key = refusal.key }

-- What a part's settings make of a write: it is accepted, with the settings after it, or refused.
abbrev pub Outcome : Type 0 → Type 0
Outcome Settings = Result Settings WriteRefusal

-- a refusal by the part that was written to
abbrev pub refuses : {Settings : Type 0} → Cause → ℕ → Outcome Settings
refuses cause key = Err (refusal_here cause key)

-- A write that found the settings `before`, answered r and left the settings `after` did what the
-- outcome says: an accepted one leaves the new settings, a refused one answers why and leaves them.
abbrev pub Follows : {Settings : Type 0} → Outcome Settings → (before after : Settings) → Result (Unit {0}) WriteRefusal → Type 0
Follows (Ok new) before after r = (r ≡ Ok tt) × (after ≡ new)
Follows (Err why) before after r = (r ≡ Err why) × (after ≡ before)
