-- The seat bids: each application has a mask, and bit p of it allows the application place p. A row of
-- masks has the mask of application c at place c. Assumes nothing.
use Rattle.std.specs.Prelude.{ℕ, Bool, cond, List, set, replicate, nat_lt, Ok}
use Rattle.matroid.specs.Assignments.{Assignment, assignable}
use Rattle.matroid.specs.Sets.{Set}
use Rattle.parts.specs.Limits.{applications, places}
use Rattle.parts.specs.Outcomes.{Outcome, refuses}
use Rattle.parts.specs.declared.refusal.Cause.TheVariants.{UnusedKey}
use Rattle.seats.specs.Places.{allowed}
use Rattle.seats.specs.declared.places.Places.{Places}

-- masks start at 0
abbrev pub first_masks : List Places
first_masks = replicate applications (record { 0 = 0 })

-- a set is independent exactly when its members can be given different places, each allowed
abbrev pub seatable : List Places → Set → Bool
seatable masks = assignable applications places (allowed masks)

-- there is no assignment of different allowed places to the members of S
abbrev pub Unseatable : List Places → Set → Type 0
Unseatable masks S = (place : ℕ → ℕ) → Assignment applications places (allowed masks) S place → ⊥

-- Key c sets the mask of application c, to any value of 32 bits. A key above 255 is refused.
abbrev pub masks_written : List Places → ℕ → ℕ → Outcome (List Places)
masks_written masks key value =
    cond (nat_lt key applications) (Ok (set masks key (record { 0 = value }))) (refuses UnusedKey key)
