-- The scores: each application has a signed score, and the larger score precedes; of equal scores the
-- smaller number does. A row of scores has the score of application c at place c. Assumes nothing.
use Rattle.std.specs.Prelude.{ℕ, Bool, cond, ◌&&◌, ◌||◌, List, replicate, ℤ, pos, negsuc, ◌-ℤ◌, ◌≤ℤ◌, int_le, int_lt, nat_le, nat_lt, slice_index_or, slice_set, Ok}
use Rattle.parts.specs.Limits.{applications}
use Rattle.parts.specs.Outcomes.{Outcome, refuses}
use Rattle.parts.specs.declared.refusal.Cause.TheVariants.{UnusedKey, ValueAboveLimit}

-- the score of application c
abbrev pub score_of : List ℤ → ℕ → ℤ
score_of scores c = slice_index_or scores c (pos 0)

-- Every score is from −1,000 to 1,000. (`negsuc 999` is −1,000.)
abbrev pub WithinThousand : List ℤ → Type 0
WithinThousand scores = (c : ℕ) → (negsuc 999 ≤ℤ score_of scores c) × (score_of scores c ≤ℤ pos 1000)

-- the larger score precedes, and of equal scores the smaller number: where the score of b is not the
-- larger and a is the smaller number, a precedes in either case
abbrev pub score_before : List ℤ → ℕ → ℕ → Bool
score_before scores a b =
    int_lt (score_of scores b) (score_of scores a) || (int_le (score_of scores b) (score_of scores a) && nat_lt a b)

-- scores start at 0
abbrev pub first_scores : List ℤ
first_scores = replicate applications (pos 0)

-- Key c with value v sets the score of application c to v − 1,000. A key above 255 is refused first, then
-- a value above 2,000.
abbrev pub scores_written : List ℤ → ℕ → ℕ → Outcome (List ℤ)
scores_written scores key value =
    cond (nat_lt key applications)
    (cond (nat_le value 2000) (Ok (slice_set scores key (pos value -ℤ pos 1000))) (refuses ValueAboveLimit key))
    (refuses UnusedKey key)
