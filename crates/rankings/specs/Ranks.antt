-- The rank list: each of 256 applications has a rank of its own, and the smaller rank precedes.
-- A row of ranks has the rank of application c at place c. Assumes nothing.
use Rattle.std.specs.Prelude.{◌≡◌, ℕ, ◌<◌, Bool, cond, List, map, length, ◌==◌, nat_lt, slice_index, slice_set, Ok}
use Rattle.parts.specs.Limits.{applications}
use Rattle.parts.specs.Outcomes.{Outcome, refuses}
use Rattle.parts.specs.declared.refusal.Cause.TheVariants.{UnusedKey, ValueAboveLimit}

-- the rank of application c
abbrev pub rank_of : List ℕ → ℕ → ℕ
rank_of ranks c = slice_index ranks c

-- Each rank belongs to one application: there are 256 ranks, each is below 256, and no two applications
-- have the same.
pub record Distinct (ranks : List ℕ) : Type 0 where
  pub long : length ranks ≡ applications
  pub small : (c : ℕ) → c < applications → rank_of ranks c < applications
  pub apart : (a b : ℕ) → a < applications → b < applications → rank_of ranks a ≡ rank_of ranks b → a ≡ b

-- At first c has rank c.
abbrev pub RankedByNumber : List ℕ → Type 0
RankedByNumber ranks = (c : ℕ) → c < applications → rank_of ranks c ≡ c

-- the smaller rank precedes
abbrev pub rank_before : List ℕ → ℕ → ℕ → Bool
rank_before ranks a b = nat_lt (rank_of ranks a) (rank_of ranks b)

-- whoever had rank v gets the former rank of c, and c gets v
abbrev pub exchanged : List ℕ → ℕ → ℕ → List ℕ
exchanged ranks c v = slice_set (map (λ r. cond (r == v) (rank_of ranks c) r) ranks) c v

-- Key c with value v gives application c the rank v. A key above 255 is refused first, then a value above 255.
abbrev pub ranks_written : List ℕ → ℕ → ℕ → Outcome (List ℕ)
ranks_written ranks key value =
    cond (nat_lt key applications)
    (cond (nat_lt value applications) (Ok (exchanged ranks key value)) (refuses ValueAboveLimit key))
    (refuses UnusedKey key)
