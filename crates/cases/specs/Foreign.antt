-- Two parts of another author: a gate, which is a rule, and an order by number, which is a ranking.
-- The settings of each are one switch: whether the gate is open, whether the order is falling. Assumes nothing.
use Rattle.std.specs.Prelude.{ℕ, Bool, cond, ◌||◌, ◌==◌, nat_le, nat_lt, Ok}
use Rattle.matroid.specs.Sets.{Set, card}
use Rattle.parts.specs.Limits.{applications}
use Rattle.parts.specs.Outcomes.{Outcome, refuses}
use Rattle.parts.specs.declared.refusal.Cause.TheVariants.{UnusedKey, ValueAboveLimit}

-- every set is independent while the gate is open, and only those without a member while it is closed
abbrev pub let_through : Bool → Set → Bool
let_through lets S = lets || card applications S == 0

-- the smaller number precedes, or, where the order is falling, the larger
abbrev pub number_before : Bool → ℕ → ℕ → Bool
number_before falling a b = cond falling (nat_lt b a) (nat_lt a b)

-- Key 0 with value 1 turns the switch on and with value 0 off. Another key is refused first, then a value above 1.
abbrev pub switched : Bool → ℕ → ℕ → Outcome Bool
switched _ key value = cond (key == 0) (cond (nat_le value 1) (Ok (value == 1)) (refuses ValueAboveLimit key)) (refuses UnusedKey key)
