-- The meaning of a side: what its rule can accept, and which application its ranking puts before
-- which. Assumes nothing.
use Rattle.std.specs.Prelude.{ℕ, Bool}
use Rattle.matroid.specs.Sets.{Set}
use Rattle.matroid.specs.Matroids.{Side}
use Rattle.clearing.specs.declared.side.Side as code

-- the side of a rule and a ranking: the independent sets of the rule's settings, and the order of the
-- ranking's settings, which are called `meant` here
abbrev pub side_of : {R K S U : Type 0} → (settings : R → S) (independent : S → Set → Bool)
    (meant : K → U) (before : U → ℕ → ℕ → Bool) → code.Side R K S U → Side
side_of settings independent meant before side =
    record { independent = independent (settings side.rule.now); precedes = before (meant side.ranking.now) }
