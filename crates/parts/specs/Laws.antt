-- What is proved of a part, whatever was written to it. A statement takes the meaning that the part's
-- implementation gives to its settings. Assumes nothing.
use Rattle.std.specs.Prelude.{◌≡◌, ℕ, ◌≤◌, Bool, true}
use Rattle.matroid.specs.Matroids.{Matroid, StrictOrder}
use Rattle.matroid.specs.Sets.{Set, card}
use Rattle.parts.specs.Limits.{applications}

-- The independent sets of the rule are those of a matroid.
abbrev pub AlwaysAMatroid : {R S : Type 0} → (settings : R → S) (independent : S → Set → Bool) → Type 0
AlwaysAMatroid {R} settings independent = (r : R) → Matroid applications (independent (settings r))

-- The ranking is a strict order of all the applications.
abbrev pub AlwaysAStrictOrder : {K S : Type 0} → (settings : K → S) (before : S → ℕ → ℕ → Bool) → Type 0
AlwaysAStrictOrder {K} settings before = (k : K) → StrictOrder applications (before (settings k))

-- U is independent below the truncation and has no more members than its cap
abbrev pub WithinTheCap : (independent : Set → Bool) (most : ℕ) → Set → Type 0
WithinTheCap independent most U = (independent U ≡ true) × (card applications U ≤ most)
