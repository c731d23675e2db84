-- Tests over all the numbers below a bound. Assumes nothing.
use Rattle.std.specs.Prelude.{ℕ, zero, suc, Bool, true, not, ◌&&◌}

-- the test passes at every number below n
unfoldable pub every : ℕ → (ℕ → Bool) → Bool
every zero test = true
every (suc n) test = every n test && test n

-- the test passes at some number below n
abbrev pub some : ℕ → (ℕ → Bool) → Bool
some n test = not (every n (λ x. not (test x)))
