-- Conversions of numbers. Assumes nothing.
use Rattle.std.specs.Prelude.{◌≡◌, ℕ, ◌<◌, ◌≤◌, MatchResult, Result}
use Rattle.parts.specs.declared.refusal.Cause.{Cause}

-- A number below the limit converts to a value that has it, and any other number gives the cause.
abbrev pub ConvertsBelow : {T : Type 0} → (limit : ℕ) (cause : Cause) (number_of : T → ℕ) → ℕ → Result T Cause → Type 0
ConvertsBelow limit cause number_of number result =
    MatchResult result (λ x. (number < limit) × (number_of x ≡ number)) (λ why. (limit ≤ number) × (why ≡ cause))
