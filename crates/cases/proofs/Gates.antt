-- What an open gate lets through, and a closed one does not. Assumes nothing.
use Rattle.std.proofs.Common.{◌≡◌, ℕ, ◌<◌, Bool, true, false, sym, refl, arith}
use Rattle.std.proofs.lemmas.Bool.{false≢true, ne_eqb}
use Rattle.matroid.specs.Sets.{Set, ∅, add, card}
use Rattle.matroid.proofs.Cards.{add_here, card_less}
use Rattle.parts.specs.Limits.{applications}
use Rattle.cases.specs.Foreign.{let_through}

-- a set that a number has been added to has a member, so only an open gate lets it through
pub added_passes : (lets : Bool) (S : Set) (x : ℕ) → x < applications → lets ≡ let_through lets (add S x)
added_passes true S x low = refl
added_passes false S x low =
    let member : card applications ∅ < card applications (add S x) =
    card_less applications ∅ (add S x) (λ y none. absurd (false≢true none)) x low (add_here S x) refl in
    sym (ne_eqb (card applications (add S x)) 0 (λ e. omega arith))
