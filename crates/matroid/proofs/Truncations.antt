-- The independent sets of a matroid that have no more members than a cap are those of a matroid:
-- the smaller of two such sets stays within the cap with one member more. Assumes nothing.
use Rattle.std.proofs.Common.{◌≡◌, ℕ, ◌≤◌, Bool, true, le_trans, arith}
use Rattle.std.proofs.lemmas.Bool.Decides.{nat_tests}
use Rattle.matroid.specs.Sets.{Set, ∅, add, card}
use Rattle.matroid.specs.Matroids.{Matroid}
use Rattle.matroid.specs.Truncations.{truncated}
use Rattle.matroid.proofs.Cards.{card_add, card_empty, card_mono}

module _ (n most : ℕ) (independent : Set → Bool) where
  truncated_from : (S : Set) → independent S ≡ true → card n S ≤ most → truncated n most independent S ≡ true
  truncated_from S fits few = grind (arith, nat_tests)

  truncated_parts : (S : Set) → truncated n most independent S ≡ true → (independent S ≡ true) × (card n S ≤ most)
  truncated_parts S kept = grind (arith, nat_tests)

  pub truncation_matroid : Matroid n independent → Matroid n (truncated n most independent)
  truncation_matroid matroid = record {
    empty = truncated_from ∅ matroid.empty (omega (arith, card_empty n));
    subset = λ S U part kept.
        let (fits, few) = truncated_parts U kept in
        truncated_from S (matroid.subset S U part fits) (le_trans (card_mono n S U part) few);
    exchange = λ S U kept_s keptU more.
        let (fits_s, fewS) = truncated_parts S kept_s in
        let (fitsU, fewU) = truncated_parts U keptU in
        let (x, low, member, out, joined) = matroid.exchange S U fits_s fitsU more in
        (x, low, member, out, truncated_from (add S x) joined (omega (arith, card_add n S x low out)));
  }
