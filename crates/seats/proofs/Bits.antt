-- The bits of a mask: of what two masks have in common, of a mask without a place, and where the zeros
-- at a mask's end lead to. Assumes nothing.
use Rattle.std.proofs.Common.{◌≡◌, ℕ, ◌-◌, ◌*◌, ◌%◌, ◌^◌, ◌<◌, ◌≤◌, true, false, eqb, sym, ap, ◌∙◌, inl, inr, w32, arith}
use Rattle.std.specs.Int.{bit_not, trailing_zeros}
use Rattle.std.specs.Int.Count.{trailing_of_zero}
use lib.Bits.{bit_and}
use Rattle.std.proofs.lemmas.Nat.{and_le_l}
use Rattle.std.proofs.lemmas.Nat.Bits.{bit_at_above, bit_at_and, bit_at_clear_other, bit_at_clear_same, bit_at-lt, bit_at_ones, bit_at-trailing_zeros, bit_at-zero}
use Rattle.std.proofs.lemmas.Bool.{cases_eq, cases_lt}
use Rattle.std.proofs.lemmas.Bool.Decides.{nat_tests}
use Rattle.matroid.specs.Sets.{◌∖◌}
use Rattle.seats.specs.Places.{bit, common, FirstCommon}

-- the largest number of 32 bits has them all
pub bit_all : (p : ℕ) → p < 32 → bit (2 ^ 32 - 1) p ≡ true
bit_all p low = ap (λ d. eqb d 1) (bit_at_ones 32 p low)

bit_both : (a b p : ℕ) → bit (bit_and a b) p ≡ common a b p
bit_both a b p =
    let least = bit_at_and a b p in
    let a_digit = bit_at-lt a p in
    let b_digit = bit_at-lt b p in
    grind (arith, nat_tests)

bit_past : (n p : ℕ) → n < 2 ^ 32 → 32 ≤ p → bit n p ≡ false
bit_past n p small past = ap (λ d. eqb d 1) (bit_at_above n 32 p small past)

-- the bits of a mask without the bit s, which the code clears by `!(1 << k)`
pub bit_without : (n k s : ℕ) → n < 2 ^ 32 → s < 32 → k ≡ s → (p : ℕ) → bit (bit_and n (bit_not w32 (1 * 2 ^ k % 2 ^ 32))) p ≡ (bit n ∖ eqb s) p
bit_without n k s small low same p = rw same (elim (cases_eq p s) [
  | inl e ↦ let clear = bit_at_clear_same w32 n s low in grind (arith, nat_tests)
  | inr other ↦ elim (cases_lt p 32) [
    | inl within ↦ let kept = bit_at_clear_other w32 n s low p within other in grind (arith, nat_tests)
    | inr past ↦ let none = bit_past n p small past in bit_both n _ p ∙ grind (arith, nat_tests)
  ]
])

module _ (a b : ℕ) (small : a < 2 ^ 32) where
  both_small : bit_and a b < 2 ^ 32
  both_small = omega (arith, and_le_l a b)

  -- where two masks have nothing but zeros in common, they have no place in common
  pub none_common : 32 ≤ trailing_zeros w32 (bit_and a b) → (p : ℕ) → common a b p ≡ false
  none_common zeros p = elim (cases_lt 0 (bit_and a b)) [
    | inl some ↦ let lowest = bit_at-trailing_zeros w32 (bit_and a b) some both_small in absurd (omega arith)
    | inr none ↦
        let empty : bit_and a b ≡ 0 = omega arith in
        sym (bit_both a b p) ∙ ap (λ n. bit n p) empty ∙ ap (λ d. eqb d 1) (bit_at-zero p)
  ]

  -- otherwise the zeros at the end of what they have in common lead to the first place
  pub first_is_common : (p : ℕ) → p < 32 → p ≡ trailing_zeros w32 (bit_and a b) → FirstCommon a b p
  first_is_common p low at = elim (cases_lt 0 (bit_and a b)) [
    | inl some ↦
        let lowest = bit_at-trailing_zeros w32 (bit_and a b) some both_small in
        record {
          here = rw at (sym (bit_both a b _) ∙ ap (λ d. eqb d 1) lowest.1);
          before = λ q h. sym (bit_both a b q) ∙ ap (λ d. eqb d 1) (lowest.2 q (omega arith));
        }
    | inr none ↦
        let empty : bit_and a b ≡ 0 = omega arith in
        let whole : trailing_zeros w32 (bit_and a b) ≡ 32 = rw empty (trailing_of_zero 32) in
        absurd (omega arith)
  ]
