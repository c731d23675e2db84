-- The places that a mask allows. Assumes nothing.
use Rattle.std.specs.Prelude.{◌≡◌, ℕ, ◌/◌, ◌%◌, ◌^◌, ◌<◌, Bool, true, false, ◌&&◌, List, ◌==◌, slice_index_or}
use Rattle.seats.specs.declared.places.Places.{Places}

-- bit p of a number
abbrev pub bit : ℕ → ℕ → Bool
bit mask p = mask / 2 ^ p % 2 == 1

-- place p is in both masks
abbrev pub common : ℕ → ℕ → ℕ → Bool
common a b p = bit a p && bit b p

-- place p is in both masks, and no smaller one is
pub record FirstCommon (a b p : ℕ) : Type 0 where
  pub here : common a b p ≡ true
  pub before : (q : ℕ) → q < p → common a b q ≡ false

-- the mask of application c, in a row of masks
abbrev pub mask_of : List Places → ℕ → Places
mask_of masks c = slice_index_or masks c (record { 0 = 0 })

-- application c is allowed place p
abbrev pub allowed : List Places → ℕ → ℕ → Bool
allowed masks c = bit (mask_of masks c).0
