-- The sets that keep every cap of a laminar family of groups are the independent sets of a
-- matroid. The exchange law is shown for the caps of the groups from k on, for k from m down to
-- 0: group k cuts the two sets in two, and in one of the parts the larger set still has more
-- members. A member found there by the law from k + 1 on keeps the caps of the groups in that
-- part, lies in none of the others, and keeps the cap of group k. Assumes nothing.
use Rattle.std.proofs.Common.{◌≡◌, ℕ, zero, suc, ◌+◌, ◌<◌, ◌≤◌, true, not, leb, ◌⊎◌, inl, inr, le_trans, arith}
use Rattle.std.proofs.lemmas.Bool.{and_parts, and_left, cases_lt, cases_eq, le-leb, leb-true, not-true}
use Rattle.std.proofs.lemmas.Bool.Decides.{nat_tests}
use Rattle.matroid.specs.Sets.{Set, ◌∈◌, ◌∉◌, ◌⊆◌, ∅, ◌∩◌, add, card}
use Rattle.matroid.specs.Matroids.{Matroid}
use Rattle.matroid.specs.Laminar.{Laminar, within_caps}
use Rattle.matroid.proofs.Cards.{card_empty, card_mono, card_add, card_split, card_finds}
use Rattle.matroid.proofs.Every.{every_at, every_from}

-- the numbers that are no members of M
abbrev outside : Set → Set
outside M x = not (M x)

part_⊆ : (S P : Set) → S ∩ P ⊆ S
part_⊆ S P = grind arith

-- a smaller set has a smaller part in G
meet_⊆ : (S U G : Set) → S ⊆ U → S ∩ G ⊆ U ∩ G
meet_⊆ S U G part = grind arith

-- a new member outside G leaves the part in G as it is
add_outside : (S G : Set) (x : ℕ) → x ∉ G → add S x ∩ G ⊆ S ∩ G
add_outside S G x out = grind (arith, nat_tests)

-- within G, what is added to S may be added to the part of S in a set around G
add_inside : (S P G : Set) (x : ℕ) → G ⊆ P → add S x ∩ G ⊆ add (S ∩ P) x ∩ G
add_inside S P G x around = grind (arith, nat_tests)

module _ (n m : ℕ) (group : ℕ → Set) (caps : ℕ → ℕ) where
  -- every group from k on has at most its cap of members of S
  abbrev Within : ℕ → Set → Type 0
  Within k S = (g : ℕ) → k ≤ g → g < m → card n (S ∩ group g) ≤ caps g

  -- some member of U outside S can join S, for the groups from k on
  abbrev Joins : ℕ → Set → Set → Type 0
  Joins k S U = (x : ℕ) × (x < n) × (x ∈ U) × (x ∉ S) × Within k (add S x)

  -- the exchange law, for the groups from k on
  abbrev Exchange : ℕ → Type 0
  Exchange k = (S U : Set) → Within k S → Within k U → card n S < card n U → Joins k S U

  -- each group from k on lies within P or outside P
  abbrev Divides : ℕ → Set → Type 0
  Divides k P = (g : ℕ) → k ≤ g → g < m → (group g ⊆ P) ⊎ ((x : ℕ) → x ∈ group g → x ∉ P)

  -- a part of what keeps a cap keeps it
  cap_part : (g : ℕ) (S U : Set) → S ⊆ U → card n U ≤ caps g → card n S ≤ caps g
  cap_part g S U part cap = le_trans (card_mono n S U part) cap

  within_part : (k : ℕ) (S U : Set) → S ⊆ U → Within k U → Within k S
  within_part k S U part within g from below =
      cap_part g (S ∩ group g) (U ∩ group g) (meet_⊆ S U (group g) part) (within g from below)

  -- a member of P that can join the part of S in P can join S
  join_part : (k : ℕ) (P : Set) → Divides k P → (S : Set) (x : ℕ) → x ∈ P
      → Within k S → Within k (add (S ∩ P) x) → Within k (add S x)
  join_part k P divides S x here within joined g from below = elim (divides g from below) [
    | inl inner ↦ cap_part g (add S x ∩ group g) (add (S ∩ P) x ∩ group g)
        (add_inside S P (group g) x inner) (joined g from below)
    | inr apart ↦ cap_part g (add S x ∩ group g) (S ∩ group g)
        (add_outside S (group g) x (grind (arith, apart x))) (within g from below)
  ]

  within_fewer : (k : ℕ) (S : Set) → Within k S → Within (suc k) S
  within_fewer k S within g from below = within g (omega arith) below

  within_more : (k : ℕ) (S : Set) → Within (suc k) S → card n (S ∩ group k) ≤ caps k → Within k S
  within_more k S within here g from below = elim (cases_eq g k)
      [ inl e ↦ rw e here | inr ne ↦ within g (omega arith) below ]

  -- Where U has more members in P than S, and each that is new in P keeps the cap of group k, some member
  -- of U in P can join S.
  exchange_in_part : (k : ℕ) (P : Set) → Divides (suc k) P → Exchange (suc k)
      → (S U : Set) → Within k S → Within k U → card n (S ∩ P) < card n (U ∩ P)
      → ((x : ℕ) → x < n → x ∈ P → x ∉ S → card n (add S x ∩ group k) ≤ caps k) → Joins k S U
  exchange_in_part k P divides exchange S U withinS withinU more cap =
      let fewer = within_fewer k S withinS in
      let partS = within_part (suc k) (S ∩ P) S (part_⊆ S P) fewer in
      let partU = within_part (suc k) (U ∩ P) U (part_⊆ U P) (within_fewer k U withinU) in
      let (x, low, new, out, joined) = exchange (S ∩ P) (U ∩ P) partS partU more in
      let (member, here) = and_parts (U x) (P x) new in
      let out_s : x ∉ S = grind arith in (
        x,
        low,
        member,
        out_s,
        within_more k (add S x) (join_part (suc k) P divides S x here fewer joined) (cap x low here out_s),
      )

  -- a new member keeps the cap of a group in which a set that keeps it has more members
  cap_joined : (k : ℕ) (S U : Set) (x : ℕ) → x < n → x ∉ S → card n (S ∩ group k) < card n (U ∩ group k)
      → card n (U ∩ group k) ≤ caps k → card n (add S x ∩ group k) ≤ caps k
  cap_joined k S U x low out more cap =
      let G : Set = group k in
      let one = card_add n (S ∩ G) x low (and_left (S x) (G x) out) in
      let inner = card_mono n (add S x ∩ G) (add (S ∩ G) x ∩ G) (add_inside S G G x (λ y here. here)) in
      let part = card_mono n (add (S ∩ G) x ∩ G) (add (S ∩ G) x) (part_⊆ (add (S ∩ G) x) G) in
      omega arith

  module _ (laminar : Laminar m group) where
    group_divides : (k : ℕ) → Divides (suc k) (group k)
    group_divides k g from below = laminar g k below from

    outside_divides : (k : ℕ) → Divides (suc k) (outside (group k))
    outside_divides k g from below = elim (laminar g k below from) [
      | inl inner ↦ inr (λ x member. grind (arith, inner x))
      | inr apart ↦ inl (λ x member. grind (arith, apart x))
    ]

    exchange_step : (k : ℕ) → k < m → Exchange (suc k) → Exchange k
    exchange_step k below exchange S U withinS withinU more =
        let splitS = card_split n S (group k) in
        let splitU = card_split n U (group k) in
        elim (cases_lt (card n (S ∩ group k)) (card n (U ∩ group k))) [
          | inl inner ↦ exchange_in_part k (group k) (group_divides k) exchange S U withinS withinU inner
              (λ x low here out. cap_joined k S U x low out inner (withinU k (omega arith) below))
          | inr outer ↦ exchange_in_part k (outside (group k)) (outside_divides k) exchange S U withinS withinU (omega arith)
              (λ x low here out. cap_part k (add S x ∩ group k) (S ∩ group k)
              (add_outside S (group k) x (not-true (group k x) here)) (withinS k (omega arith) below))
        ]

    -- d groups are left from k on
    exchange_from : (d k : ℕ) → k + d ≡ m → Exchange k
    exchange_from zero k all = λ S U withinS withinU more.
        let (x, low, member, out) = card_finds n S U more in
        (x, low, member, out, λ g from below. absurd (omega arith))
    exchange_from (suc d) k all = exchange_step k (omega arith) (exchange_from d (suc k) (omega arith))

  within_of : (S : Set) → within_caps n m group caps S ≡ true → Within 0 S
  within_of S kept g from below = leb-true (card n (S ∩ group g)) (caps g)
      (every_at m (λ h. leb (card n (S ∩ group h)) (caps h)) kept g below)

  of_within : (S : Set) → Within 0 S → within_caps n m group caps S ≡ true
  of_within S within = every_from m (λ g. leb (card n (S ∩ group g)) (caps g))
      (λ g below. le-leb (card n (S ∩ group g)) (caps g) (within g (omega arith) below))

  within_empty : Within 0 ∅
  within_empty g from below = omega (arith, card_empty n)

  pub laminar_matroid : Laminar m group → Matroid n (within_caps n m group caps)
  laminar_matroid laminar = record {
    empty = of_within ∅ within_empty;
    subset = λ S U part kept. of_within S (within_part 0 S U part (within_of U kept));
    exchange = λ S U kept_s keptU more.
        let (x, low, member, out, joined) = exchange_from laminar m 0 (omega arith)
        S U (within_of S kept_s) (within_of U keptU) more in
        (x, low, member, out, of_within (add S x) joined);
  }
