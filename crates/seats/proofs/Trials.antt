-- A trial of the search for a seating, in which the asked application takes the first untried place that
-- it is allowed: what comes of it, and why the search finds a place where there is one. Assumes nothing.
use Rattle.std.proofs.Common.{◌≡◌, ℕ, ◌-◌, ◌^◌, ◌<◌, true, false, not, eqb, List, length, get_or, set, Some, None, Option, sym, refl, ap, ◌∙◌, inl, inr, arith, set-set}
use lib.Seq.{set-get_or}
use Rattle.std.proofs.lemmas.Bool.{and_parts, both_ways, cases_Bool, cases_eq, eqb-true, false_from_ne_true, false≢true, not_from_false, not-true, or_left}
use Rattle.matroid.specs.Sets.{Set, ◌∈◌, ◌∉◌, ◌⊆◌, ◌∖◌, add, card}
use Rattle.matroid.proofs.Assignments.{crowded}
use Rattle.matroid.proofs.Cards.{add_here, card_less, card_mono}
use Rattle.matroid.proofs.Every.{some_from}
use Rattle.matroid.proofs.Pigeonhole.{without_here, without_other, without_parts}
use Rattle.parts.specs.Limits.{applications, places}
use Rattle.parts.specs.declared.numbers.Application.{Application}
use Rattle.seats.specs.Places.{allowed, bit, FirstCommon}
use Rattle.seats.specs.Bids.{Unseatable}
use Rattle.seats.specs.Seatings.{is_holder, holds_place, seated, Proper}
use Rattle.seats.specs.Vacancies.{Blocked, Exhausted, LetIn, Tried}
use Rattle.seats.specs.declared.places.Places.{Places}
use Rattle.seats.proofs.Bits.{bit_all}
use Rattle.seats.proofs.Moves.{taken_free, taken_leaves, taken_moved, taken_other, taken_proper, holds_holder}

-- the number of a holder, where there is one
pub number_of : Option Application → ℕ
number_of None = 0
number_of (Some a) = a.0

pub number_held : (o : Option Application) (x : ℕ) → is_holder o x ≡ true → number_of o ≡ x
unfolding number_of
number_held None x here = absurd (false≢true here)
number_held (Some a) x here = eqb-true a.0 x here

-- what is not untried any more stays so
still_tried : (before after : ℕ) → bit after ⊆ bit before → (q : ℕ) → bit before q ≡ false → bit after q ≡ false
still_tried before after part q out = false_from_ne_true (bit after q) (λ here. both_ways (bit before q) out (part q here))

-- A search began with the masks `first` and the holders `start`: both stand as they stood, and every
-- place that was tried, from `before` to `untried`, was in vain.
pub record Underway (first masks : List Places) (start holders : List (Option Application)) (before untried : ℕ) : Type 0 where
  pub same_masks : masks ≡ first
  pub same_holders : holders ≡ start
  pub tried : Tried masks holders before untried

-- A trial takes for a the first untried place p that a is allowed, which is not untried next.
pub record Trial (first masks : List Places) (start holders : List (Option Application)) (before untried next : ℕ) (a : Application) (p : ℕ)
    : Type 0 where
  pub underway : Underway first masks start holders before untried
  pub proper : Proper masks holders
  pub new : a.0 ∉ seated holders
  pub long : length holders ≡ places
  pub below : a.0 < applications
  pub low : p < places
  pub fits : allowed masks a.0 p ≡ true
  pub was_untried : bit untried p ≡ true
  pub without : bit next ≡ bit untried ∖ eqb p

pub trial_at : {first masks : List Places} {start holders : List (Option Application)} {before untried next at number p : ℕ} {a : Application}
    → Proper first start × (a.0 ∉ seated start) → Underway first masks start holders before untried → length holders ≡ places
    → (at ≡ a.0) × (at < applications) → FirstCommon (get_or first at (record { 0 = 0 })).0 untried number
    → (p ≡ number) × (p < places) → bit next ≡ bit untried ∖ eqb number → Trial first masks start holders before untried next a p
trial_at pre underway long asked common place without = record {
  underway = underway;
  proper = rw (underway.same_masks, underway.same_holders) pre.0;
  new = rw underway.same_holders pre.1;
  long = long;
  below = omega arith;
  low = place.1;
  fits = rw (underway.same_masks, ← asked.0, place.0) (and_parts _ _ common.here).0;
  was_untried = rw place.0 (and_parts _ _ common.here).1;
  without = rw place.0 without;
}

module _ {first masks : List Places} {start holders : List (Option Application)} {before untried next : ℕ} {a : Application} {p : ℕ}
    (trial : Trial first masks start holders before untried next a p) where
  -- p is not untried next, and all the others that were untried are
  next_part : bit next ⊆ bit untried
  next_part q here = (without_parts (bit untried) p q (sym (ap (λ S. S q) trial.without) ∙ here)).0

  next_out : p ∉ bit next
  next_out = ap (λ S. S p) trial.without ∙ without_here (bit untried) p

  next_other : (q : ℕ) → bit untried q ≡ true → (q ≡ p → ⊥) → bit next q ≡ true
  next_other q here other = ap (λ S. S q) trial.without ∙ without_other (bit untried) p q here (λ e. other (sym e))

  -- the seating with a at p
  pub trial_proper : Proper masks (set holders p (Some a))
  trial_proper = taken_proper holders a p trial.low trial.long masks trial.proper trial.new trial.below trial.fits

  -- where a was let in beside the holders as they stand, it was so beside those at the start
  from_start : {masks' : List Places} {after : List (Option Application)} → masks' ≡ masks → LetIn masks holders after a.0
      → (masks' ≡ first) × LetIn first start after a.0
  from_start kept let-in = rw (← trial.underway.same_masks, ← trial.underway.same_holders) (kept, let-in)

  -- where nobody held p, a is let in
  pub trial_free : None ≡ get_or holders p None → (masks ≡ first) × LetIn first start (set holders p (Some a)) a.0
  trial_free free = from_start refl (record {
    proper = trial_proper;
    all = taken_free holders a p trial.low trial.long (sym free);
  })

  -- without p fewer places are untried
  less : (last : ℕ) → bit last ⊆ bit next → card places (bit last) < card places (bit untried)
  less last part = card_less places (bit last) (bit untried) (λ q here. next_part q (part q here)) p trial.low
      trial.was_untried (still_tried next last part p next_out)

  pub trial_less : card places (bit next) < card places (bit before)
  trial_less = omega (arith, less next (λ q here. here), card_mono places (bit untried) (bit before) trial.underway.tried.fewer)

  -- the former holder h has to look for another place
  module _ {h : Application} (held : Some h ≡ get_or holders p None) where
    former : get_or holders p None ≡ Some h
    former = sym held

    pub trial_leaves : h.0 ∉ seated (set holders p (Some a))
    trial_leaves = taken_leaves holders a p trial.low trial.long masks trial.proper trial.new h former

    module _ {masks' : List Places} {after : List (Option Application)} where
      -- where it finds one, a is let in
      pub trial_moved : (masks' ≡ masks) × LetIn masks (set holders p (Some a)) after h.0 → (masks' ≡ first) × LetIn first start after a.0
      trial_moved (kept, again) = from_start kept (record {
        proper = again.proper;
        all = taken_moved holders a p trial.low trial.long h former after again.all;
      })

      module _ {last : ℕ} (lost : (masks' ≡ masks) × ((after ≡ set holders p (Some a)) × Blocked masks (set holders p (Some a)) next last h.0)) where
        blocked : Blocked masks (set holders p (Some a)) next last h.0
        blocked = lost.1.1

        part : bit last ⊆ bit untried
        part q here = next_part q (blocked.0.fewer q here)

        -- where it finds none, still fewer places are untried
        pub trial_lost_less : card places (bit last) < card places (bit untried)
        trial_lost_less = less last blocked.0.fewer

        -- all that was tried before, p, and what it tried were in vain
        vain : (q : ℕ) → q < places → bit before q ≡ true → bit last q ≡ false
            → (x : ℕ) × (holds_place holders x q ≡ true) × Exhausted masks last x
        vain q low was gone = elim (cases_Bool (bit untried q)) [
          | inl lately ↦ elim (cases_eq q p) [
            | inl e ↦ (h.0, rw e (holds_holder holders p h former), blocked.1)
            | inr other ↦
                let (x, here, none) = blocked.0.taken q low (next_other q lately other) gone in
                (x, sym (taken_other holders a p trial.low trial.long x q other) ∙ here, none)
          ]
          | inr earlier ↦
              let (x, here, none) = trial.underway.tried.taken q low was earlier in
              (x, here, λ r r_low may. still_tried untried last part r (none r r_low may))
        ]

        -- and it gets its place back
        back : set after p (Some h) ≡ holders
        back = rw lost.1.0 (set-set holders p (Some a) (Some h) ∙ ap (set holders p) held ∙ set-get_or holders p None)

        pub trial_lost : Underway first masks' start (set after p (Some h)) before last
        trial_lost = rw (lost.0, back) (record {
          same_masks = trial.underway.same_masks;
          same_holders = trial.underway.same_holders;
          tried = record { fewer = λ q here. trial.underway.tried.fewer q (part q here); taken = vain };
        })

-- a search that tried every place at first finds no room only where there is none: the places that it
-- tried are full, and their holders and the asked application are allowed none but these
pub no_room : (masks : List Places) (holders : List (Option Application)) (last asked : ℕ) → Proper masks holders
    → asked ∉ seated holders → asked < applications → Blocked masks holders (2 ^ 32 - 1) last asked
    → Unseatable masks (add (seated holders) asked)
no_room masks holders last asked proper new below (tried, spent) =
    crowded applications places (allowed masks) (add (seated holders) asked) full holder asked below (add_here (seated holders) asked)
    held apart only
  where
    full : Set
    full p = not (bit last p)

    holder : ℕ → ℕ
    holder p = number_of (get_or holders p None)

    found : (p : ℕ) → p < places → p ∈ full → (holds_place holders (holder p) p ≡ true) × Exhausted masks last (holder p)
    found p low tested =
        let (x, here, none) = tried.taken p low (bit_all p low) (not-true (bit last p) tested) in
        let same : holder p ≡ x = number_held (get_or holders p None) x here in
        rw same (here, none)

    filled : (x : ℕ) → Exhausted masks last x → (q : ℕ) → q < places → allowed masks x q ≡ true → q ∈ full
    filled x none q low may = not_from_false (bit last q) (none q low may)

    held : (p : ℕ) → p < places → p ∈ full → (holder p < applications) × (holder p ∈ add (seated holders) asked) × (holder p ≡ asked → ⊥)
        × ((q : ℕ) → q < places → allowed masks (holder p) q ≡ true → q ∈ full)
    held p low tested =
        let (here, none) = found p low tested in
        let member : holder p ∈ seated holders = some_from places (holds_place holders (holder p)) p low here in (
          proper.real (holder p) p low here,
          or_left _ (eqb (holder p) asked) member,
          λ e. both_ways (seated holders asked) new (rw e at member),
          filled (holder p) none,
        )

    apart : (p q : ℕ) → p < places → q < places → p ∈ full → q ∈ full → holder p ≡ holder q → p ≡ q
    apart p q p_low q_low p_full q_full same =
        proper.once (holder p) p q p_low q_low (found p p_low p_full).0 (rw same (found q q_low q_full).0)

    only : (q : ℕ) → q < places → allowed masks asked q ≡ true → q ∈ full
    only = filled asked spent
