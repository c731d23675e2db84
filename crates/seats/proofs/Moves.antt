-- What it does to a seating when an application takes a place: the seating stays proper, the former
-- holder is seated no more, and everybody else who was seated still is. Assumes nothing.
use Rattle.std.proofs.Common.{◌≡◌, ℕ, ◌<◌, true, false, eqb, ◌⊎◌, List, length, get_or, set, Some, None, Option, sym, refl, ap, ◌∙◌, inl, inr, arith, get_or-set_other, get_or-set_same}
use Rattle.std.proofs.lemmas.Bool.{both_ways, cases_Bool, cases_eq, eq-eqb, eqb-true, false_from_ne_true, false≢true, ne_eqb, or_cases, or_left, or_right}
use Rattle.matroid.specs.Sets.{◌∈◌, ◌∉◌, ◌⊆◌, ∅, add}
use Rattle.matroid.proofs.Every.{some_at, some_from}
use Rattle.matroid.proofs.Sets.{same_set}
use Rattle.parts.specs.Limits.{applications, places}
use Rattle.parts.specs.declared.numbers.Application.{Application}
use Rattle.seats.specs.Places.{allowed}
use Rattle.seats.specs.Seatings.{is_holder, holds_place, seated, Proper}
use Rattle.seats.specs.Vacancies.{Vacant}
use Rattle.seats.specs.declared.places.Places.{Places}

-- no place is held by an application that is not seated
holds_none : (holders : List (Option Application)) (x p : ℕ) → p < places → x ∉ seated holders → holds_place holders x p ≡ false
holds_none holders x p low out = false_from_ne_true _ (λ here.
    both_ways (seated holders x) out (some_from places (holds_place holders x) p low here))

-- where no place is held, nobody is seated, and there is nothing to break the rules
pub vacant : (holders : List (Option Application)) → ((p : ℕ) → p < places → get_or holders p None ≡ None) → Vacant holders
vacant holders free = record {
  nobody = same_set _ _ nowhere (λ x member. absurd (false≢true member));
  proper = λ masks. record {
    real = λ x p low here. absurd (none x p low here);
    lawful = λ x p low here. absurd (none x p low here);
    once = λ x p q low _ here _. absurd (none x p low here);
  };
}
  where
    none : (x p : ℕ) → p < places → holds_place holders x p ≡ true → ⊥
    none x p low here = both_ways (holds_place holders x p) (ap (λ o. is_holder o x) (free p low)) here

    nowhere : seated holders ⊆ ∅
    nowhere x member =
        let (p, low, here) = some_at places (holds_place holders x) member in
        absurd (none x p low here)

pub holds_holder : (holders : List (Option Application)) (p : ℕ) (h : Application) → get_or holders p None ≡ Some h
    → holds_place holders h.0 p ≡ true
holds_holder holders p h former = ap (λ o. is_holder o h.0) former ∙ eq-eqb h.0 h.0 refl

module _ (holders : List (Option Application)) (a : Application) (p : ℕ) (low : p < places) (long : length holders ≡ places) where
  -- who holds which place once a has taken p
  taken_here : (x : ℕ) → holds_place (set holders p (Some a)) x p ≡ eqb a.0 x
  taken_here x = ap (λ o. is_holder o x) (get_or-set_same holders p (Some a) None (omega arith))

  pub taken_other : (x q : ℕ) → (q ≡ p → ⊥) → holds_place (set holders p (Some a)) x q ≡ holds_place holders x q
  taken_other x q other = ap (λ o. is_holder o x) (get_or-set_other holders p q (Some a) None other)

  taken_cases : (x q : ℕ) → holds_place (set holders p (Some a)) x q ≡ true
      → ((q ≡ p) × (x ≡ a.0)) ⊎ ((q ≡ p → ⊥) × (holds_place holders x q ≡ true))
  taken_cases x q here = elim (cases_eq q p) [
    | inl e ↦ inl (e, sym (eqb-true a.0 x (sym (taken_here x) ∙ (rw e at here))))
    | inr other ↦ inr (other, sym (taken_other x q other) ∙ here)
  ]

  taken_seated : a.0 ∈ seated (set holders p (Some a))
  taken_seated = some_from places _ p low (taken_here a.0 ∙ eq-eqb a.0 a.0 refl)

  -- nobody but a is seated that was not
  taken_adds : seated (set holders p (Some a)) ⊆ add (seated holders) a.0
  taken_adds x member =
      let (q, q_low, here) = some_at places (holds_place (set holders p (Some a)) x) member in
      elim (taken_cases x q here) [
        | inl (e, same) ↦ or_right (seated holders x) _ (eq-eqb x a.0 same)
        | inr (other, old) ↦ or_left _ (eqb x a.0) (some_from places (holds_place holders x) q q_low old)
      ]

  -- whoever held another place is still seated
  taken_keeps : (x : ℕ) → x ∈ seated holders → holds_place holders x p ≡ false → x ∈ seated (set holders p (Some a))
  taken_keeps x member elsewhere =
      let (q, q_low, here) = some_at places (holds_place holders x) member in
      let other : q ≡ p → ⊥ = λ e. both_ways (holds_place holders x p) elsewhere (rw e at here) in
      some_from places _ q q_low (taken_other x q other ∙ here)

  -- a free place is taken: a is seated beside the others
  pub taken_free : get_or holders p None ≡ None → seated (set holders p (Some a)) ≡ add (seated holders) a.0
  taken_free free = same_set _ _ taken_adds (λ x member. elim (or_cases (seated holders x) (eqb x a.0) member) [
    | inl old ↦ taken_keeps x old (ap (λ o. is_holder o x) free)
    | inr new ↦ rw (eqb-true x a.0 new) taken_seated
  ])

  -- a held place is taken, and the former holder h is seated again: a is seated beside the others
  pub taken_moved : (h : Application) → get_or holders p None ≡ Some h → (after : List (Option Application))
      → seated after ≡ add (seated (set holders p (Some a))) h.0 → seated after ≡ add (seated holders) a.0
  taken_moved h former after again = same_set _ _ into back
    where
      into : seated after ⊆ add (seated holders) a.0
      into x member = elim (or_cases (seated (set holders p (Some a)) x) (eqb x h.0) (sym (ap (λ S. S x) again) ∙ member)) [
        | inl seen ↦ taken_adds x seen
        | inr moved ↦ or_left _ (eqb x a.0) (rw (eqb-true x h.0 moved) (some_from places _ p low (holds_holder holders p h former)))
      ]

      kept : (x : ℕ) → x ∈ seated holders → x ∈ add (seated (set holders p (Some a))) h.0
      kept x member = elim (cases_eq x h.0) [
        | inl e ↦ or_right (seated (set holders p (Some a)) x) _ (eq-eqb x h.0 e)
        | inr other ↦ or_left _ (eqb x h.0)
            (taken_keeps x member (ap (λ o. is_holder o x) former ∙ ne_eqb h.0 x (λ e. other (sym e))))
      ]

      back : add (seated holders) a.0 ⊆ seated after
      back x member = ap (λ S. S x) again ∙ elim (or_cases (seated holders x) (eqb x a.0) member) [
        | inl old ↦ kept x old
        | inr new ↦ or_left _ (eqb x h.0) (rw (eqb-true x a.0 new) taken_seated)
      ]

  module _ (masks : List Places) (proper : Proper masks holders) (new : a.0 ∉ seated holders) where
    -- the former holder is not seated any more
    pub taken_leaves : (h : Application) → get_or holders p None ≡ Some h → h.0 ∉ seated (set holders p (Some a))
    taken_leaves h former = elim (cases_Bool (seated (set holders p (Some a)) h.0)) [
      | inl member ↦
          let (q, q_low, here) = some_at places (holds_place (set holders p (Some a)) h.0) member in
          absurd (elim (taken_cases h.0 q here) [
            | inl (e, same) ↦
                both_ways (holds_place holders h.0 p) (rw same (holds_none holders a.0 p low new)) (holds_holder holders p h former)
            | inr (other, old) ↦ other (proper.once h.0 q p q_low low old (holds_holder holders p h former))
          ])
      | inr out ↦ out
    ]

    pub taken_proper : a.0 < applications → allowed masks a.0 p ≡ true → Proper masks (set holders p (Some a))
    taken_proper below fits = record {
      real = λ x q q_low here. elim (taken_cases x q here)
          [ inl (e, same) ↦ omega arith | inr (other, old) ↦ proper.real x q q_low old ];
      lawful = λ x q q_low here. elim (taken_cases x q here)
          [ inl (e, same) ↦ rw (same, e) fits | inr (other, old) ↦ proper.lawful x q q_low old ];
      once = λ x q r q_low r_low here there. elim (taken_cases x q here) [
        | inl (e, same) ↦ elim (taken_cases x r there) [
          | inl (f, _) ↦ e ∙ sym f
          | inr (other, old) ↦ absurd (both_ways (holds_place holders x r) (rw same (holds_none holders a.0 r r_low new)) old)
        ]
        | inr (other, old) ↦ elim (taken_cases x r there) [
          | inl (f, same) ↦ absurd (both_ways (holds_place holders x q) (rw same (holds_none holders a.0 q q_low new)) old)
          | inr (another, too) ↦ proper.once x q r q_low r_low old too
        ]
      ];
    }
