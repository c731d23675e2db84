-- A seating is an assignment of different allowed places, so the test for an assignment says of a
-- set that was seated yes, and of one that cannot be seated no. And how a seating of the members
-- below a number goes on to that number. Assumes nothing.
use Rattle.std.proofs.Common.{◌≡◌, ℕ, ◌+◌, ◌<◌, true, false, List, get_or, is_some, Some, None, Option, sym, ap, ◌∙◌, ap₂, subst, MatchOption}
use Rattle.std.proofs.lemmas.Bool.{and_parts, false_from_ne_true}
use Rattle.matroid.specs.Assignments.{Assignment}
use Rattle.matroid.specs.Sets.{Set, ◌∈◌, ◌∉◌, add}
use Rattle.matroid.proofs.Assignments.{assignable_by_assignment, assigned_part}
use Rattle.matroid.proofs.Every.{latest, latest_passes, some_at}
use Rattle.parts.specs.Limits.{applications, places}
use Rattle.parts.specs.Marks.{members}
use Rattle.parts.specs.Rows.{AllByNumber, number_at}
use Rattle.parts.specs.declared.marks.Marks.{Marks}
use Rattle.parts.specs.declared.numbers.Application.{Application}
use Rattle.parts.proofs.Rows.{marked_below}
use Rattle.seats.specs.Bids.{seatable, Unseatable}
use Rattle.seats.specs.Places.{allowed}
use Rattle.seats.specs.Seatings.{holds_place, seated, Seating}
use Rattle.seats.specs.Vacancies.{LetIn, Vacant}
use Rattle.seats.specs.declared.places.Places.{Places}
use Rattle.seats.specs.declared.seating.Seats.{Seats}
use Rattle.seats.proofs.Fronts.{front, front_adds, front_all, front_lacks, front_none, front_skips}
use Rattle.seats.proofs.Trials.{number_held, number_of}

module _ (masks : List Places) (S : Set) where
  module _ (holders : List (Option Application)) (seating : Seating masks holders S) where
    -- the place that a member holds
    abbrev place_of : ℕ → ℕ
    place_of x = latest places (holds_place holders x)

    held : (x : ℕ) → x ∈ S → (place_of x < places) × (holds_place holders x (place_of x) ≡ true)
    held x member =
        let (p, low, here) = some_at places (holds_place holders x) (ap (λ U. U x) seating.all ∙ member) in
        latest_passes places (holds_place holders x) p low here

    seating_assigned : Assignment applications places (allowed masks) S place_of
    seating_assigned = record {
      within = λ x h member. (held x member).0;
      allows = λ x h member. seating.proper.lawful x (place_of x) (held x member).0 (held x member).1;
      different = λ x y hx hy mx my same.
          sym (number_held _ x (held x mx).1) ∙ ap (λ p. number_of (get_or holders p None)) same ∙ number_held _ y (held y my).1;
    }

    seated_yes : seatable masks S ≡ true
    seated_yes = (assignable_by_assignment applications places (allowed masks) S).1 (place_of, seating_assigned)

  unseatable_no : Unseatable masks S → seatable masks S ≡ false
  unseatable_no none = false_from_ne_true (seatable masks S) (λ passes.
      let (place, assigned) = (assignable_by_assignment applications places (allowed masks) S).0 passes in
      none place assigned)

  -- a search that finds a seating exactly where there is one answers what the test says
  pub found_or_not : (found : Option Seats) → MatchOption found (Unseatable masks S) (λ seats. Seating masks seats.holders S)
      → is_some found ≡ seatable masks S
  found_or_not None none = sym (unseatable_no none)
  found_or_not (Some seats) seating = sym (seated_yes seats.holders seating)

  -- where nobody is seated, the members below 0 are
  pub none_seated : (holders : List (Option Application)) → Vacant holders → Seating masks holders (front S 0)
  none_seated holders vacant = record { proper = vacant.proper masks; all = vacant.nobody ∙ sym (front_none S) }

  -- the members of S below n are seated, and the application asked about next is the n-th of all
  module _ {row : List Application} {n : ℕ} {holders : List (Option Application)} (all : AllByNumber row) (low : n < applications)
      (so_far : Seating masks holders (front S n)) where
    abbrev asked : ℕ
    asked = number_at row n

    next : asked ≡ n
    next = all.numbered n low

    pub next_unseated : asked ∉ seated holders
    next_unseated = ap (λ U. U asked) so_far.all ∙ ap (front S n) next ∙ front_lacks S n

    pub next_skipped : asked ∉ S → Seating masks holders (front S (n + 1))
    next_skipped out = record { proper = so_far.proper; all = so_far.all ∙ front_skips S n (rw next at out) }

    with_next : asked ∈ S → add (seated holders) asked ≡ front S (n + 1)
    with_next member = ap₂ add so_far.all next ∙ front_adds S n (rw next at member)

    pub next_seated : asked ∈ S → {after : List (Option Application)} → LetIn masks holders after asked → Seating masks after (front S (n + 1))
    next_seated member let-in = record { proper = let-in.proper; all = let-in.all ∙ with_next member }

    -- where there is no room for those seated and n, there is none for all the members
    pub next_crowded : asked ∈ S → Unseatable masks (add (seated holders) asked) → Unseatable masks S
    next_crowded member none place assigned = none place (assigned_part places (allowed masks) applications applications _ S place
        (λ x h here. (h, (and_parts (S x) _ (sym (ap (λ U. U x) (with_next member)) ∙ here)).0)) assigned)

-- with the members below the number of applications all are seated
pub all_seated : {masks : List Places} {holders : List (Option Application)} (marks : Marks) {n : ℕ} → n ≡ applications
    → Seating masks holders (front (members marks) n) → Seating masks holders (members marks)
all_seated {masks} {holders} marks {n} end seating = subst (Seating masks holders)
    (ap (front (members marks)) end ∙ front_all (members marks) applications (marked_below marks)) seating
