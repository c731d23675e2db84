-- The last member of a set in a strict order: a set has one, or it has no member. And of two numbers
-- only one precedes the other. Assumes nothing.
use Rattle.std.proofs.Common.{◌≡◌, ℕ, zero, suc, ◌<◌, ◌≤◌, Bool, true, false, ◌⊎◌, inl, inr, arith}
use Rattle.std.proofs.lemmas.Bool.{both_ways, cases_Bool, false_from_ne_true}
use Rattle.matroid.specs.Sets.{Set, ◌∈◌, ◌∉◌}
use Rattle.matroid.specs.Matroids.{StrictOrder}

pub asymmetric : (n : ℕ) (precedes : ℕ → ℕ → Bool) → StrictOrder n precedes → (x y : ℕ) → x < n → y < n
    → precedes x y ≡ true → precedes y x ≡ false
asymmetric n precedes order x y h k up = false_from_ne_true (precedes y x)
    (λ down. both_ways (precedes x x) (order.irreflexive x h) (order.transitive x y x h k h up down))

-- of the members of S below k, one that every other precedes
pub record Last (k : ℕ) (precedes : ℕ → ℕ → Bool) (S : Set) : Type 0 where
  pub at : ℕ
  pub below : at < k
  pub member : at ∈ S
  pub after : (y : ℕ) → y < k → y ∈ S → (y ≡ at → ⊥) → precedes y at ≡ true

module _ (n : ℕ) (precedes : ℕ → ℕ → Bool) (order : StrictOrder n precedes) (S : Set) where
  -- a number outside S changes nothing
  last_without : (k : ℕ) → k ∉ S → Last k precedes S → Last (suc k) precedes S
  last_without k out last = record {
    at = last.at;
    below = omega (arith, last.below);
    member = last.member;
    after = λ y h within other. grind (arith, last.after y);
  }

  last_with : (k : ℕ) → k < n → k ∈ S → Last k precedes S → Last (suc k) precedes S
  last_with k h within last =
      elim (order.total last.at k (omega (arith, last.below)) h (λ e. omega (arith, last.below)))
      [ inl up ↦ new up | inr down ↦ old down ]
    where
      new : precedes last.at k ≡ true → Last (suc k) precedes S
      new up = record { at = k; below = omega arith; member = within; after = after }
        where
          after : (y : ℕ) → y < suc k → y ∈ S → (y ≡ k → ⊥) → precedes y k ≡ true
          after y below member other = grind (arith, last.below, last.after y, order.transitive y last.at k)

      old : precedes k last.at ≡ true → Last (suc k) precedes S
      old down = record {
        at = last.at;
        below = omega (arith, last.below);
        member = last.member;
        after = λ y below member other. grind (arith, last.after y);
      }

  last_only : (k : ℕ) → k ∈ S → ((x : ℕ) → x < k → x ∉ S) → Last (suc k) precedes S
  last_only k within none = record {
    at = k;
    below = omega arith;
    member = within;
    after = λ y h member other. grind (arith, none y);
  }

  pub last_or_none : (k : ℕ) → k ≤ n → Last k precedes S ⊎ ((x : ℕ) → x < k → x ∉ S)
  last_or_none zero h = inr (λ x impossible. absurd (omega arith))
  last_or_none (suc k) h = elim (cases_Bool (S k)) [
    | inl within ↦ elim (last_or_none k (omega arith))
        [ inl last ↦ inl (last_with k (omega arith) within last) | inr none ↦ inl (last_only k within none) ]
    | inr out ↦ elim (last_or_none k (omega arith)) [
      | inl last ↦ inl (last_without k out last)
      | inr none ↦ inr (λ x below. grind (arith, none x))
    ]
  ]
