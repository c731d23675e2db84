-- Each rank of a rank list belongs to one application, also after an exchange. Assumes nothing.
use Rattle.std.specs.Prelude.{◌≡◌, ℕ, ◌<◌, cond, List, ◌==◌}
use Rattle.std.proofs.Common.{sym, ap, ◌∙◌, arith, length-set}
use Rattle.std.proofs.lemmas.List.{get_or-map, get_or-set_same, get_or-set_other, length-map}
use Rattle.std.proofs.lemmas.Bool.Decides.{nat_tests}
use Rattle.parts.specs.Limits.{applications}
use Rattle.rankings.specs.Holders.{holder_of, Paired}
use Rattle.rankings.specs.Ranks.{rank_of, exchanged, Distinct}
use Rattle.parts.specs.declared.numbers.Application.{Application}

module _ (ranks : List ℕ) (c v : ℕ) (distinct : Distinct ranks) (own : c < applications) where
  -- after an exchange c has rank v, whoever had that rank has the former rank of c, and the others keep theirs
  pub exchanged_at : (x : ℕ) → x < applications
      → rank_of (exchanged ranks c v) x ≡ cond (x == c) v (cond (rank_of ranks x == v) (rank_of ranks c) (rank_of ranks x))
  exchanged_at x low =
      let long = distinct.long in grind (arith, nat_tests, get_or-set_same, get_or-set_other, get_or-map, length-map)

  -- so the ranks are distinct again
  pub exchanged_distinct : v < applications → Distinct (exchanged ranks c v)
  exchanged_distinct small = record {
    long = simp (length-set, length-map, distinct.long);
    small = λ x low. grind (arith, nat_tests, exchanged_at, distinct.small);
    apart = λ a b la lb same. grind (arith, nat_tests, exchanged_at, distinct.apart);
  }

-- two applications of one rank have one holder
pub paired_distinct : (ranks : List ℕ) (holders : List Application) → Paired ranks holders → Distinct ranks
paired_distinct ranks holders paired = record {
  long = paired.0;
  small = paired.2;
  apart = λ a b la lb e. sym (paired.3 a la) ∙ ap (holder_of holders) e ∙ paired.3 b lb;
}
