use Rattle.std.proofs.Common.{◌≡◌, ℕ, ◌<◌, List, slice_set, arith, length-set}
use Rattle.std.proofs.lemmas.List.{ext_get_or, get_or-set_same, get_or-set_other, length-map}
use Rattle.std.proofs.lemmas.Bool.Decides.{nat_tests}
use Rattle.parts.specs.Limits.{applications}
use Rattle.rankings.specs.Ranks.{Distinct, exchanged, rank_of}
use Rattle.rankings.specs.RanksLemmas.{exchanged_at, paired_distinct}
use Rattle.rankings.proofs.rank_list.RankList.exchange.Goals as goal

-- to write v at c, and what c had at the application that had v, is to exchange their ranks
written_exchanged : (ranks : List ℕ) (c other v : ℕ) → Distinct ranks → c < applications → other < applications
    → rank_of ranks other ≡ v → slice_set (slice_set ranks c v) other (rank_of ranks c) ≡ exchanged ranks c v
written_exchanged ranks c other v distinct own low has =
    ext_get_or 0 _ (exchanged ranks c v) (simp (length-set, length-map)) (λ x within.
    let below : x < applications = omega (arith, length-set (slice_set ranks c v) other (rank_of ranks c), length-set ranks c v, distinct.long) in
    let long = distinct.long in
    grind (
      arith,
      nat_tests,
      get_or-set_same,
      get_or-set_other,
      length-set,
      exchanged_at ranks c v distinct own x below,
      distinct.apart x other below low,
    ))

pub returns : goal.returns
returns c = rw (c.from-own.ensures.0, c.from.ensures.0, c.rank-former.ensures)
    (written_exchanged c.args.self.now.ranks c.args.application.0 c.holder-other.result.0 c.args.rank
    (paired_distinct _ _ c.args.self.now.paired) (omega (arith, c.from-own.ensures)) (omega (arith, c.from.ensures)) c.holder-other.ensures)
