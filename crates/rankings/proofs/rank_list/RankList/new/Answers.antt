-- At first rank and holder are one number, and so the rows undo one another.
use Rattle.std.proofs.Common.{◌≡◌, ℕ, ◌<◌, rules}
use Rattle.parts.specs.Limits.{applications}
use Rattle.rankings.specs.Holders.{holder_of}
use Rattle.rankings.specs.Ranks.{rank_of}
use Rattle.rankings.proofs.rank_list.RankList.new.Goals as goal

pub returns : goal.returns
returns c = let ranks = c.from_fn.ensures.items in λ k l. search (rules, ranks.at k 0 l)

pub invariant_of-result : goal.invariant_of-result
invariant_of-result c =
    let ranks = c.from_fn.ensures.items in
    let holders = c.all.ensures in
    let rank : (k : ℕ) → k < applications → rank_of c.from_fn.result k ≡ k = λ k l. search (rules, ranks.at k 0 l) in
    let holder : (k : ℕ) → k < applications → holder_of c.all.result k ≡ k = holders.numbered in
    record {
      paired = (ranks.long, holders.long, λ k l. rw (rank k l) l, λ k l. rw (rank k l) (holder k l), λ k l. rw (holder k l) (rank k l));
    }
