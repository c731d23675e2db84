use Rattle.std.proofs.Common.{rules}
use Rattle.clearing.proofs.Sorting.{by_number_complete, sorted_in_order}
use Rattle.clearing.proofs.order.in_order.Goals as goal

pub returns : goal.returns
returns g c =
    let order = g.met.K.Ranking.order _ (g.met.K.Part.settings_sound c.args.ranking.now) in
    sorted_in_order _ order _ _ (by_number_complete _ c.all-row.ensures) c.sort_unstable_by.ensures.permutation
    c.sort_unstable_by.ensures.sorted (λ a r f' k. search rules)
