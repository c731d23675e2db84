use Rattle.std.proofs.Common.{rules}
use Rattle.parts.proofs.numbers.Application.all.Goals as goal

pub returns : goal.returns
returns c =
    let made = c.from_fn.ensures.items in
    record { long = made.long; numbered = λ i h. search (rules, made.at i (record { 0 = 0 }) h) }
