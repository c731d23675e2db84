use Rattle.std.proofs.Common.{ap, ◌∙◌, refl, arith, false}
use Rattle.std.proofs.lemmas.Bool.{and_left, lt-ltb}
use Rattle.std.specs.Prelude.{slice_index_or}
use Rattle.matroid.specs.Sets.{◌∖◌}
use Rattle.parts.specs.Marks.{members}
use Rattle.parts.proofs.Rows.{stands_for, unmarked_past}
use Rattle.parts.proofs.marks.Marks.difference.Goals as goal

pub returns : goal.returns
returns c = stands_for c.from.result (members c.args.self.now ∖ members c.args.other.now)
    (λ x past. and_left _ _ (unmarked_past c.args.self.now x past))
    (λ x below. ap (λ row. slice_index_or row x false) c.from.ensures ∙ c.loop-place.invariant.1 x
    ∙ rw (lt-ltb x c.loop-place.place (omega arith)) refl)
