use Rattle.std.proofs.Common.{ap}
use Rattle.std.specs.Prelude.{slice_index_or, false}
use Rattle.std.specs.Cmp.{booleans_Decides}
use Rattle.std.proofs.lemmas.Slice.Eq.{slice_eq-Decides}
use Rattle.parts.proofs.Rows.{same_row}
use Rattle.parts.proofs.marks.Marks.is_same.Goals as goal

pub returns : goal.returns
returns c =
    let rows = slice_eq-Decides booleans_Decides _ _ _ c.eq.ensures in
    (λ same. ap (λ row x. slice_index_or row x false) (rows.0 same), λ same. rows.1 (same_row c.args.self.now c.args.other.now same))
