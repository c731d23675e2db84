use Rattle.parts.specs.Limits.{applications}
use Rattle.parts.proofs.Rows.{no_members}
use Rattle.parts.proofs.marks.Marks.none.Goals as goal

pub returns : goal.returns
returns c = no_members c.from.result applications c.from.ensures
