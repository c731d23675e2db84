-- The set that a row of marks stands for. Assumes nothing.
use Rattle.std.specs.Prelude.{false, slice_index_or}
use Rattle.matroid.specs.Sets.{Set}
use Rattle.parts.specs.declared.marks.Marks.{Marks}

-- x is a member where the mark at place x is set
abbrev pub members : Marks → Set
members marks x = slice_index_or marks.row x false
