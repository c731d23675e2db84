-- Group and place numbers. Assumes nothing.
use Rattle.parts.specs.declared.numbers.Below.{Below}

-- a quota group
abbrev pub Group : Type 0
Group = Below 128

-- a seat at a college
abbrev pub Place : Type 0
Place = Below 32
