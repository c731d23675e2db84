-- The numbers that the subject fixes. Assumes nothing.
use Rattle.std.specs.Prelude.{ℕ}

-- how many application numbers there are
abbrev pub applications : ℕ
applications = 256

-- how many quota groups there are
abbrev pub groups : ℕ
groups = 128

-- how many places there are
abbrev pub places : ℕ
places = 32
