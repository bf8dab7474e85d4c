-- The width of a row of the table of neighbours: how many neighbours a vertex can have in the code. No promise of a public call cites it.
-- Assumes nothing.
use Rattle.std.specs.Prelude.{ℕ}

-- rows of up to nine numbers: places in a row of the table of neighbours
abbrev pub width : ℕ
width = 9
