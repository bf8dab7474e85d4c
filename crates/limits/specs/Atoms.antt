-- Named atoms in the code: how many there are. No promise of a public call cites it. Assumes nothing.
use Rattle.std.specs.Prelude.{ℕ}

-- C, N and O: atoms that a mark can name
abbrev pub atom_names : ℕ
atom_names = 3
