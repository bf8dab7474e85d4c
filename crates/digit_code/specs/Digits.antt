-- The digits of marks, where a mark tells how many children its vertex has. No promise of a public call cites it. Assumes nothing.
use Rattle.std.specs.Prelude.{List, map, ℕ}

-- the digits that marks tell
abbrev pub digits : (ℕ → ℕ) → List ℕ → List ℕ
digits arity c = map arity c
