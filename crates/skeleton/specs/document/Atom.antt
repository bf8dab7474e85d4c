-- Document 02, wish 7: "Each vertex carries C, N or O, with at most 4, 3 or 2 neighbours." The atoms, their order, their neighbours, and the letters that name them. Assumes
-- nothing.
use Rattle.std.specs.Prelude.{◌≡◌, List, ℕ, zero, suc, ◌-◌, get_or}
use Rattle.std.proofs.Math.Logic.{ite}
use Rattle.std.proofs.Math.Decide.{ℕ_discrete}

-- carbon, nitrogen or oxygen
pub data Atom : Type 0 where
  C : Atom
  N : Atom
  O : Atom

-- "C below N below O"
abbrev pub rank : Atom → ℕ
rank C = 0
rank N = 1
rank O = 2

-- the atom of a rank
abbrev pub named : ℕ → Atom
named zero = C
named (suc zero) = N
named (suc (suc n)) = O

-- how many neighbours an atom may have
abbrev pub bonds : Atom → ℕ
bonds C = 4
bonds N = 3
bonds O = 2

-- its letter, as a byte
abbrev pub letter : Atom → ℕ
letter C = 67
letter N = 78
letter O = 79

-- b is one
abbrev pub Letter : ℕ → Type 0
Letter b = (a : Atom) × (b ≡ letter a)

-- the atom of a byte; one that is no letter stands for carbon
unfoldable pub atom_of : ℕ → Atom
atom_of b = ite (ℕ_discrete b (letter N)) N (ite (ℕ_discrete b (letter O)) O C)

-- the atom of vertex v by the letters s, letter v for vertex v
abbrev pub atom_at : List ℕ → ℕ → Atom
atom_at s v = atom_of (get_or s (v - 1) 0)
