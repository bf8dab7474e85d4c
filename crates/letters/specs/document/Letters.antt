-- Document 02, wish 7, of letters, a byte for each vertex: those of a code's marks; of letters that are lent with edges or a code rows 2 and 21, and row 14 of the forms that "take carbon only". Every row says something of
-- every input: where an atom is asked for, a byte that is no letter stands for carbon. Assumes nothing.
use Rattle.std.specs.Prelude.{◌≡◌, List, map, ℕ, ◌≤◌, length}
use Rattle.laws.specs.document.Each.{Each}
use Rattle.refusal.specs.document.Table.{Row}
use Rattle.skeleton.specs.document.Atom.{C, letter, Letter, atom_at}
use Rattle.skeleton.specs.document.AtomMarks.{atoms}

-- the letters of marks, "in digit order"
unfoldable pub letters_of : List ℕ → List ℕ
letters_of c = map (λ m. letter (atoms.atom m)) c

-- 2: "other marks in letters lent with edges or a code"
abbrev pub row2-letters : List ℕ → Row
row2-letters s = record { number = 2; applies = λ p. (p ≡ 0) × (Each Letter s → ⊥) }

-- 21: "the letters are not N in number"
abbrev pub row21-letters : ℕ → List ℕ → Row
row21-letters n s = record { number = 21; applies = λ p. (p ≡ 0) × (length s ≡ n → ⊥) }

-- 14: "another atom is 14 (place: the lowest such vertex, before a numbering's 14)"
abbrev pub row14_atom : List ℕ → Row
row14_atom s = record { number = 14; applies = λ p. (1 ≤ p) × (p ≤ length s) × (atom_at s p ≡ C → ⊥) }

-- every letter is C
abbrev pub AllCarbon : List ℕ → Type 0
AllCarbon s = Each (λ b. b ≡ letter C) s
