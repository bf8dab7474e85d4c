-- Document 02, wish 7, the promises of the calls on codes and edge lists with letters: which rows each judges, what it gives where none applies, and what its lent outputs then hold. A
-- refusal is the first row that applies, at its first place, and leaves both outputs as they were (`GivesBoth`).
--
-- ds, ls: digits and letters that are handed in; N, E, s: an edge list of N vertices with its letters; r: a root; old, new: the lent outputs before and after; o: the answer as number
-- and place. In order: a code with letters, the digits and letters of one; what is counted; the calls. Assumes nothing.
use Rattle.std.specs.Prelude.{◌≡◌, List, ℕ}
use Rattle.refusal.specs.document.Table.{Outcome, Answered}
use Rattle.refusal.specs.document.Both.{TwoOutputs, GivesBoth}
use Rattle.limits.specs.document.Limits.{size, valence}
use Rattle.digit_code.specs.document.Code.{decode}
use Rattle.skeleton.specs.document.Label.{rootedₗ, digits}
use Rattle.skeleton.specs.document.Atom.{Atom, atom_at}
use Rattle.skeleton.specs.document.AtomMarks.{atoms}
use Rattle.numbering.specs.document.Pairs.{rooted_pairsₗ}
use Rattle.letters.specs.document.Letters.{letters_of}
use Rattle.edge_list.specs.document.Letters.{letter_rows}
use Rattle.lettered_check.specs.document.Lettered.{lettered_code_rows, lettered_form_rows}
use Rattle.form_coder.specs.document.Pairs.{OverMiddles, OverWidest}

-- d and l are the digits and the letters of a code that is right
abbrev pub Spelled : (List ℕ → Type 0) → List ℕ → List ℕ → Type 0
Spelled Right d l = (c : List ℕ) × Right c × (d ≡ digits atoms c) × (l ≡ letters_of c)

-- a form of code, over the atoms of the vertices
abbrev pub NamedForm : Type 1
NamedForm = ℕ → List ℕ → (ℕ → Atom) → List ℕ → Type 0

-- n pairs of digit and atom are looked at for the rooted code at r
abbrev pub NamedAtRoot : ℕ → List ℕ → List ℕ → ℕ → ℕ → Type 0
NamedAtRoot N E s r n = n ≡ rooted_pairsₗ atoms (atom_at s) N E r

-- for the N-tuple code
abbrev pub NamedWidest : ℕ → List ℕ → List ℕ → ℕ → Type 0
NamedWidest N E s n = OverWidest N E (rooted_pairsₗ atoms (atom_at s) N E) n

-- for the centred code
abbrev pub NamedMiddles : ℕ → List ℕ → List ℕ → ℕ → Type 0
NamedMiddles N E s n = OverMiddles N E (rooted_pairsₗ atoms (atom_at s) N E) n

-- a right rooted code with its letters: nothing is written
abbrev pub NamedCheckCode : List ℕ → List ℕ → Outcome ℕ → Type 0
NamedCheckCode ds ls o = Answered (lettered_code_rows size valence ds ls) (λ n. n ≡ 0) o

-- its edges, and the letters of its vertices in their numbers, which are those of the digits
abbrev pub NamedDecodeCode : List ℕ → List ℕ → TwoOutputs → TwoOutputs → Outcome ℕ → Type 0
NamedDecodeCode ds ls old new o = GivesBoth (lettered_code_rows size valence ds ls) (λ E l. (E ≡ decode ds) × (l ≡ ls)) old new o

-- the same of a code of a form
abbrev pub NamedDecodeForm : NamedForm → List ℕ → List ℕ → TwoOutputs → TwoOutputs → Outcome ℕ → Type 0
NamedDecodeForm form ds ls old new o = GivesBoth (lettered_form_rows form size valence ds ls) (λ E l. (E ≡ decode ds) × (l ≡ ls)) old new o

-- an edge list with letters, and a root: nothing is written
abbrev pub NamedCheckEdges : ℕ → List ℕ → List ℕ → ℕ → Outcome ℕ → Type 0
NamedCheckEdges N E s r o = Answered (letter_rows size valence N E r s) (λ n. n ≡ 0) o

-- the rooted code at the vertex r, its digits and its letters
abbrev pub NamedRootedCode : ℕ → List ℕ → List ℕ → ℕ → TwoOutputs → TwoOutputs → Outcome ℕ → Type 0
NamedRootedCode N E s r old new o = GivesBoth (letter_rows size valence N E r s) (Spelled (λ c. c ≡ rootedₗ atoms (atom_at s) N E r)) old new o

-- the N-tuple code, or the centred code; no root is named
abbrev pub NamedFormCode : NamedForm → ℕ → List ℕ → List ℕ → TwoOutputs → TwoOutputs → Outcome ℕ → Type 0
NamedFormCode form N E s old new o = GivesBoth (letter_rows size valence N E 1 s) (Spelled (form N E (atom_at s))) old new o
