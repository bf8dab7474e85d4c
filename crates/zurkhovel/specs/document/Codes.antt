-- The promises of the calls on digit codes and edge lists: which rows of document 01's table each judges, what it gives where none
-- applies, and what its lent output then holds. A refusal is the first row that applies, at its first place, which is 22 or else the lowest
-- number (`Tables`), and leaves the output as it was (`Promise`, `Gives`).
--
-- e: the edition; c, E: what is handed in; old, new: the lent output before and after; o: the answer as number and place (`told`). Assumes nothing.
use Rattle.std.specs.Prelude.{◌≡◌, List, ℕ}
use Rattle.refusal.specs.document.Table.{Outcome, Answered, Gives}
use Rattle.limits.specs.document.Limits.{size}
use Rattle.digit_code.specs.document.Code.{decode}
use Rattle.skeleton.specs.document.Skeleton.{rooted}
use Rattle.zurkhovel.specs.document.InEdition.{code_table, form_table, edge_table}

-- a right rooted code: nothing is written
abbrev pub CheckCode : ℕ → List ℕ → Outcome ℕ → Type 0
CheckCode e c o = Answered (code_table e c) (λ n. n ≡ 0) o

-- the edges of a right rooted code, two bytes for each child from 2 to N
abbrev pub DecodeCode : ℕ → List ℕ → List ℕ → List ℕ → Outcome ℕ → Type 0
DecodeCode e c old new o = Gives (code_table e c) (λ E. E ≡ decode c) old new o

-- N vertices, the edge list E and the root r: nothing is written
abbrev pub CheckEdges : ℕ → ℕ → List ℕ → ℕ → Outcome ℕ → Type 0
CheckEdges e N E r o = Answered (edge_table e size N E r) (λ n. n ≡ 0) o

-- the rooted code at the vertex r of the skeleton with N vertices and the edges E
abbrev pub RootedCode : ℕ → ℕ → List ℕ → ℕ → List ℕ → List ℕ → Outcome ℕ → Type 0
RootedCode e N E r old new o = Gives (edge_table e size N E r) (λ c. c ≡ rooted N E r) old new o

-- its N-tuple code, or its centred code; no root is named
abbrev pub FormCode : ℕ → (ℕ → List ℕ → List ℕ → Type 0) → ℕ → List ℕ → List ℕ → List ℕ → Outcome ℕ → Type 0
FormCode e form N E old new o = Gives (edge_table e size N E 1) (form N E) old new o

-- the edges of a code of either form
abbrev pub DecodeForm : ℕ → (ℕ → List ℕ → List ℕ → Type 0) → List ℕ → List ℕ → List ℕ → Outcome ℕ → Type 0
DecodeForm e form c old new o = Gives (form_table e form c) (λ E. E ≡ decode c) old new o
