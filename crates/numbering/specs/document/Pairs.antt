-- Document 02, wish 6: "Rooted coding compares every pair of siblings once and reports the total. The total equals that count as defined from
-- the tree": at each vertex, over all pairs of its children, the pairs of digits looked at when their codes are compared; summed.
--
-- In order: of two codes; of the codes of siblings; of a tree; the logarithm that its bound (`pairs_bound`) speaks of. Assumes nothing.
use Rattle.std.proofs.Math.Logic.{ite}
use Rattle.std.specs.Prelude.{List, [], ◌∷◌, map, ℕ, zero, suc, ◌+◌, ◌^◌}
use Rattle.std.proofs.Math.Decide.{ℕ_discrete, dec_le}
use Rattle.digit_code.specs.document.Code.{sum}
use Rattle.skeleton.specs.document.Skeleton.{Arc, arcs, children, code_at}
use Rattle.skeleton.specs.document.Label.{Marks, codeₗ}

-- the pairs of digits looked at when two codes are compared: "up to and including the first difference, or the whole code if equal"; where one
-- begins the other, the whole shorter one
unfoldable pub digit_pairs : List ℕ → List ℕ → ℕ
digit_pairs [] d = 0
digit_pairs (x ∷ c) [] = 0
digit_pairs (x ∷ c) (y ∷ d) = suc (ite (ℕ_discrete x y) (digit_pairs c d) 0)

-- their number over all pairs of these codes, each pair once
unfoldable pub sibling_pairs : List (List ℕ) → ℕ
sibling_pairs [] = 0
sibling_pairs (c ∷ cs) = sum (map (digit_pairs c) cs) + sibling_pairs cs

-- over all pairs of v's children, and the same at each of these; `code` is the code of what hangs at a vertex, p is v's parent, and n bounds how deep it goes
unfoldable pub pairs_at : (ℕ → List Arc → ℕ → ℕ → List ℕ) → ℕ → List Arc → ℕ → ℕ → ℕ
pairs_at code zero A p v = 0
pairs_at code (suc n) A p v = sibling_pairs (map (code n A v) (children A p v)) + sum (map (pairs_at code n A v) (children A p v))

-- the pairs of digits looked at for the rooted code at r of a tree of N vertices
unfoldable pub rooted_pairs : ℕ → List ℕ → ℕ → ℕ
rooted_pairs N E r = pairs_at code_at N (arcs E) 0 r

-- with labels, the pairs of marks; M says how a vertex is written by the number of its children and its label
unfoldable pub rooted_pairsₗ : (M : Marks) → (ℕ → M.Label) → ℕ → List ℕ → ℕ → ℕ
rooted_pairsₗ M label N E r = pairs_at (codeₗ M label) N (arcs E) 0 r

-- the whole part of log2 n, for n from 1: one more at each power of two
unfoldable pub log2 : ℕ → ℕ
log2 zero = 0
log2 (suc n) = ite (dec_le (2 ^ suc (log2 n)) (suc n)) (suc (log2 n)) (log2 n)
