-- Document 02, wish 6: "Every routine that orders children carries the number upward: centred and N-tuple coding the sum over their roots, at
-- most that bound for each, the verdict both lists' sum, a refusal 0. Comparing finished codes is not counted." The promise of a call that reports is `Reporting` of the crate `refusal`.
--
-- In order: what is counted at one root, and of two lists; the bound. What is counted
-- for the centred and the N-tuple code is `CentredPairs` and `NTuplePairs` of the crate `form_coder`. That what is reported is one, and keeps the
-- bound, is said call by call in `OneReported` and `Looked`. Assumes nothing.
use Rattle.std.specs.Prelude.{◌≡◌, List, ℕ, ◌+◌, ◌-◌, ◌*◌}
use Rattle.numbering.specs.document.Pairs.{rooted_pairs, log2}
use Rattle.form_coder.specs.document.Pairs.{CentredPairs}

-- n pairs of digits are looked at for the rooted code at r of the skeleton of N vertices with the edges E
abbrev pub ReportedAtRoot : ℕ → List ℕ → ℕ → ℕ → Type 0
ReportedAtRoot N E r n = n ≡ rooted_pairs N E r

-- for two lists of N and P vertices, of which C and D are counted: both lists' sum; where the sizes differ neither is coded
pub data SumOfBoth (N P : ℕ) (C D : ℕ → Type 0) : ℕ → Type 0 where
  coded : {n m : ℕ} → N ≡ P → C n → D m → SumOfBoth N P C D (n + m)
  not_coded : (N ≡ P → ⊥) → SumOfBoth N P C D 0

-- for the verdict on N vertices with the edges E and P vertices with the edges F, and for a renumbering of the first onto the second
abbrev pub OfBoth : ℕ → List ℕ → ℕ → List ℕ → ℕ → Type 0
OfBoth N E P F = SumOfBoth N P (CentredPairs N E) (CentredPairs P F)

-- "3 times N times the whole part of log2 N", and "In edition 2 the factor 3 in the count of digit pairs is 8": one less than the neighbours that a
-- vertex may have, R
abbrev pub most_pairs : ℕ → ℕ → ℕ
most_pairs R N = (R - 1) * N * log2 N
