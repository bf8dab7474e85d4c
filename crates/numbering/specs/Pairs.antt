-- The pairs of marks looked at where every two siblings are compared once (`pairsₗ`) are those that `document/Pairs` counts (`pairs_countedₗ`), for document 01's codes
-- the pairs of digits (`pairs-counted`).
--
-- In order: of two lists, of several; at a vertex; on a forest; of the tree. What rests on `insert_by` or `kids_of` is in `proofs.Pairs`. Assumes nothing.
use Rattle.std.specs.Prelude.{◌≡◌}
use Rattle.std.proofs.Math.Path.{refl, ap, ap₂}
use Rattle.std.proofs.Common.{◌∙◌, arith, lt-ltb, le-ltb}
use Rattle.std.proofs.Math.Logic.{if_pos, if_neg}
use mathlib.Core.List.{List, [], ◌∷◌, map}
use Prim.Native.Nat.{ℕ, suc, ◌+◌, ◌<◌}
use Rattle.std.proofs.Math.Decide.{ℕ_discrete, dec_lt}
use Rattle.digit_code.specs.declared.Order.{Order}
use Rattle.digit_code.specs.declared.Order.TheVariants.{Less, Equal, Greater}
use Rattle.digit_code.specs.document.Code.{sum}
use Rattle.digit_code.specs.Compare.{lex, looked, pairs_of, further}
use Rattle.numbering.specs.Order.{pairs}
use Rattle.numbering.specs.document.Pairs.{digit_pairs, sibling_pairs}

further-pairs : (o : Order) → pairs_of (further 1 o) ≡ suc (pairs_of o)
further-pairs (Less n) = omega arith
further-pairs (Equal n) = omega arith
further-pairs (Greater n) = omega arith

looked-counted : (a b : List ℕ) → looked a b ≡ digit_pairs a b
unfolding looked lex digit_pairs
looked-counted [] [] = refl
looked-counted [] (y ∷ b) = refl
looked-counted (x ∷ a) [] = refl
looked-counted (x ∷ a) (y ∷ b) = step (dec_lt x y) (dec_lt y x) (looked-counted a b)
  where
    step : Dec (x < y) → Dec (y < x) → looked a b ≡ digit_pairs a b → looked (x ∷ a) (y ∷ b) ≡ digit_pairs (x ∷ a) (y ∷ b)
    step (yes l) d e = rw (lt-ltb x y l, if_neg (ℕ_discrete x y) (λ q. omega arith) (digit_pairs a b) 0)
    step (no l) (yes g) e = rw (le-ltb x y (omega arith), lt-ltb y x g, if_neg (ℕ_discrete x y) (λ q. omega arith) (digit_pairs a b) 0)
    step (no l) (no g) e = rw (le-ltb x y (omega arith), le-ltb y x (omega arith), if_pos (ℕ_discrete x y) (omega arith) (digit_pairs a b) 0) (further-pairs (lex a b) ∙ ap suc e)

pub siblings-counted : (cs : List (List ℕ)) → pairs cs ≡ sibling_pairs cs
unfolding pairs sibling_pairs
siblings-counted [] = refl
siblings-counted (c ∷ cs) = ap₂ ◌+◌ (λ i. sum (map (λ d. looked-counted c d i) cs)) (siblings-counted cs)

-- ---- of the tree
