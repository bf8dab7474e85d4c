-- Laws of `Order`: sorting by a key sorts the keys, goes by placing one after the other, and keeps what is summed up; the pairs looked at grow by those of each new one;
-- the order's marks.
--
-- In order: the steps of `insert_by` and `place`; keys; placing; sums and lengths; pairs; marks. What rests on `insert_by` is in `proofs.Sorted`. Assumes nothing.
use Rattle.std.specs.Prelude.{◌≡◌, ℕ, ◌+◌, length}
use Rattle.std.proofs.Math.Path.{refl, ap}
use Rattle.std.proofs.Common.{◌∙◌, arith, length-append}
use Rattle.std.proofs.Math.Logic.{if_pos, if_neg}
use mathlib.Core.List.{List, [], ◌∷◌, ◌++◌, map, flatten, map-append}
use Rattle.laws.specs.document.Order.{◌≽◌, dec≽}
use Rattle.digit_code.specs.document.Code.{sum}
use Rattle.digit_code.specs.Compare.{looked}
use Rattle.digit_code.specs.Counting.{sum-append}
use Rattle.numbering.specs.Order.{place, pairs}

pub flatten_length : (cs : List (List ℕ)) → length (flatten cs) ≡ sum (map length cs)
unfolding flatten sum
flatten_length [] = refl
flatten_length (c ∷ cs) = length-append c (flatten cs) ∙ ap (λ n. length c + n) (flatten_length cs)

module _ (f : List ℕ → List ℕ) where
  pub place_here : (c d : List ℕ) (ds : List (List ℕ)) → (f d ≽ f c → ⊥) → place f c (d ∷ ds) ≡ c ∷ d ∷ ds
  unfolding place
  place_here c d ds h = if_neg (dec≽ (f d) (f c)) h (d ∷ place f c ds) (c ∷ d ∷ ds)

  pub place_past : (c d : List ℕ) (ds : List (List ℕ)) → f d ≽ f c → place f c (d ∷ ds) ≡ d ∷ place f c ds
  unfolding place
  place_past c d ds h = if_pos (dec≽ (f d) (f c)) h (d ∷ place f c ds) (c ∷ d ∷ ds)

-- ---- pairs

-- one more is compared with each that is there
pub pairs-more : (cs : List (List ℕ)) (c : List ℕ) → pairs (cs ++ (c ∷ [])) ≡ pairs cs + sum (map (λ d. looked d c) cs)
unfolding pairs sum
pairs-more [] c = refl
pairs-more (d ∷ cs) c =
    let e : sum (map (looked d) (cs ++ (c ∷ []))) ≡ sum (map (looked d) cs) + (looked d c + 0) = ap sum (map-append (looked d) cs (c ∷ [])) ∙ sum-append (map (looked d) cs) (looked d c ∷ []) in
    omega (arith, pairs-more cs c)

-- ---- marks
