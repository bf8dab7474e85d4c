-- The children of a vertex, one after the other along its row: the parent is passed over, and the first 0 ends them. Assumes nothing.
use mathlib.Core.Path.{◌≡◌, refl, ap, ◌∙◌}
use mathlib.Core.Logic.Dec
use mathlib.Core.Logic.{if_pos, if_neg}
use mathlib.Core.List.{List, [], ◌∷◌}
use Prim.Native.Nat.{ℕ, suc, ◌≤◌, ◌<◌}
use native.Mathlib.Decide.{ℕ_discrete}
use lib.ListN.{length, get_or, drop, drop_of_length-le}
use lib.Seq.{drop-cons}
use Rattle.rooted_coder.specs.Ordered.{filled, but}

-- those of a row from column j on
abbrev pub rest : ℕ → List ℕ → ℕ → List ℕ
rest p l j = but p (filled (drop j l))

module _ (p : ℕ) (l : List ℕ) (j : ℕ) where
  pub row_ends : length l ≤ j → rest p l j ≡ []
  unfolding filled
  row_ends h = ap (λ r. but p (filled r)) (drop_of_length-le l {i = j} h)

  module _ (h : j < length l) where
    pub zero_ends : get_or l j 0 ≡ 0 → rest p l j ≡ []
    unfolding filled
    zero_ends e = ap (λ r. but p (filled r)) (drop-cons l j 0 h) ∙ ap (but p) (if_pos (ℕ_discrete (get_or l j 0) 0) e [] (get_or l j 0 ∷ filled (drop (suc j) l)))

    module _ (n : get_or l j 0 ≡ 0 → ⊥) where
      next : rest p l j ≡ but p (get_or l j 0 ∷ filled (drop (suc j) l))
      unfolding filled
      next = ap (λ r. but p (filled r)) (drop-cons l j 0 h) ∙ ap (but p) (if_neg (ℕ_discrete (get_or l j 0) 0) n [] (get_or l j 0 ∷ filled (drop (suc j) l)))

      -- the parent is passed over
      pub past_parent : get_or l j 0 ≡ p → rest p l j ≡ rest p l (suc j)
      past_parent e = next ∙ if_neg (Dec.not (ℕ_discrete (get_or l j 0) p)) (λ m. m e) (get_or l j 0 ∷ rest p l (suc j)) (rest p l (suc j))

      -- a child
      pub one_child : (get_or l j 0 ≡ p → ⊥) → rest p l j ≡ get_or l j 0 ∷ rest p l (suc j)
      one_child m = next ∙ if_pos (Dec.not (ℕ_discrete (get_or l j 0) p)) m (get_or l j 0 ∷ rest p l (suc j)) (rest p l (suc j))

-- a row with one number at most, the parent
pub lone : (p : ℕ) (l : List ℕ) → get_or l 0 0 ≡ p → get_or l 1 0 ≡ 0 → but p (filled l) ≡ []
unfolding filled
lone p [] e k = refl
lone p (x ∷ l) e k = step (ℕ_discrete x 0)
  where
    behind : filled l ≡ []
    behind = ends l k
      where
        ends : (l : List ℕ) → get_or l 0 0 ≡ 0 → filled l ≡ []
        ends [] e = refl
        ends (y ∷ l) e = if_pos (ℕ_discrete y 0) e [] (y ∷ filled l)

    step : Dec (x ≡ 0) → but p (filled (x ∷ l)) ≡ []
    step (yes z) = ap (but p) (if_pos (ℕ_discrete x 0) z [] (x ∷ filled l))
    step (no z) =
        ap (but p) (if_neg (ℕ_discrete x 0) z [] (x ∷ filled l) ∙ ap (λ r. x ∷ r) behind)
        ∙ if_neg (Dec.not (ℕ_discrete x p)) (λ m. m e) (x ∷ []) []
