-- What the promises say without codes. Assumes nothing.
use Rattle.std.specs.Prelude.{◌≡◌, refl, ◌↔◌, Bool, true, false, List, [], ◌∷◌, ℕ}
use Rattle.std.proofs.Common.{sym, ◌∙◌, subst}
use Rattle.refusal.specs.document.Table.{Clear, FirstRefusal, gives, kept}
use Rattle.refusal.specs.Laws.{clear_both, clear_left, others}
use Rattle.refusal.specs.Lists.{lists_clear}
use Rattle.refusal.proofs.WhichList.{lists-none, lists-first, lists-second}
use Rattle.skeleton.specs.document.Skeleton.{Renumbering}
use Rattle.form.specs.document.Form.{IsCentred}
use Rattle.form.specs.Forms.{centred-form, form-size, form-verdict}
use Rattle.zurkhovel.specs.Accepted.{tree_of}
use Rattle.zurkhovel.specs.document.Same.{list_rows, both_rows, EqualCodes, SameSkeleton}
use Rattle.limits.specs.document.Limits.{size}
use Rattle.edition.specs.document.Edition.{IsEdition, neighbours_in, row22}
use Rattle.edition.specs.Laws.{edition_clear, refused_22}
use Rattle.zurkhovel.specs.document.InEdition.{edge_table}

module _ {e : ℕ} where
  -- no row applies to two lists where none applies to the first and none to the second
  pub both_clear : (N P : ℕ) (E F : List ℕ) → Clear (both_rows e N E P F) ↔ (Clear (edge_table e size N E 1) × Clear (edge_table e size P F 1))
  both_clear N P E F =
      let (there, back) = lists_clear (row22 e ∷ []) (list_rows e N E) (list_rows e P F) in (
        (λ c. let (z, k, l) = there c in (clear_both z k, clear_both z l)),
        (λ (k, l). back (clear_left (row22 e ∷ []) (list_rows e N E) k, others k, others l)),
      )

  -- there is no such edition; the first list is refused, or the second
  module _ (N P : ℕ) (E F : List ℕ) where
    pub both-none : neighbours_in e ≡ 0 → FirstRefusal (both_rows e N E P F) (0, 22) 0
    both-none z = lists-none (row22 e ∷ []) (list_rows e N E) (list_rows e P F) (refused_22 [] z)

    pub both_first : {k p : ℕ} → IsEdition e → FirstRefusal (list_rows e N E) k p → FirstRefusal (both_rows e N E P F) (1, k) p
    both_first i l = lists-first (row22 e ∷ []) (list_rows e N E) (list_rows e P F) (edition_clear i) l

    pub both-second : {k p : ℕ} → Clear (edge_table e size N E 1) → FirstRefusal (list_rows e P F) k p → FirstRefusal (both_rows e N E P F) (2, k) p
    both-second c l = lists-second (row22 e ∷ []) (list_rows e N E) (list_rows e P F) (clear_left (row22 e ∷ []) (list_rows e N E) c) (others c) l

  -- lists of different sizes have no code in common
  pub sizes_apart : {N P : ℕ} {E F : List ℕ} → Clear (edge_table e size N E 1) → Clear (edge_table e size P F 1) → (N ≡ P → ⊥) → EqualCodes N E P F false
  sizes_apart {N} {P} {E} {F} k l n c x y =
      n (sym (form-size IsCentred centred-form N E c (tree_of N E 1 k) x) ∙ form-size IsCentred centred-form P F c (tree_of P F 1 l) y)

  -- where there is a verdict, both are accepted
  pub verdict-lists : {N P : ℕ} {E F : List ℕ} {b : Bool} → SameSkeleton e N E P F (gives b) → Clear (edge_table e size N E 1) × Clear (edge_table e size P F 1)
  verdict-lists {N} {P} {E} {F} (kept c r) = (both_clear N P E F).0 c

  -- "the same" is said of two accepted lists exactly when they have equally many vertices and the numbers of one can be changed to make it
  -- the other
  pub same_exactly :
      (N P : ℕ) (E F : List ℕ) → SameSkeleton e N E P F (gives true) ↔ (Clear (edge_table e size N E 1) × Clear (edge_table e size P F 1) × (N ≡ P) × Renumbering N E F)
  same_exactly N P E F = (forth, λ (k, l, n, r). back k l (n, r))
    where
      forth : SameSkeleton e N E P F (gives true) → Clear (edge_table e size N E 1) × Clear (edge_table e size P F 1) × (N ≡ P) × Renumbering N E F
      forth (kept m (c, x, y)) =
          let (k, l) = (both_clear N P E F).0 m in
          let (n, r) = (form-verdict IsCentred centred-form N P E F c c (tree_of N E 1 k) (tree_of P F 1 l) x y).0 refl in
          (k, l, n, r)

      back : Clear (edge_table e size N E 1) → Clear (edge_table e size P F 1) → (N ≡ P) × Renumbering N E F → SameSkeleton e N E P F (gives true)
      back k l r =
          let (c, x) = centred-form.some N E (tree_of N E 1 k) in
          let (d, y) = centred-form.some P F (tree_of P F 1 l) in
          kept {a = true} ((both_clear N P E F).1 (k, l)) (d, subst (IsCentred N E) ((form-verdict IsCentred centred-form N P E F c d (tree_of N E 1 k) (tree_of P F 1 l) x y).1 r) x, y)
