-- Read from its promise alone, each call on maps has one possible result and one possible state of its lent output, as in `One`. Assumes nothing.
use Rattle.std.specs.Prelude.{Result}
use Rattle.refusal.specs.declared.ListRefusal.{ListRefusal}
use Rattle.refusal.specs.document.Outcome.{told_of, unwritten}
use Rattle.refusal.specs.document.Table.{RowOf, Answered}
use Rattle.std.specs.Prelude.{◌≡◌, refl, List, [], ◌∷◌, ℕ}
use Rattle.std.proofs.Common.{sym, ◌∙◌}
use Rattle.refusal.specs.Laws.{clear_both}
use Rattle.refusal.proofs.Apart.{told_of_apart, unwritten_apart}
use Rattle.refusal.proofs.Laws.{one_result}
use Rattle.refusal.proofs.WhichList.{one-handed_out}
use Rattle.renumber.specs.Handing.{one-handed}
use Rattle.edition.specs.document.Edition.{row22}
use Rattle.zurkhovel.specs.document.Same.{list_rows}
use Rattle.zurkhovel.specs.document.Maps.{HandOut, CheckRenumbering}
use Rattle.zurkhovel.specs.Accepted.{tree_of}
use Rattle.zurkhovel.specs.Threes.{handed-codes}

-- what a call on two lists that only checks is told as
pub one-map-check :
    {rs : List (RowOf (ℕ × ℕ))} (r s : Result ℕ ListRefusal) → Answered rs (λ n. n ≡ 0) (told_of r) → Answered rs (λ n. n ≡ 0) (told_of s) → r ≡ s
one-map-check r s x y = told_of_apart r s (one_result (λ a b e f. (e ∙ sym f, refl)) x y).0

-- such a call
pub one-map-passed :
    {rs : List (RowOf (ℕ × ℕ))} (r s : Result (Unit {0}) ListRefusal) → Answered rs (λ n. n ≡ 0) (told_of (unwritten r)) → Answered rs (λ n. n ≡ 0) (told_of (unwritten s)) → r ≡ s
one-map-passed r s x y = unwritten_apart r s (one-map-check (unwritten r) (unwritten s) x y)

module _ (e : ℕ) where
  pub one-renumbering :
      (N : ℕ) (E : List ℕ) (P : ℕ) (F old new new' : List ℕ) (r s : Result ℕ ListRefusal) → HandOut e N E P F old new (told_of r) → HandOut e N E P F old new' (told_of s)
      → (r ≡ s) × (new ≡ new')
  one-renumbering N E P F old new new' r s x y =
      let (q, f) = one-handed_out (row22 e ∷ []) (list_rows e N E) (list_rows e P F) (λ z k l. (
        one-handed (tree_of {e = e} N E 1 (clear_both z k)),
        λ w v n. let (c, g, h) = handed-codes {e = e} (clear_both z k) (clear_both z l) v in n c g h,
      )) x y in
      (told_of_apart r s q, f)

  pub one-check-renumbering :
      (N : ℕ) (E : List ℕ) (P : ℕ) (F w : List ℕ) (r s : Result (Unit {0}) ListRefusal) → CheckRenumbering e N E P F w (told_of (unwritten r))
      → CheckRenumbering e N E P F w (told_of (unwritten s)) → r ≡ s
  one-check-renumbering N E P F w = one-map-passed
