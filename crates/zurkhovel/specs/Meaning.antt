-- What "same" means, stated of the promises of the public calls: what each answer says of two edge lists without codes. The other half, "not the same", stands
-- beside each. That it follows, for any tables and codes, is in `Means`.
--
-- In order: the centred codes and the N-tuple codes that the calls give; the verdict; the renumbering that is handed out; the one that is judged; the two
-- together. Assumes nothing.
use Rattle.std.specs.Prelude.{◌≡◌, ◌↔◌, true, false, List, [], ◌∷◌, ℕ, ◌≤◌, take}
use Rattle.std.proofs.Math.Logic.{Iff.trans as iff_trans}
use Rattle.std.proofs.Common.{arith}
use Rattle.refusal.specs.document.Table.{Clear, gives}
use Rattle.refusal.specs.Giving.{gave}
use Rattle.refusal.specs.Laws.{clear_both, clear_left, others, at_least}
use Rattle.limits.specs.document.Limits.{size}
use Rattle.edition.specs.document.Edition.{row22}
use Rattle.form.specs.document.Form.{IsNTuple, IsCentred}
use Rattle.form.specs.Forms.{IsForm, n_tuple-form, centred-form, form-verdict}
use Rattle.renumber.specs.document.Map.{map_rows, Renumbers, HandedOut}
use Rattle.renumber.specs.Theorems.{map_exactly}
use Rattle.zurkhovel.specs.document.InEdition.{edge_table}
use Rattle.zurkhovel.specs.document.Codes.{FormCode}
use Rattle.zurkhovel.specs.document.Same.{list_rows, SameSkeleton, SameUnder}
use Rattle.zurkhovel.specs.document.Maps.{MapOutcome, HandOut, CheckRenumbering}
use Rattle.zurkhovel.specs.Accepted.{tree_of}
use Rattle.zurkhovel.specs.Threes.{handed_length}
use Rattle.zurkhovel.specs.Means.{Means, same_means, not_same_means, map_means, none_means, some_means, handed_means}

module _ (e : ℕ) where
  -- ---- the codes

  -- what two calls gave of a form is equal exactly where the lists are the same; so it is not where they are not
  same_codes :
      (form : ℕ → List ℕ → List ℕ → Type 0) → IsForm form → (N P : ℕ) (E F old new old' new' : List ℕ) (n m : ℕ)
      → FormCode e form N E old new (gives n) → FormCode e form P F old' new' (gives m) → (take n new ≡ take m new') ↔ SameUnder N E P F
  same_codes form f N P E F old new old' new' n m x y =
      let (k, c, a) = gave x in
      let (l, d, b) = gave y in
      form-verdict form f N P E F (take n new) (take m new') (tree_of N E 1 k) (tree_of P F 1 l) c d

  -- Two accepted edge lists get equal centred codes exactly when a renumbering carries one onto the other.
  pub same-centred-codes :
      (N P : ℕ) (E F old new old' new' : List ℕ) (n m : ℕ) → FormCode e IsCentred N E old new (gives n) → FormCode e IsCentred P F old' new' (gives m)
      → (take n new ≡ take m new') ↔ SameUnder N E P F
  same-centred-codes = same_codes IsCentred centred-form

  -- The same for N-tuple codes.
  pub same-n_tuple-codes :
      (N P : ℕ) (E F old new old' new' : List ℕ) (n m : ℕ) → FormCode e IsNTuple N E old new (gives n) → FormCode e IsNTuple P F old' new' (gives m)
      → (take n new ≡ take m new') ↔ SameUnder N E P F
  same-n_tuple-codes = same_codes IsNTuple n_tuple-form

  -- ---- the verdict

  module _ (N P : ℕ) (E F : List ℕ) where
    means : Means (row22 e ∷ []) (list_rows e N E) (list_rows e P F) (IsCentred N E) (IsCentred P F) (SameUnder N E P F)
    means = record {
      some = λ z k. centred-form.some N E (tree_of {e = e} N E 1 (clear_both z k));
      other = λ z l. centred-form.some P F (tree_of {e = e} P F 1 (clear_both z l));
      same = λ z k l c d x y. form-verdict IsCentred centred-form N P E F c d (tree_of {e = e} N E 1 (clear_both z k)) (tree_of {e = e} P F 1 (clear_both z l)) x y;
    }

    -- 22 is before the table of each list
    accepted : {X : Type 0} → (Clear (row22 e ∷ []) × Clear (list_rows e N E) × Clear (list_rows e P F) × X) ↔ (Clear (edge_table e size N E 1) × Clear (edge_table e size P F 1) × X)
    accepted = ((λ (z, k, l, x). (clear_both z k, clear_both z l, x)), (λ (k, l, x). (clear_left (row22 e ∷ []) (list_rows e N E) k, others k, others l, x)))

    -- "The same" is said of two accepted lists exactly when they are.
    pub same-said : SameSkeleton e N E P F (gives true) ↔ (Clear (edge_table e size N E 1) × Clear (edge_table e size P F 1) × SameUnder N E P F)
    same-said = iff_trans (same_means means) accepted

    -- "Not the same" is said of two accepted lists exactly when they are not.
    pub not_same_said : SameSkeleton e N E P F (gives false) ↔ (Clear (edge_table e size N E 1) × Clear (edge_table e size P F 1) × (SameUnder N E P F → ⊥))
    not_same_said = iff_trans (not_same_means means) accepted

    -- ---- a renumbering handed out, and one judged

    exact : (w : List ℕ) → Clear (row22 e ∷ []) → Clear (list_rows e N E) → Clear (list_rows e P F) → Clear (map_rows N E P F w) ↔ Renumbers N E P F w
    exact w z k l = map_exactly N P E F w (tree_of {e = e} N E 1 (clear_both z k)) (tree_of {e = e} P F 1 (clear_both z l))

    -- A map is accepted exactly when both lists are, they have equally many vertices, and it is a renumbering of the first onto the second, entry by entry.
    pub accepted_exactly :
        (w : List ℕ) → CheckRenumbering e N E P F w (gives 0) ↔ (Clear (edge_table e size N E 1) × Clear (edge_table e size P F 1) × Renumbers N E P F w)
    accepted_exactly w = iff_trans (map_means (exact w)) accepted

    -- Where a map is accepted, the verdict is yes.
    pub accepted_same : (w : List ℕ) → CheckRenumbering e N E P F w (gives 0) → SameSkeleton e N E P F (gives true)
    accepted_same w x = let (k, l, (s, n, ρ, t)) = (accepted_exactly w).0 x in same-said.1 (k, l, (s, ρ))

    right : (w : List ℕ) → HandedOut N E P F w → Renumbers N E P F w
    right w x = x.renumbers

    shows : (w : List ℕ) → Renumbers N E P F w → SameUnder N E P F
    shows w (s, n, ρ, t) = (s, ρ)

    module _ (old new : List ℕ) (n : ℕ) where
      -- Nothing is written exactly where the lists are not the same.
      pub handed-none : HandOut e N E P F old new (gives n) → (n ≡ 0) ↔ (SameUnder N E P F → ⊥)
      handed-none = none_means means right shows old new (λ w k x. omega (arith, handed_length N P E F w x, at_least k)) n

      -- What is written is a renumbering of the first onto the second exactly where they are.
      pub handed_some : HandOut e N E P F old new (gives n) → SameUnder N E P F ↔ Renumbers N E P F (take n new)
      handed_some = some_means means right shows old new n

      -- Together: a map that is handed out is accepted.
      pub handed_accepted : 1 ≤ n → HandOut e N E P F old new (gives n) → (o : MapOutcome) → CheckRenumbering e N E P F (take n new) o → o ≡ gives 0
      handed_accepted = handed_means means right shows old new (map_rows N E P F) exact n
