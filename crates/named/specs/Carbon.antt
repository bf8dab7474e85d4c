-- A list of carbon alone is judged by one table and coded by a call with another: where both are clear, and what stands behind them is the same, the call's answer serves. Assumes nothing.
use Rattle.std.specs.Prelude.{refl, List, [], ◌∷◌, ◌++◌, length, ℕ}
use Rattle.std.proofs.Common.{inl}
use Rattle.refusal.specs.document.Table.{Row, Clear, Outcome, Promise, kept, left, Answered, short, Gives}
use Rattle.refusal.specs.Laws.{clear_both, clear_right}
use Rattle.refusal.proofs.Laws.{refusal_back, refusal_behind}
use Rattle.limits.specs.document.Limits.{valence}
use Rattle.edge_list.specs.document.Letters.{carbon_rows}
use Rattle.edge_list.specs.Letters.{letters_accepted, carbon_accepted}
use Rattle.edge_list.specs.Theorems.{accepted}
use Rattle.edition.specs.document.Edition.{neighbours_in}
use Rattle.edition.specs.Laws.{edition_clear}
use Rattle.zurkhovel.specs.document.InEdition.{edge_table}
use Rattle.zurkhovel.specs.document.Tabled.{Tabled}
use Rattle.named.specs.document.Carbon.{carbon_table}
use Rattle.named.specs.Bounds.{carbon_bounded}

-- the same table behind another front
pub moved :
    {A S : Type 0} {right : A → S → Type 0} {old new : S} {o : Outcome A} (xs ys zs : List Row) → Clear xs → Clear ys
    → Promise (xs ++ zs) right old new o → Promise (ys ++ zs) right old new o
moved xs ys zs c d (kept k r) = kept (clear_both d (clear_right xs zs k)) r
moved xs ys zs c d (left l e) = left (refusal_back d (refusal_behind xs zs c l)) e

-- a list that is not refused by the table of carbon alone is accepted in edition 1
pub plain_clear : {most : ℕ} (N : ℕ) (E : List ℕ) (r : ℕ) (s : List ℕ) → Clear (carbon_rows most valence N E r s) → Clear (edge_table 1 most N E r)
unfolding neighbours_in
plain_clear {most} N E r s k =
    let (c, a) = (carbon_accepted most valence N E r s).0 k in
    let (sk, root, l, v) = (letters_accepted most valence N E r s).0 c in
    clear_both (edition_clear (inl refl)) ((accepted most valence N E r).1 (sk, root))

-- what a plain call answers of a list of carbon alone; zs: rows behind those of the list
module _ {most : ℕ} (N : ℕ) (E : List ℕ) (r : ℕ) (s : List ℕ) (k : Clear (carbon_rows most valence N E r s)) (zs : List Row) where
  pub gives_carbon :
      {Right : List ℕ → Type 0} {old new : List ℕ} {o : Outcome ℕ} → Gives (edge_table 1 most N E r ++ zs) Right old new o → Gives (carbon_rows most valence N E r s ++ zs) Right old new o
  gives_carbon {Right} {old} g =
      record { promise = moved (edge_table 1 most N E r) (carbon_rows most valence N E r s) (zs ++ (short Right (length old) ∷ [])) (plain_clear N E r s k) k g.promise }

  pub answers-carbon : {A : Type 0} {Right : A → Type 0} {o : Outcome A} → Answered (edge_table 1 most N E r ++ zs) Right o → Answered (carbon_rows most valence N E r s ++ zs) Right o
  answers-carbon g = moved (edge_table 1 most N E r) (carbon_rows most valence N E r s) zs (plain_clear N E r s k) k g

-- the table of carbon alone accepts skeletons, and what it refuses with fits into bytes
pub of_carbon : (s : List ℕ) → Tabled (carbon_table s) valence
of_carbon s =
    record {
      skeleton = λ {most} N E r k. ((letters_accepted most valence N E r s).0 ((carbon_accepted most valence N E r s).0 k).0).0;
      root = λ {most} N E r k. ((letters_accepted most valence N E r s).0 ((carbon_accepted most valence N E r s).0 k).0).1;
      bounded = λ h N E r. carbon_bounded h N E r s;
    }
