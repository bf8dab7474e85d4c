-- Laws of editions. Here stands what rests on `in_edition`; the rest is in `specs.Laws`. Assumes nothing.
use Rattle.std.specs.Prelude.{◌≡◌, List, [], ◌∷◌, ℕ, Err, IsErrAnd}
use Rattle.std.proofs.Common.{sym, ◌∙◌}
use Rattle.refusal.specs.declared.Refusal.{Refusal}
use Rattle.refusal.specs.document.Table.{Row, FirstRefusal}
use Rattle.refusal.proofs.Laws.{exits}
use Rattle.refusal.specs.Checks.{Check, Answers, passes, fails}
use Rattle.edition.specs.document.Edition.{IsEdition, neighbours_in, row22, in_edition}
use Rattle.edition.specs.Laws.{clear_in, refusal_in, refused_22}

module _ (e : ℕ) {r : ℕ} (l : (r ≡ neighbours_in e) × IsEdition e) where
  pub answers_in : (rows : ℕ → List Row) {a : Check} → Answers (rows r) a → Answers (in_edition e rows) a
  answers_in rows (passes c) = passes (clear_in e l rows c)
  answers_in rows (fails f) = fails (refusal_in e l rows f)

-- where there is no such edition, 22 answers for the whole table
pub no_edition : (e : ℕ) (rows : ℕ → List Row) {r : Refusal} {a : Check} → IsErrAnd a (λ d. d ≡ r) → FirstRefusal (row22 e ∷ []) r.row r.place → Answers (in_edition e rows) a
no_edition e rows h f = exits (rows (neighbours_in e)) h (fails f)

-- that answer is 22 at 0
pub without_edition : (e : ℕ) {r : ℕ} → r ≡ neighbours_in e → (rows : ℕ → List Row) → r ≡ 0 → Answers (in_edition e rows) (Err (record { row = 22; place = 0 }))
without_edition e is rows z = fails (refused_22 (rows (neighbours_in e)) (sym is ∙ z))
