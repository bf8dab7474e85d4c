-- Laws of editions. In order: how many neighbours; whether there is an edition, by them; row 22; a table in an edition, from what is known of it for the limit. What
-- rests on `in_edition` is in `proofs.Laws`. Assumes nothing.
use Rattle.std.specs.Prelude.{◌≡◌, refl, List, [], ◌∷◌, ℕ, zero, suc, ◌≤◌}
use Rattle.std.proofs.Common.{subst, ◌∙◌, inl, inr, arith}
use Rattle.refusal.specs.document.Table.{Row, Clear, FirstRefusal}
use Rattle.refusal.specs.Laws.{clear_one, clear_both, never, refusal_front}
use Rattle.refusal.proofs.Laws.{first-place, refusal_back}
use Rattle.edition.specs.document.Edition.{IsEdition, neighbours_in, row22, in_edition}

-- ---- neighbours

pub at_most_nine : (e : ℕ) → neighbours_in e ≤ 9
unfolding neighbours_in
at_most_nine zero = omega arith
at_most_nine (suc zero) = omega arith
at_most_nine (suc (suc zero)) = omega arith
at_most_nine (suc (suc (suc e))) = omega arith

-- edition 1's limit is below that of every edition
pub four_or_more : (e : ℕ) → IsEdition e → 4 ≤ neighbours_in e
unfolding neighbours_in
four_or_more e (inl h) = rw h (omega arith)
four_or_more e (inr h) = rw h (omega arith)

-- ---- whether there is an edition

pub some_neighbours : (e : ℕ) → (neighbours_in e ≡ 0 → ⊥) → IsEdition e
unfolding neighbours_in
some_neighbours zero n = absurd (n refl)
some_neighbours (suc zero) n = inl refl
some_neighbours (suc (suc zero)) n = inr refl
some_neighbours (suc (suc (suc e))) n = absurd (n refl)

pub no_neighbours : (e : ℕ) → neighbours_in e ≡ 0 → IsEdition e → ⊥
no_neighbours e z i = let z2 : ⊥ = omega (arith, four_or_more e i) in z2

-- ---- row 22

pub edition_clear : {e : ℕ} → IsEdition e → Clear (row22 e ∷ [])
edition_clear {e} i = clear_one {r = row22 e} (λ p a. a.1 i)

-- where 22 does not apply, there is such an edition
pub clear_edition : {e : ℕ} {rs : List Row} → Clear (row22 e ∷ rs) → IsEdition e
clear_edition {e} c = some_neighbours e (λ z. never c 0 (refl, no_neighbours e z))

-- it is given before all others
pub refused_22 : {e : ℕ} (rs : List Row) → neighbours_in e ≡ 0 → FirstRefusal (row22 e ∷ rs) 22 0
refused_22 {e} rs z = refusal_front rs (first-place {r = row22 e} (refl, no_neighbours e z) (λ q l a. let n : ⊥ = omega arith in n))

-- ---- a table in an edition, whose limit is r

pub an_edition : (e : ℕ) {r : ℕ} → r ≡ neighbours_in e → (r ≡ 0 → ⊥) → IsEdition e
an_edition e is n = some_neighbours e (λ z. n (is ∙ z))

module _ (e : ℕ) {r : ℕ} (l : (r ≡ neighbours_in e) × IsEdition e) where
  -- a limit that calls may be asked for
  pub lawful_limit : (1 ≤ r) × (r ≤ 9)
  lawful_limit = (omega (arith, l.0, four_or_more e l.1), omega (arith, l.0, at_most_nine e))

  pub clear_in : (rows : ℕ → List Row) → Clear (rows r) → Clear (in_edition e rows)
  clear_in rows c = clear_both (edition_clear l.1) (subst (λ (x : ℕ). Clear (rows x)) l.0 c)

  pub refusal_in : (rows : ℕ → List Row) {k p : ℕ} → FirstRefusal (rows r) k p → FirstRefusal (in_edition e rows) k p
  refusal_in rows {k} {p} f = refusal_back (edition_clear l.1) (subst (λ (x : ℕ). FirstRefusal (rows x) k p) l.0 f)
