-- The edges of the code that a bit form carries, from what its reader decided. Assumes nothing.
use Rattle.std.specs.Prelude.{Err, Result}
use Rattle.refusal.specs.declared.Refusal.{Refusal}
use mathlib.Core.Path.{◌≡◌, ap, subst, ◌∙◌}
use mathlib.Core.Bool.{Bool}
use mathlib.Core.List.{List, [], ◌∷◌}
use Prim.Native.Nat.{ℕ}
use native.Mathlib.Omega.{arith}
use lib.ListN.{length, take}
use Rattle.refusal.specs.document.Table.{Row, FirstRefusal, Gives}
use Rattle.refusal.specs.Giving.{refused-first}
use Rattle.refusal.specs.Laws.{clear_both, refusal_front}
use Rattle.refusal.proofs.Laws.{refusal_back}
use Rattle.edition.specs.document.Edition.{IsEdition, neighbours_in, row22, in_edition}
use Rattle.edition.specs.Laws.{edition_clear}
use Rattle.refusal.specs.document.Outcome.{told}
use Rattle.limits.specs.document.Limits.{size}
use Rattle.digit_code.specs.document.Code.{decode}
use Rattle.bits.specs.Reading.{one_reading}
use Rattle.bits.specs.Decided.{Decided, gives, refuses, Decision}
use Rattle.zurkhovel.specs.document.Bits.{Decodes}
use Rattle.zurkhovel.specs.Rooting.{Readable, EdgesOf}
use Rattle.refusal.proofs.Behind.{behind}
use Rattle.digit_code.specs.Right.{clear_right}

module _ {rs : List Row} {R : ℕ} {May : List Bool → Type 0} {bs : List Bool} {out : List ℕ} where
  readable : {a : Result ℕ Refusal} → Decided rs R May bs out a → length out ≡ size → Readable out a
  readable (gives {n} c t) l = (let r = clear_right size R (take n out) t.clear in (r.ends, r.few), omega (arith, t.most))
  readable (refuses k) l = tt

  -- what was decided is a right code, or refused
  pub form_readable : {a : Result ℕ Refusal} → Decision rs R May bs out a → Readable out a
  form_readable d = readable d.answer d.long

  module _ {old new : List ℕ} where
    edges : {a : Result ℕ Refusal} (r : Result ℕ Refusal) → Decided rs R May bs out a → EdgesOf out old new a r → Gives rs (Decodes R May bs) old new (told r)
    edges r (gives {n} c t) g =
        behind c (λ E h. record { code = take n out; reads = t.reads; edges = h })
        (λ E h. h.edges ∙ ap decode (one_reading h.reads t.reads)) g
    edges r (refuses l) e = rw e.0 (refused-first l e.1)

    -- the edges of the digits are those of the form
    pub form-edges : {a : Result ℕ Refusal} (r : Result ℕ Refusal) → Decision rs R May bs out a → EdgesOf out old new a r → Gives rs (Decodes R May bs) old new (told r)
    form-edges r d g = edges r d.answer g

-- ---- in an edition e, whose limit is r

module _ (e : ℕ) {May : List Bool → Type 0} {bs : List Bool} {out : List ℕ} where
  pub form-none :
      (rows : ℕ → List Row) {r : Refusal} → FirstRefusal (row22 e ∷ []) r.row r.place → length out ≡ size
      → Decision (in_edition e rows) (neighbours_in e) May bs out (Err r)
  form-none rows f l = record { answer = refuses (refusal_front (rows (neighbours_in e)) f); long = l }

  pub form_in :
      {r : ℕ} {a : Result ℕ Refusal} → (r ≡ neighbours_in e) × IsEdition e → (rows : ℕ → List Row) → Decision (rows r) r May bs out a
      → Decision (in_edition e rows) (neighbours_in e) May bs out a
  form_in {a = a} (is, i) rows d =
      let h = subst (λ (x : ℕ). Decision (rows x) x May bs out a) is d in record { answer = decided h.answer; long = h.long }
    where
      decided : {a : Result ℕ Refusal} → Decided (rows (neighbours_in e)) (neighbours_in e) May bs out a → Decided (in_edition e rows) (neighbours_in e) May bs out a
      decided (gives c t) = gives (clear_both (edition_clear i) c) t
      decided (refuses l) = refuses (refusal_back (edition_clear i) l)
