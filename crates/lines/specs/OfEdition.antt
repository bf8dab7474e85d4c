-- The lines of an edition are the plain lines for its limit, where there is such an edition; else each is 22.
--
-- In order: of an edition that is none; the answer to a line, and reading one, both ways; that they are a sound format. What rests on `tied` is in `proofs.OfEdition`.
-- Assumes nothing.
use Rattle.std.specs.Prelude.{◌≡◌, refl, List, [], ◌∷◌, ◌++◌, ℕ, ◌≤◌, length}
use Rattle.std.proofs.Common.{subst}
use Rattle.refusal.specs.document.Table.{Row, Clear, FirstRefusal, Outcome, refuses, Promise, kept, left}
use Rattle.refusal.specs.Laws.{clear_both, others, refusal_front}
use Rattle.refusal.proofs.Laws.{refusal_back, refusal_behind}
use Rattle.limits.specs.document.Limits.{size}
use Rattle.edition.specs.document.Edition.{IsEdition, neighbours_in, row22}
use Rattle.edition.specs.Laws.{at_most_nine, edition_clear}
use Rattle.texts.specs.document.Text.{Format, line_rows, LineAnswers}
use Rattle.texts.specs.document.Lent.{Hands, line_row15}
use Rattle.texts.specs.Damage.{Accept}
use Rattle.texts.specs.Judging.{judged}
use Rattle.lines.specs.document.Line.{Front, plain_lines}
use Rattle.lines.specs.document.Judged.{digit_table}
use Rattle.lines.specs.document.Reading.{digits_lent, lines_of, LineRead}
use Rattle.lines.specs.Judged.{table_accept}

-- ---- of an edition that is none

pub line-none :
    (e : ℕ) {k p : ℕ} {t old new : List ℕ} → FirstRefusal (row22 e ∷ []) k p → new ≡ old → LineRead size (lines_of e) t old new (refuses k p)
line-none e l q = rw q (left (refusal_front _ l) refl)

-- ---- of an edition

module _ (e : ℕ) where
  -- the plain lines for its limit
  abbrev pub limited : Format (List ℕ) Front
  limited = plain_lines size (digit_table (neighbours_in e))

  module _ (i : IsEdition e) where
    -- a promise by the rows of a limit is one by those of the edition, and back
    in-edition :
        {A S : Type 0} {right : A → S → Type 0} {old new : S} {o : Outcome A} (rows : List Row) → Promise rows right old new o → Promise (row22 e ∷ rows) right old new o
    in-edition rows (kept c h) = kept (clear_both (edition_clear i) c) h
    in-edition rows (left l q) = left (refusal_back (edition_clear i) l) q

    of_limit :
        {A S : Type 0} {right : A → S → Type 0} {old new : S} {o : Outcome A} (rows : List Row) → Promise (row22 e ∷ rows) right old new o → Promise rows right old new o
    of_limit rows (kept c h) = kept (others c) h
    of_limit rows (left l q) = left (refusal_behind (row22 e ∷ []) rows (edition_clear i) l) q

    pub answer_of : {t : List ℕ} {o : Outcome (List ℕ)} → LineAnswers (lines_of e) t o → LineAnswers limited t o
    answer_of {t} a = of_limit (line_rows limited t) a

    -- what is handed out is the same
    handed_in :
        {rows : List Row} {t : List ℕ} {olds news : List (List ℕ)} {o : Outcome ℕ} → Promise rows (Hands limited (digits_lent size) t olds) olds news o
        → Promise rows (Hands (lines_of e) (digits_lent size) t olds) olds news o
    handed_in (kept c h) = kept c (record { result = h.result; right = h.right; count = h.count; lies = h.lies })
    handed_in (left l q) = left l q

    handed_of :
        {rows : List Row} {t : List ℕ} {olds news : List (List ℕ)} {o : Outcome ℕ} → Promise rows (Hands (lines_of e) (digits_lent size) t olds) olds news o
        → Promise rows (Hands limited (digits_lent size) t olds) olds news o
    handed_of (kept c h) = kept c (record { result = h.result; right = h.right; count = h.count; lies = h.lies })
    handed_of (left l q) = left l q

    pub read_in : {t old new : List ℕ} {o : Outcome ℕ} → LineRead size limited t old new o → LineRead size (lines_of e) t old new o
    read_in {t} {old} a = handed_in (in-edition (line_rows limited t ++ (line_row15 limited (digits_lent size) t (old ∷ []) ∷ [])) a)

    pub read_of : {t old new : List ℕ} {o : Outcome ℕ} → LineRead size (lines_of e) t old new o → LineRead size limited t old new o
    read_of {t} {old} a = of_limit (line_rows limited t ++ (line_row15 limited (digits_lent size) t (old ∷ []) ∷ [])) (handed_of a)

    -- ---- a sound format

    -- a centred code of at most `size` digits is one that a line may carry
    pub edition_accept : (c : List ℕ) → length c ≤ size → Clear (judged (digit_table (neighbours_in e)) c) → Accept (lines_of e) c
    edition_accept c l k = let a = table_accept (neighbours_in e) (at_most_nine e) c l k in record { formed = a.formed; clear = a.clear }

-- a line that is read for the limit of an edition
pub line_in :
    (e : ℕ) {r : ℕ} {t old new : List ℕ} {o : Outcome ℕ} → (r ≡ neighbours_in e) × IsEdition e → LineRead size (plain_lines size (digit_table r)) t old new o
    → LineRead size (lines_of e) t old new o
line_in e {t = t} {old} {new} {o} (is, i) a =
    read_in e i (subst (λ (x : ℕ). LineRead size (plain_lines size (digit_table x)) t old new o) is a)
