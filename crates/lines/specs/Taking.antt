-- What a reader of one line cites, by where the line's digits stand: each return of it is one of these laws. Assumes nothing.
use Rattle.std.specs.Prelude.{◌≡◌, refl, List, [], ◌∷◌, ◌++◌, map, ℕ, ◌-◌, ◌≤◌, ◌<◌, length}
use Rattle.std.proofs.Common.{sym, subst, ◌∙◌, inl, ⊎_elim, arith}
use Rattle.std.proofs.lemmas.List.{length-map}
use Rattle.laws.specs.document.Laid.{laid_over}
use Rattle.laws.specs.Part.{part, part_length}
use Rattle.refusal.specs.document.Table.{Row, Clear, FirstRefusal, gives, refuses, left, row3}
use Rattle.refusal.specs.Laws.{clear_one, others, refusal_front}
use Rattle.refusal.proofs.Laws.{refusal_back, refusal_behind, alike_refusal}
use Rattle.texts.specs.document.Text.{through, of_line}
use Rattle.texts.specs.document.Lent.{line_row15}
use Rattle.texts.specs.Judging.{judged, judged-through, none}
use Rattle.texts.specs.Answered.{parts-alike, line_clear}
use Rattle.texts.specs.Taking as Taking
use Rattle.lines.specs.document.Line.{Front, front, Formed, DigitRow, plain_lines}
use Rattle.lines.specs.document.Reading.{digits_lent, LineRead}
use Rattle.lines.specs.Form.{values, Stands, front_rows}
use Rattle.lines.specs.Plain.{plain_once, clear_parts}

pub length_values : (t : List ℕ) → length (values t) ≡ length t
unfolding values
length_values t = length-map t (λ b. b - 48)

pub stands_length : {most : ℕ} {t : List ℕ} {s e : ℕ} → Stands most t s e → length (part s e t) ≡ e - s
stands_length {t = t} {s} {e} h = part_length s e t h.within

module _ (most : ℕ) (rows : List DigitRow) where
  -- a refusal before the digits are judged
  pub read-front :
      {t old : List ℕ} {k p : ℕ} → FirstRefusal (front_rows most t) k p → LineRead most (plain_lines most rows) t old old (refuses k p)
  read-front {t} {old} l =
      left (refusal_front {xs = front_rows most t} (map (of_line Formed t) (map (through (λ q. q.digits)) rows) ++ (line_row15 (plain_lines most rows) (digits_lent most) t (old ∷ []) ∷ [])) l) refl

  module _ {t : List ℕ} {s e : ℕ} (h : Stands most t s e) where
    as_many : length (values (part s e t)) ≡ e - s
    as_many = length_values (part s e t) ∙ stands_length h

    -- what the line's form shows
    abbrev shown : Front
    shown = front (e - s) (values (part s e t))

    -- row 3 of digits lent by themselves does not apply to a line's
    inside : (p : ℕ) → (row3 most (length (values (part s e t)))).applies p → ⊥
    inside p a = ⊎_elim (λ z. low z) (λ l. high l) a.1
      where
        low : length (values (part s e t)) ≡ 0 → ⊥
        low z = omega (arith, as_many, h.some)

        high : most < length (values (part s e t)) → ⊥
        high l = omega (arith, as_many, h.few)

    front_clear : Clear (front_rows most t)
    front_clear =
        line_clear (plain_lines most []) plain_once none h.shape (clear_parts most [] shown as_many h.some h.few none)

    -- the answer of a check of the digits, which looks at row 3 of digits lent by themselves too
    abbrev pub checked : List Row
    checked = row3 most (length (values (part s e t))) ∷ judged rows (values (part s e t))

    digits-refused : {k p : ℕ} → FirstRefusal checked k p → FirstRefusal (map (of_line Formed t) (map (through (λ q. q.digits)) rows)) k p
    digits-refused {k} {p} l =
        let m = refusal_behind (row3 most (length (values (part s e t))) ∷ []) (judged rows (values (part s e t))) (clear_one inside) l in
        alike_refusal (parts-alike Formed plain_once h.shape (map (through (λ q. q.digits)) rows))
        (subst (λ (rs : List Row). FirstRefusal rs k p) (sym (judged-through (λ q. q.digits) rows shown)) m)

    clear_digits : Clear checked → Clear (judged (plain_lines most rows).rows shown)
    clear_digits c = clear_parts most rows shown as_many h.some h.few (others c)

    module _ (old : List ℕ) where
      -- a refusal of the digits
      pub read-digits :
          {k p : ℕ} → FirstRefusal checked k p → LineRead most (plain_lines most rows) t old old (refuses k p)
      read-digits l =
          left (refusal_back front_clear (refusal_front (line_row15 (plain_lines most rows) (digits_lent most) t (old ∷ []) ∷ []) (digits-refused l))) refl

      -- what is lent is too short
      pub read_short : Clear checked → length old < e - s → LineRead most (plain_lines most rows) t old old (refuses 15 (e - s))
      read_short c l =
          subst (λ (n : ℕ). LineRead most (plain_lines most rows) t old old (refuses 15 n)) as_many
          (Taking.read_short (plain_lines most rows) (digits_lent most) plain_once none h.shape (clear_digits c) (old ∷ []) (inl (rw as_many l)))

      -- the digits
      pub read-line :
          {new : List ℕ} → Clear checked → e - s ≤ length old → new ≡ laid_over (values (part s e t)) old → LineRead most (plain_lines most rows) t old new (gives (e - s))
      read-line {new} c l q =
          subst (λ (n : ℕ). LineRead most (plain_lines most rows) t old new (gives n)) as_many
          (Taking.read_record (plain_lines most rows) (digits_lent most) plain_once none h.shape (clear_digits c) (old ∷ []) (rw as_many l, tt) (q, tt))
