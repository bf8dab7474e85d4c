-- Demand 2, said of the public calls on lines: a line that is read, decoded and written is that line; a skeleton that is written and read is
-- given by its centred code, which decodes to it under other numbers (`centred-back`). Assumes nothing.
use Rattle.std.specs.Prelude.{◌≡◌, refl, ℕ, ◌≤◌, length, take}
use Rattle.std.proofs.Math.Path.{sym, ap}
use Rattle.std.proofs.Common.{subst, ◌∙◌}
use mathlib.Core.List.{List, [], ◌∷◌, ◌++◌, append_assoc}
use Rattle.laws.specs.Laying.{laid-front}
use Rattle.refusal.specs.document.Table.{Outcome, gives, kept}
use Rattle.refusal.specs.Laws.{clear_left, others}
use Rattle.refusal.specs.Giving.{gave}
use Rattle.refusal.proofs.Giving.{must_give}
use Rattle.refusal.specs.document.Given.{Given}
use Rattle.limits.specs.document.Limits.{size}
use Rattle.form.specs.document.Form.{IsCentred}
use Rattle.form.specs.Forms.{centred-form}
use Rattle.form.specs.Accepted.{right_decoded, form_passes}
use Rattle.texts.specs.document.Bytes.{Cut}
use Rattle.texts.specs.document.Text.{line_rows, LineAnswers}
use Rattle.texts.specs.document.Lent.{block, counted}
use Rattle.texts.specs.Damage.{Accept}
use Rattle.texts.specs.Answered.{Look, good, gives_record, answered_once, look}
use Rattle.texts.specs.Taking.{line_read}
use Rattle.lines.specs.document.Line.{body, line}
use Rattle.lines.specs.document.Judged.{digit_table}
use Rattle.lines.specs.document.Reading.{lines_of, digits_lent}
use Rattle.lines.specs.Plain.{plain_once, plain_few}
use Rattle.zurkhovel.specs.document.Codes.{DecodeForm}
use Rattle.zurkhovel.specs.document.Lines.{ReadLine, WriteLine}
use Rattle.zurkhovel.specs.Accepted.{skeleton_of, plain_rows, centred_accepted}
use Rattle.zurkhovel.specs.document.Round.{Begins}
use Rattle.zurkhovel.specs.document.InEdition.{edge_table}
use Rattle.edition.specs.document.Edition.{IsEdition, neighbours_in}
use Rattle.edition.specs.Laws.{clear_edition}
use Rattle.lines.proofs.OfEdition.{edition_sound}

module _ (e : ℕ) where
  -- ---- written and read

  -- where 64 bytes are lent, the line of an accepted code gives the code
  line-given : (c old new : List ℕ) (o : Outcome ℕ) → IsEdition e → Accept (lines_of e) c → size ≤ length old → ReadLine e (line c) old new o → Given c old new o
  unfolding line block counted
  line-given c old new o i a h g =
      let u : Cut 10 (line c) (body c) [] = record { parts = refl; free = (edition_sound e i).free c a } in
      let r = line_read (lines_of e) (digits_lent size) plain_once (plain_few size (digit_table (neighbours_in e))) (old ∷ []) (h, tt) (refl, tt) g in
      let q : r.answer ≡ gives c = answered_once (lines_of e) plain_once r.line (gives_record (lines_of e) (edition_sound e i).reads a u) in
      (r.told ∙ ap (counted length) q, r.lies.0 ∙ ap (λ p. block (λ d. d) p old) q)

  -- a skeleton's line gives its centred code
  pub line-back :
      (N : ℕ) (E old new : List ℕ) (n : ℕ) (old' new' : List ℕ) (o : Outcome ℕ) → WriteLine (edge_table e) N E old new (gives n) → size ≤ length old'
      → ReadLine e (take n new) old' new' o → (c : List ℕ) × IsCentred N E c × Given c old' new' o
  line-back N E old new n old' new' o w h g =
      let (k, (c, x, q), _) = gave w in
      let i = clear_edition k in
      let a : Accept (lines_of e) c = centred_accepted i (skeleton_of k) x in
      (c, x, line-given c old' new' o i a h (subst (λ t. ReadLine e t old' new' o) q g))

  -- ---- read and written

  looked : (t b rest c : List ℕ) → t ≡ b ++ (10 ∷ rest) → Look (lines_of e) b (gives c) → Begins c t
  unfolding line
  looked t b rest c p (good z a) = (rest, p ∙ ap (λ (d : List ℕ). d ++ (10 ∷ rest)) z ∙ sym (append_assoc (body c) (10 ∷ []) rest))

  -- so does a text that gives c
  line_gave : (t old new : List ℕ) (n : ℕ) → ReadLine e t old new (gives n) → Begins (take n new) t
  line_gave t old new n (kept k w) =
      let s = w.right.shape in
      let a : LineAnswers (lines_of e) t (gives w.result) = kept (clear_left (line_rows (lines_of e) t) _ k) w.right in
      subst (λ c. Begins c t) (sym (laid-front w.result old new n w.lies.0 (sym w.count)))
      (looked t s.text s.rest w.result s.feed.parts (look (lines_of e) (edition_sound e (clear_edition k)).reads s.feed a))

  -- a line that is read, decoded and written is itself
  pub line_again :
      (t old new : List ℕ) (n : ℕ) (old' new' : List ℕ) (m : ℕ) (old'' new'' : List ℕ) (o : Outcome ℕ) → ReadLine e t old new (gives n)
      → DecodeForm e IsCentred (take n new) old' new' (gives m) → length (line (take n new)) ≤ length old'' → WriteLine (edge_table e) (length (take n new)) (take m new') old'' new'' o
      → Given (line (take n new)) old'' new'' o × Begins (take n new) t
  line_again t old new n old' new' m old'' new'' o r d h g =
      let c = take n new in
      let (k, q, _) = gave d in
      let (x, y) = (form_passes IsCentred centred-form size (neighbours_in e) c).0 (others k) in
      let s = right_decoded size (neighbours_in e) c x in (
        must_give (plain_rows (clear_edition k) s) (line c) (c, y, refl) (λ l (b, z, w). w ∙ ap line (centred-form.one s.tree z y)) h
            (subst (λ F. WriteLine (edge_table e) (length c) F old'' new'' o) q g),
        line_gave t old new n r,
      )
