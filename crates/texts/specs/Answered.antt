-- What a line is answered. In order: a line has its form in one way; its table against that of its parts; nothing behind the line feed is looked
-- at; `look`: a line is answered with a record exactly where it is that record's line. Assumes nothing.
use Rattle.std.specs.Prelude.{◌≡◌, refl, List, [], ◌∷◌, ◌++◌, map, ℕ}
use Rattle.std.proofs.Common.{sym, ap, subst, ◌∙◌, inl, inr, arith}
use Rattle.refusal.specs.document.Table.{Row, Applies, Clear, FirstRefusal, Outcome, gives, refuses, kept, left}
use Rattle.refusal.specs.Laws.{not_both, clear_one, clear_both, clear_right, refusal_front, others, RowByRow, Alike, alike_clear}
use Rattle.refusal.proofs.Laws.{one_result, first-place, refusal_back, alike_refusal}
use Rattle.texts.specs.document.Bytes.{Free, Cut}
use Rattle.texts.specs.document.Text.{PartRow, Format, Shaped, Where, row1, row2, of_line, line_rows, LineCarries, LineAnswers}
use Rattle.texts.specs.Judging.{judged}
use Rattle.texts.specs.Damage.{Accept}
use Rattle.texts.specs.Sound.{Once, Reads}
use Rattle.texts.specs.Cuts.{not_free, cut_once}

module _ {F : Type 0} (Formed : List ℕ → F → Type 0) where
  -- a shape is that of the text before the line feed
  pub shape_moves : {t u b rest more : List ℕ} {q : F} → Cut 10 t b rest → Cut 10 u b more → Shaped Formed t q → Shaped Formed u q
  shape_moves {t} {u} {b} {rest} {more} {q} c d s =
      let h = cut_once 10 t s.text s.rest b rest s.feed c in
      record { text = b; rest = more; feed = d; formed = subst (λ (x : List ℕ). Formed x q) h.0 s.formed }

  pub shaped_fed : {t : List ℕ} {q : F} → Shaped Formed t q → Free 10 t → ⊥
  shaped_fed s f = not_free 10 s.text s.rest (rw s.feed.parts at f)

  -- a line that has not the form is refused 2, whatever rows stand behind row 2
  pub unformed_2 : {t b rest : List ℕ} → Cut 10 t b rest → ((q : F) → Formed b q → ⊥) → (rows : List Row) → FirstRefusal (row1 t ∷ row2 Formed t ∷ rows) 2 0
  unformed_2 {t} {b} {rest} c h rows =
      refusal_back {xs = row1 t ∷ []} (clear_one {r = row1 t} (λ p f. not_free 10 b rest (rw c.parts at f.1)))
      (refusal_front {xs = row2 Formed t ∷ []} rows
      (first-place {r = row2 Formed t} (refl, λ q s. h q (subst (λ (x : List ℕ). Formed x q) (cut_once 10 t s.text s.rest b rest s.feed c).0 s.formed)) (λ q l a. absurd (omega arith))))

  module _ (once : Once Formed) where
    pub shaped_once : {t : List ℕ} {p q : F} → Shaped Formed t p → Shaped Formed t q → p ≡ q
    shaped_once {t} {p} {q} s r =
        let h = cut_once 10 t s.text s.rest r.text r.rest s.feed r.feed in
        once r.text p q (subst (λ (x : List ℕ). Formed x p) h.0 s.formed) r.formed

    -- what is said of a line's parts is said of these
    pub where_is : {t : List ℕ} {q : F} (P : F → Type 0) → Shaped Formed t q → Where Formed t P → P q
    where_is P s w = subst P (shaped_once w.shape s) w.holds

    -- ---- rows of a line and of its parts

    module _ {t : List ℕ} {q : F} (s : Shaped Formed t q) where
      row_by_row : (rows : List (PartRow F)) → RowByRow (λ k. k) (judged rows q) (map (of_line Formed t) rows)
      row_by_row [] = tt
      row_by_row (r ∷ rows) =
          (refl, (λ p. ((λ h. record { parts = q; shape = s; holds = h }), where_is (λ x. r.applies x p) s)), row_by_row rows)

      -- the parts of a line are refused as those parts are
      pub parts-alike : (rows : List (PartRow F)) → Alike (judged rows q) (map (of_line Formed t) rows)
      parts-alike rows = record { rows = row_by_row rows }

-- ---- nothing behind the line feed is looked at

module _ {F : Type 0} (Formed : List ℕ → F → Type 0) {t u b rest more : List ℕ} (c : Cut 10 t b rest) (d : Cut 10 u b more) where
  where_moves : {P : F → Type 0} → Where Formed t P → Where Formed u P
  where_moves w = record { parts = w.parts; shape = shape_moves Formed c d w.shape; holds = w.holds }

module _ {A F : Type 0} (format : Format A F) where
  module _ {t u b rest more : List ℕ} (c : Cut 10 t b rest) (d : Cut 10 u b more) where
    part-rows : (rows : List (PartRow F)) → RowByRow (λ k. k) (map (of_line format.Formed t) rows) (map (of_line format.Formed u) rows)
    part-rows [] = tt
    part-rows (r ∷ rows) =
        (refl, (λ p. (where_moves format.Formed c d {P = λ q. r.applies q p}, where_moves format.Formed d c {P = λ q. r.applies q p})), part-rows rows)

    -- the same rows before both
    rows_behind : (zs xs ys : List Row) → RowByRow (λ k. k) xs ys → RowByRow (λ k. k) (zs ++ xs) (zs ++ ys)
    rows_behind [] xs ys h = h
    rows_behind (z ∷ zs) xs ys h = (refl, (λ p. ((λ a. a), (λ a. a))), rows_behind zs xs ys h)

    lines-alike : Alike (line_rows format t) (line_rows format u)
    lines-alike =
        record {
          rows = rows_behind format.first (row1 t ∷ row2 format.Formed t ∷ map (of_line format.Formed t) format.rows) (row1 u ∷ row2 format.Formed u ∷ map (of_line format.Formed u) format.rows) (
            refl,
            (λ p. ((λ e. absurd (not_free 10 b rest (rw c.parts at e.1))), (λ e. absurd (not_free 10 b more (rw d.parts at e.1))))),
            (
              refl,
              (λ p. ((λ e. (e.0, λ q s. e.1 q (shape_moves format.Formed d c s))), (λ e. (e.0, λ q s. e.1 q (shape_moves format.Formed c d s))))),
              part-rows format.rows,
            ),
          );
        }

  pub answer_moves :
      {t u b rest more : List ℕ} {o : Outcome A} → Cut 10 t b rest → Cut 10 u b more → LineAnswers format t o → LineAnswers format u o
  answer_moves c d (kept {a} h r) = kept ((alike_clear (lines-alike c d)).0 h) (where_moves format.Formed c d {P = λ q. format.carries q ≡ a} r)
  answer_moves c d (left l e) = left (alike_refusal (lines-alike c d) l) e

-- ---- what a line is answered

-- a line without its line feed, and its answer: it is the line of the record that is given, or of no accepted record
pub data Look {A F : Type 0} (format : Format A F) (b : List ℕ) : Outcome A → Type 0 where
  good : {c : A} → b ≡ format.body c → Accept format c → Look format b (gives c)
  bad : {k p : ℕ} → ((c : A) → b ≡ format.body c → Accept format c → ⊥) → Look format b (refuses k p)

module _ {A F : Type 0} (format : Format A F) (once : Once format.Formed) where
  -- rows 1 and 2 do not apply to a line of the form
  form_clear : {t : List ℕ} {q : F} → Shaped format.Formed t q → Clear (row1 t ∷ row2 format.Formed t ∷ [])
  form_clear {t} {q} s = record { nowhere = no_row }
    where
      no_row : (k p : ℕ) → Applies (row1 t ∷ row2 format.Formed t ∷ []) k p → ⊥
      no_row k p (inl e) = shaped_fed format.Formed s e.1.1
      no_row k p (inr (inl e)) = e.1.1 q s
      no_row k p (inr (inr x'')) = elim x'' [ ]

  -- a line of the form whose parts are accepted, where nothing is refused of every line
  pub line_clear : {t : List ℕ} {q : F} → Clear format.first → Shaped format.Formed t q → Clear (judged format.rows q) → Clear (line_rows format t)
  line_clear o s c = clear_both o (clear_both (form_clear s) ((alike_clear (parts-alike format.Formed once s format.rows)).0 c))

  -- a line of the form is refused as its parts are
  pub line_refuses : {t : List ℕ} {q : F} {k p : ℕ} → Clear format.first → Shaped format.Formed t q → FirstRefusal (judged format.rows q) k p → FirstRefusal (line_rows format t) k p
  line_refuses o s l = refusal_back o (refusal_back (form_clear s) (alike_refusal (parts-alike format.Formed once s format.rows) l))

  pub clear_line : {t : List ℕ} {q : F} → Clear (line_rows format t) → Shaped format.Formed t q → Clear (judged format.rows q)
  clear_line c s = (alike_clear (parts-alike format.Formed once s format.rows)).1 (others (others (clear_right format.first _ c)))

  -- a line carries one record
  pub carried_once : {t : List ℕ} {a b : A} → LineCarries format t a → LineCarries format t b → a ≡ b
  carried_once v w = sym v.holds ∙ ap format.carries (shaped_once format.Formed once v.shape w.shape) ∙ w.holds

  pub answered_once : {t : List ℕ} {o p : Outcome A} → LineAnswers format t o → LineAnswers format t p → o ≡ p
  answered_once h k = (one_result (λ a b v w. (carried_once v w, refl)) h k).0

module _ {A F : Type 0} (format : Format A F) (reads : Reads format) where
  -- the line of an accepted record can be answered with it
  pub gives_record : {c : A} {t rest : List ℕ} → Accept format c → Cut 10 t (format.body c) rest → LineAnswers format t (gives c)
  gives_record {c} {t} {rest} a u =
      let s : Shaped format.Formed t (format.parts c) = record { text = format.body c; rest = rest; feed = u; formed = a.formed } in
      kept (line_clear format reads.once reads.first_clear s a.clear) (record { parts = format.parts c; shape = s; holds = reads.back c })

  -- what has the form, of parts that no row refuses, is the line of the record that they carry
  accepts : {b : List ℕ} {q : F} → format.Formed b q → Clear (judged format.rows q) → (b ≡ format.body (format.carries q)) × Accept format (format.carries q)
  accepts {b} {q} f k =
      let r = reads.read b q f k in (
        r.0,
        record {
          formed = subst (λ (x : List ℕ). format.Formed x (format.parts (format.carries q))) r.0 (subst (λ (x : F). format.Formed b x) r.1 f);
          clear = subst (λ (x : F). Clear (judged format.rows x)) r.1 k;
        },
      )

  pub look : {t b rest : List ℕ} {o : Outcome A} → Cut 10 t b rest → LineAnswers format t o → Look format b o
  look {t} {b} {rest} c (kept h r) =
      let s = r.shape in
      let a = accepts s.formed (clear_line format reads.once h s) in
      let e = cut_once 10 t s.text s.rest b rest s.feed c in
      subst (λ (x : A). Look format b (gives x)) r.holds (good (sym e.0 ∙ a.0) a.1)
  look {t} {b} {rest} c (left l e) = bad (λ d q a. not_both (refused d q a) l)
    where
      refused : (d : A) → b ≡ format.body d → Accept format d → Clear (line_rows format t)
      refused d q a =
          let f = subst (λ (x : List ℕ). format.Formed x (format.parts d)) (sym q) a.formed in
          line_clear format reads.once reads.first_clear (record { text = b; rest = rest; feed = c; formed = f }) a.clear

  -- equal lines carry equal records
  pub same_record : {c d : A} → Accept format c → Accept format d → format.body c ≡ format.body d → c ≡ d
  same_record {c} {d} a h e =
      let f = subst (λ (x : List ℕ). format.Formed x (format.parts c)) e a.formed in
      sym (reads.back c) ∙ ap format.carries (reads.once (format.body d) (format.parts c) (format.parts d) f h.formed) ∙ reads.back d

  -- the line of an accepted record is answered with it
  pub sure : {c : A} {o : Outcome A} → Accept format c → Look format (format.body c) o → o ≡ gives c
  sure {c} a (good {c = d} e h) = ap gives (sym (same_record a h e))
  sure {c} a (bad n) = absurd (n c refl a)
