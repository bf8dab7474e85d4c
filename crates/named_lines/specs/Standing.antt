-- Digits and letters of a named line as they stand: which of rows 1, 2, 3, 5 and 21 refuses the line, from what was found; and what a reader of one
-- line cites. Assumes nothing.
use Rattle.std.specs.Prelude.{◌≡◌, refl, Bool, true, false, Ok, Err, ◌⊎◌, List, [], ◌∷◌, ℕ, suc, ◌+◌, ◌-◌, ◌≤◌, ◌<◌, length, take, drop}
use Rattle.std.proofs.Common.{sym, ap, subst, ◌∙◌, inl, inr, ⊎_elim, arith, take-append-drop, length-drop, length-take-le}
use Rattle.std.proofs.lemmas.List.{take-append-le, drop-append-le}
use Rattle.laws.specs.document.Laid.{laid_over}
use Rattle.laws.specs.Part.{part, part_length}
use Rattle.limits.specs.document.Limits.{size, valence}
use Rattle.refusal.specs.document.Table.{Row, Clear, FirstRefusal, Outside, gives, refuses, left, row3}
use Rattle.refusal.specs.Laws.{clear_one, others, refusal_front, size_clear}
use Rattle.refusal.proofs.Laws.{first-place, refusal_back, refusal_behind}
use Rattle.lettered_check.specs.Rows.{lettered_rows}
use Rattle.texts.specs.document.Text.{PartRow, through, Shaped, row1, line_rows}
use Rattle.texts.specs.document.Lent.{line_row15}
use Rattle.texts.specs.Judging.{judging, judged, none}
use Rattle.texts.specs.Answered.{line_refuses, unformed_2}
use Rattle.texts.specs.Ending.{UpTo, unfed, fed_cut}
use Rattle.texts.specs.document.Parts.{tally}
use Rattle.texts.specs.Taking as Taking
use Rattle.refusal.specs.declared.Refusal.{Refusal}
use Rattle.lines.specs.declared.Span.{Span}
use Rattle.lines.specs.document.Line.{front, row3-line, row5_line}
use Rattle.lines.specs.document.Marks.{WrittenDigits}
use Rattle.lines.specs.Form.{values}
use Rattle.lines.specs.Plain.{same-front}
use Rattle.lines.specs.Taking.{length_values}
use Rattle.named_lines.specs.document.Named.{Named, Parts, NamedFormed, Matches, row21, parts_of, lines_of_named, named_lent, NamedLineRead}
use Rattle.named_lines.specs.document.Named.{named_table}
use Rattle.named_lines.specs.NamedSound.{same-named, named_once, named_accept}
use Rattle.named_lines.specs.NamedForm.{ShapeAt, standing, NamedStands, NamedLocated, stands, refused}

-- a part of the front of a text is that part of the text
part-front : (t : List ℕ) (s e end : ℕ) → s ≤ e → e ≤ end → end ≤ length t → part s e (take end t) ≡ part s e t
part-front t s e end a b c =
    let l = length-take-le end t c in
    sym (ap (part s e) (sym (take-append-drop end t))
    ∙ ap (take (e - s)) (drop-append-le s (take end t) (drop end t) (omega arith))
    ∙ take-append-le (e - s) (drop s (take end t)) (drop end t) (omega (arith, length-drop s (take end t))))

module _ (most : ℕ) (rows : List (PartRow Named)) {t : List ℕ} {end : ℕ} (u : UpTo t end) where
  pub no_feed : end ≡ length t → FirstRefusal (line_rows (lines_of_named most rows) t) 1 0
  no_feed e =
      refusal_front {xs = row1 t ∷ []} (others_of t) (first-place {r = row1 t} (refl, unfed u e) (λ q l a. absurd (omega arith)))
    where
      others_of : List ℕ → List Row
      others_of t = drop 1 (line_rows (lines_of_named most rows) t)

  module _ (n : end ≡ length t → ⊥) where
    pub no_form : ((q : Parts) → NamedFormed (take end t) q → ⊥) → FirstRefusal (line_rows (lines_of_named most rows) t) 2 0
    no_form h = unformed_2 NamedFormed (fed_cut u n) h (drop 2 (line_rows (lines_of_named most rows) t))

    module _ {m s e f : ℕ} {k : Bool} (a : ShapeAt (take end t) m s e f k) where
      -- what the form shows
      abbrev shown : Parts
      shown = record { front = front m (values (part s e (take end t))); letters = part (e + 1) (e + 1 + f) (take end t); carbons = a.x; nitrogens = a.y; oxygens = a.z }

      shaped : Shaped NamedFormed t shown
      shaped = record { text = take end t; rest = drop (suc end) t; feed = fed_cut u n; formed = a.formed }

      long : length (take end t) ≡ end
      long = length-take-le end t u.within

      many : length (values (part s e (take end t))) ≡ e - s
      many = length_values (part s e (take end t)) ∙ part_length s e (take end t) (omega (arith, a.within))

      lettered_as : length (part (e + 1) (e + 1 + f) (take end t)) ≡ f
      lettered_as = let l = part_length (e + 1) (e + 1 + f) (take end t) (omega (arith, a.within)) in omega arith

      -- the rows of the parts, in order
      abbrev threes : List Row
      threes = judged (through (λ q. q.front) (row3-line most) ∷ []) shown

      abbrev fives : List Row
      fives = judged (through (λ q. q.front) row5_line ∷ []) shown

      pub not_sized : Outside most m → FirstRefusal (line_rows (lines_of_named most rows) t) 3 0
      not_sized o =
          line_refuses (lines_of_named most rows) named_once none shaped
          (refusal_front {xs = threes} (judged (drop 1 (lines_of_named most rows).rows) shown)
          (first-place {r = judging shown (through (λ q. q.front) (row3-line most))} (refl, o) (λ q l b. absurd (omega arith))))

      module _ (i : m ≡ 0 → ⊥) (j : m ≤ most) where
        sized : Clear threes
        sized = clear_one (λ p b. ⊎_elim (λ z. i z) (λ z. let y : ⊥ = omega (arith, z) in y) b.1)

        pub not_as_many : (e - s ≡ m → ⊥) → FirstRefusal (line_rows (lines_of_named most rows) t) 5 0
        not_as_many d =
            line_refuses (lines_of_named most rows) named_once none shaped
            (refusal_back {xs = threes} sized
            (refusal_front {xs = fives} (judged (drop 2 (lines_of_named most rows).rows) shown)
            (first-place {r = judging shown (through (λ q. q.front) row5_line)} (refl, λ q. d (sym many ∙ q)) (λ q l b. absurd (omega arith)))))

        module _ (d : e - s ≡ m) where
          refused_21 : (Matches shown → ⊥) → FirstRefusal (line_rows (lines_of_named most rows) t) 21 0
          refused_21 h =
              line_refuses (lines_of_named most rows) named_once none shaped
              (refusal_back {xs = threes} sized
              (refusal_back {xs = fives} (clear_one (λ p b. b.1 (many ∙ d)))
              (refusal_front {xs = judged (row21 ∷ []) shown} (judged (drop 3 (lines_of_named most rows).rows) shown)
              (first-place {r = judging shown row21} (refl, h) (λ q l b. absurd (omega arith))))))

          pub other-letters : (f ≡ m → ⊥) → FirstRefusal (line_rows (lines_of_named most rows) t) 21 0
          other-letters h = refused_21 (λ q. h (sym lettered_as ∙ q.number))

          pub other-counts : f ≡ m → most ≤ size → k ≡ false → FirstRefusal (line_rows (lines_of_named most rows) t) 21 0
          other-counts g b h =
              refused_21 (λ q. a.compared.differs h (omega (arith, lettered_as)) (record { c = q.c; n = q.n; o = q.o }))

          pub it_stands : f ≡ m → k ≡ true → NamedStands most t s e
          it_stands g h =
              let w = a.within in
              let o = a.ordered in
              let v = u.within in
              let y = a.compared.fits h in
              let q : f ≡ e - s = omega arith in
              let p : part s e (take end t) ≡ part s e t = part-front t s e end o (omega (arith, long)) v in
              let r : part (e + 1) (e + 1 + f) (take end t) ≡ part (e + 1) (e + 1 + (e - s)) t =
              part-front t (e + 1) (e + 1 + f) end (omega arith) (omega (arith, long)) v ∙ ap (λ (i : ℕ). part (e + 1) (e + 1 + i) t) q in
              record {
                ordered = o;
                within = omega (arith, long);
                figures = subst (λ (l : List ℕ). WrittenDigits l) p a.figures;
                shape =
                    subst (Shaped NamedFormed t)
                    (same-named {p = shown} {q = parts_of (standing t s e)} (same-front (sym d ∙ sym many ∙ ap (λ (l : List ℕ). length (values l)) p) (ap values p)) r
                    (sym y.c ∙ ap (tally 67) r) (sym y.n ∙ ap (tally 78) r) (sym y.o ∙ ap (tally 79) r)) shaped;
                some = omega arith;
                few = omega arith;
              }

-- ---- as a caller learns it

pub located : {most : ℕ} {rows : List (PartRow Named)} {t : List ℕ} {d : Span} → NamedLocated most rows t (Ok d) → NamedStands most t d.start d.end
located (stands h) = h

pub unlocated : {most : ℕ} {rows : List (PartRow Named)} {t : List ℕ} {r : Refusal} → NamedLocated most rows t (Err r) → FirstRefusal (line_rows (lines_of_named most rows) t) r.row r.place
unlocated (refused l) = l

-- ---- reading a line

-- a refusal before digits and letters are judged
pub read-front :
    {t old lets : List ℕ} {k p : ℕ} → FirstRefusal (line_rows (lines_of_named size named_table) t) k p → NamedLineRead size named_table t old lets old lets (refuses k p)
read-front {t} {old} {lets} l =
    left (refusal_front {xs = line_rows (lines_of_named size named_table) t} (line_row15 (lines_of_named size named_table) (named_lent size) t (old ∷ lets ∷ []) ∷ []) l) refl

module _ {t : List ℕ} {s e : ℕ} (h : NamedStands size t s e) where
  abbrev ds : List ℕ
  ds = (standing t s e).digits

  abbrev ls : List ℕ
  ls = (standing t s e).letters

  pub digits_length : length (part s e t) ≡ e - s
  digits_length = part_length s e t (omega (arith, h.within))

  pub letters_length : length (part (e + 1) (e + 1 + (e - s)) t) ≡ e - s
  letters_length = let l = part_length (e + 1) (e + 1 + (e - s)) t h.within in omega arith

  as_many : length ds ≡ e - s
  as_many = length_values (part s e t) ∙ digits_length

  -- what a check of digits and letters looks at
  abbrev pub checked : List Row
  checked = row3 size (length ds) ∷ lettered_rows valence ds ls

  accepted : (rows : List (PartRow Named)) → Clear (judged rows (standing t s e)) → Clear (judged (lines_of_named size rows).rows (parts_of (standing t s e)))
  accepted rows k =
      let f = h.shape.formed in
      (named_accept size rows (standing t s e) f.some f.digits f.lettered (letters_length ∙ sym as_many) (omega (arith, as_many, h.few))
      (omega (arith, as_many, h.few)) k).clear

  read-rows : {k p : ℕ} → FirstRefusal checked k p → FirstRefusal (line_rows (lines_of_named size named_table) t) k p
  read-rows l =
      line_refuses (lines_of_named size named_table) named_once none h.shape
      (refusal_back {xs = judged (lines_of_named size []).rows (parts_of (standing t s e))} (accepted [] none)
      (refusal_behind (row3 size (length ds) ∷ []) (lettered_rows valence ds ls) (size_clear (omega (arith, as_many, h.some)) (omega (arith, as_many, h.few))) l))

  module _ (old lets : List ℕ) where
    -- a refusal of digits and letters
    pub read_letters : {k p : ℕ} → FirstRefusal checked k p → NamedLineRead size named_table t old lets old lets (refuses k p)
    read_letters l = read-front (read-rows l)

    -- an area is too short
    pub read_short : Clear checked → (length old < e - s) ⊎ (length lets < e - s) → NamedLineRead size named_table t old lets old lets (refuses 15 (e - s))
    read_short c l =
        subst (λ (n : ℕ). NamedLineRead size named_table t old lets old lets (refuses 15 n)) as_many
        (Taking.read_short (lines_of_named size named_table) (named_lent size) named_once none h.shape (accepted named_table (others c)) (old ∷ lets ∷ [])
        (⊎_elim (λ a. inl (rw as_many a)) (λ a. inr (inl (rw as_many a))) l))

    -- digits and letters
    pub read-line :
        {old' lets' : List ℕ} → Clear checked → e - s ≤ length old → e - s ≤ length lets → old' ≡ laid_over ds old → lets' ≡ laid_over ls lets
        → NamedLineRead size named_table t old lets old' lets' (gives (e - s))
    read-line {old'} {lets'} c l m q r =
        subst (λ (n : ℕ). NamedLineRead size named_table t old lets old' lets' (gives n)) as_many
        (Taking.read_record (lines_of_named size named_table) (named_lent size) named_once none h.shape (accepted named_table (others c)) (old ∷ lets ∷ [])
        (rw as_many l, (rw as_many m, tt)) (q, (r, tt)))
