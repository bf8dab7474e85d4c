-- Demand 2, said of the public calls on named lines: a line that is read, decoded and written is that line; a skeleton that is written and read is given by its centred code with letters, which decodes to it under other
-- numbers, with its atoms (`named-centred-back`). Assumes nothing.
use Rattle.std.specs.Prelude.{◌≡◌, refl, List, [], ◌∷◌, ◌++◌, ℕ, ◌≤◌, length, take}
use Rattle.std.proofs.Common.{sym, ap, ap₂, subst, ◌∙◌, append_assoc, arith}
use Rattle.laws.specs.Laying.{laid-front}
use Rattle.refusal.specs.document.Table.{Outcome, gives, kept}
use Rattle.refusal.specs.document.Both.{TwoOutputs}
use Rattle.refusal.specs.document.Given.{Given}
use Rattle.refusal.specs.Laws.{clear_left}
use Rattle.refusal.specs.Giving.{gave}
use Rattle.refusal.proofs.Giving.{must_give}
use Rattle.limits.specs.document.Limits.{size}
use Rattle.skeleton.specs.document.Label.{digits}
use Rattle.skeleton.specs.document.Atom.{atom_at}
use Rattle.skeleton.specs.document.AtomMarks.{atoms}
use Rattle.letters.specs.document.Letters.{letters_of}
use Rattle.form.specs.document.Labelled.{IsCentredₗ}
use Rattle.form.specs.Labelled.{centred_formₗ}
use Rattle.lettered_check.specs.document.Lettered.{marks_of}
use Rattle.digit_code.specs.document.Code.{decode}
use Rattle.texts.specs.document.Bytes.{Cut}
use Rattle.texts.specs.document.Text.{line_rows, LineAnswers}
use Rattle.texts.specs.document.Lent.{block, counted}
use Rattle.texts.specs.Damage.{Accept}
use Rattle.texts.specs.Answered.{Look, good, gives_record, clear_line, answered_once, look}
use Rattle.texts.specs.Taking.{line_read}
use Rattle.named_lines.specs.document.Named.{Named, Parts, named_body, named_line, named_table, lines_of_named, named_lent}
use Rattle.named_lines.specs.NamedSound.{named_once, named-room, parts-left}
use Rattle.named_lines.specs.NamedTable.{table_sound}
use Rattle.named.specs.document.Codes.{NamedDecodeForm}
use Rattle.named.specs.document.Text.{NamedReadLine, NamedWriteLine}
use Rattle.named.specs.document.Round.{GivenBoth, NamedBegins}
use Rattle.named.specs.Two.{only_code}
use Rattle.named.specs.Decoded.{told-digits, told-letters, its_rows}
use Rattle.named.specs.Round.{form-decoded}
use Rattle.named.specs.Centred.{record_of, centred_accept}

-- where 64 bytes are lent for each, the line of an accepted code gives its digits and its letters
line-given :
    (c : Named) (old lets new lets' : List ℕ) (o : Outcome ℕ) → Accept (lines_of_named size named_table) c → size ≤ length old → size ≤ length lets
    → NamedReadLine (named_line c.digits c.letters) old lets new lets' o → GivenBoth c.digits c.letters (old, lets) (new, lets') o
unfolding block counted
line-given c old lets new lets' o a h i g =
    let u : Cut 10 (named_line c.digits c.letters) (named_body c) [] = record { parts = refl; free = table_sound.free c a } in
    let r = line_read (lines_of_named size named_table) (named_lent size) named_once (named-room size named_table).0 (old ∷ lets ∷ []) (h, (i, tt)) (refl, (refl, tt)) g in
    let q : r.answer ≡ gives c = answered_once (lines_of_named size named_table) named_once r.line (gives_record (lines_of_named size named_table) table_sound.reads a u) in (
      r.told ∙ ap (counted (λ (d : Named). length d.digits)) q,
      ap₂ (λ (x y : List ℕ). (x, y)) (r.lies.0 ∙ ap (λ p. block (λ (d : Named). d.digits) p old) q) (r.lies.1.0 ∙ ap (λ p. block (λ (d : Named). d.letters) p lets) q),
    )

-- a skeleton's named line gives its centred code with its letters
pub named-line-back :
    (N : ℕ) (E s old new : List ℕ) (n : ℕ) (old' lets new' lets' : List ℕ) (o : Outcome ℕ) → NamedWriteLine N E s old new (gives n) → size ≤ length old' → size ≤ length lets
    → NamedReadLine (take n new) old' lets new' lets' o → (c : List ℕ) × IsCentredₗ atoms N E (atom_at s) c × GivenBoth (digits atoms c) (letters_of c) (old', lets) (new', lets') o
named-line-back N E s old new n old' lets new' lets' o w h i g =
    let (k, (c, x, q), m) = gave w in
    (c, x, line-given (record_of c) old' lets new' lets' o (centred_accept N E s k c x) h i (subst (λ t. NamedReadLine t old' lets new' lets' o) q g))

-- ---- read and written

looked : (t b rest : List ℕ) (c : Named) → t ≡ b ++ (10 ∷ rest) → Look (lines_of_named size named_table) b (gives c) → NamedBegins c.digits c.letters t
looked t b rest c p (good z a) = (rest, p ∙ ap (λ (d : List ℕ). d ++ (10 ∷ rest)) z ∙ sym (append_assoc (named_body c) (10 ∷ []) rest))

-- a text of which digits and letters are given begins with their line
line_gave : (t old lets new lets' : List ℕ) (n : ℕ) → NamedReadLine t old lets new lets' (gives n) → NamedBegins (take n new) (take n lets') t
line_gave t old lets new lets' n (kept k w) =
    let c : Named = w.result in
    let s = w.right.shape in
    let a : LineAnswers (lines_of_named size named_table) t (gives c) = kept (clear_left (line_rows (lines_of_named size named_table) t) _ k) w.right in
    let q : Parts = w.right.parts in
    let left = parts-left size named_table q (clear_line (lines_of_named size named_table) named_once (clear_left (line_rows (lines_of_named size named_table) t) _ k) s) in
    let even : length q.letters ≡ length q.front.digits = omega (arith, left.many, left.matches.number) in
    let many : length c.letters ≡ n = sym (ap (λ (d : Named). length d.letters) w.right.holds) ∙ even ∙ ap (λ (d : Named). length d.digits) w.right.holds ∙ sym w.count in
    let first : take n new ≡ c.digits = laid-front c.digits old new n w.lies.0 (sym w.count) in
    let second : take n lets' ≡ c.letters = laid-front c.letters lets lets' n w.lies.1.0 many in
    subst (λ d. NamedBegins d (take n lets') t) (sym first)
    (subst (λ l. NamedBegins c.digits l t) (sym second) (looked t s.text s.rest c s.feed.parts (look (lines_of_named size named_table) table_sound.reads s.feed a)))

-- a named line that is read, decoded and written is itself
pub named-line_again :
    (t old lets new lets' : List ℕ) (n : ℕ) (old' new' : TwoOutputs) (m : ℕ) (old'' new'' : List ℕ) (o : Outcome ℕ) → NamedReadLine t old lets new lets' (gives n)
    → NamedDecodeForm (IsCentredₗ atoms) (take n new) (take n lets') old' new' (gives m) → length (named_line (take n new) (take n lets')) ≤ length old''
    → NamedWriteLine (length (take n new)) (take m new'.0) (take (length (take n new)) new'.1) old'' new'' o
    → Given (named_line (take n new) (take n lets')) old'' new'' o × NamedBegins (take n new) (take n lets') t
named-line_again t old lets new lets' n old' new' m old'' new'' o r d h g =
    let ds = take n new in
    let ls = take n lets' in
    let (k, x, F, l) = form-decoded (IsCentredₗ atoms) (centred_formₗ atoms) ds ls old' new' m d in
    let c : List ℕ = marks_of ds ls in
    let p : named_line ds ls ≡ named_line (digits atoms c) (letters_of c) = ap₂ named_line (told-digits ds ls k) (told-letters ds ls k) in (
      must_give (its_rows ds ls k) (named_line ds ls) (c, x, p)
          (λ u (b, z, w). w ∙ ap (λ (e : List ℕ). named_line (digits atoms e) (letters_of e)) (only_code (length ds) (decode ds) ls (its_rows ds ls k) b c z x) ∙ sym p) h
          (subst (λ E. NamedWriteLine (length ds) E ls old'' new'' o) F (subst (λ u. NamedWriteLine (length ds) (take m new'.0) u old'' new'' o) l g)),
      line_gave t old lets new lets' n r,
    )
