-- "No line may ever hold a decimal mark: the text carries digits only." The bytes of a line, and the marks, are in `document.Marks`.
--
-- In order: the bytes of every line that is written; a line that holds a mark is refused 2. Assumes nothing.
use Rattle.std.specs.Prelude.{◌≡◌, refl, List, [], ◌∷◌, ◌++◌, ℕ, length}
use Rattle.std.proofs.Common.{ap, ◌∙◌, inl, inr, append_assoc, arith}
use Rattle.refusal.specs.document.Table.{Outcome, refuses, left}
use Rattle.limits.specs.document.Limits.{size}
use Rattle.laws.specs.document.Each.{Each}
use Rattle.texts.specs.document.Bytes.{Cut}
use Rattle.texts.specs.document.Numerals.{figures, Digits, IsCount, one-digit, two_digits}
use Rattle.texts.specs.document.Text.{LineAnswers}
use Rattle.laws.specs.Each.{each-join, each_right, each_follows}
use Rattle.texts.specs.Answered.{unformed_2, answered_once}
use Rattle.texts.specs.Taking.{read_once}
use Rattle.lines.specs.document.Line.{body, line, Front, front, Formed, plain_lines}
use Rattle.lines.specs.document.Marks.{WrittenDigits, Allowed, DigitsOnly, Mark}
use Rattle.lines.specs.document.Judged.{digit_table}
use Rattle.lines.specs.document.Reading.{digits_lent, LineRead}
use Rattle.lines.specs.Plain.{plain_once}

-- ---- what is written

figured : (ds : List ℕ) → Digits ds → WrittenDigits (figures ds)
unfolding figures
figured [] h = tt
figured (d ∷ ds) h = ((omega arith, omega (arith, h.0)), figured ds h.1)

count_figured : {b : List ℕ} {n : ℕ} → IsCount b n → WrittenDigits b
count_figured {n = n} (one-digit h e) = rw e (figured (n ∷ []) (h, tt))
count_figured (two_digits d f p q r e s) = rw e (figured (d ∷ f ∷ []) (q, (r, tt)))

pub line-digits : (c : List ℕ) → Formed (body c) (front (length c) c) → DigitsOnly (line c)
unfolding line
line-digits c f =
    record {
      count = f.count;
      digits = figures c;
      parts = ap (λ (b : List ℕ). b ++ (10 ∷ [])) f.parts ∙ append_assoc f.count (32 ∷ figures c) (10 ∷ []);
      count-figures = count_figured f.counts;
      digit-figures = figured c f.digits;
    }

pub each_allowed : {t : List ℕ} → DigitsOnly t → Each Allowed t
each_allowed d =
    rw d.parts
    (each-join Allowed d.count (32 ∷ (d.digits ++ (10 ∷ []))) (each_follows (λ a f. inl f) d.count d.count-figures)
    (inr (inl refl), each-join Allowed d.digits (10 ∷ []) (each_follows (λ a f. inl f) d.digits d.digit-figures) (inr (inr refl), tt)))

-- ---- what is refused

-- what has a line's form holds no mark
formed_unmarked : {b : List ℕ} {q : Front} → Formed b q → Each (λ m. Mark m → ⊥) b
formed_unmarked {q = q} f =
    rw f.parts
    (each-join (λ m. Mark m → ⊥) f.count (32 ∷ figures q.digits) (each_follows (λ a g k. k.0 g) f.count (count_figured f.counts))
    ((λ k. k.1 refl), each_follows (λ a g k. k.0 g) (figures q.digits) (figured q.digits f.digits)))

-- the first line of t holds the mark m
module _ {t b rest : List ℕ} (c : Cut 10 t b rest) (x y : List ℕ) (m : ℕ) (p : b ≡ x ++ (m ∷ y)) (k : Mark m) where
  unformed : (q : Front) → Formed b q → ⊥
  unformed q f = (each_right (λ a. Mark a → ⊥) x (m ∷ y) (rw p at (formed_unmarked f))).0 k

  -- it is refused 2 in a text
  pub marked-answer : (R : ℕ) {o : Outcome (List ℕ)} → LineAnswers (plain_lines size (digit_table R)) t o → o ≡ refuses 2 0
  marked-answer R h = answered_once (plain_lines size (digit_table R)) plain_once h (left (unformed_2 Formed c unformed _) refl)

  -- and by itself
  pub marked-line : (R : ℕ) {old new : List ℕ} {o : Outcome ℕ} → LineRead size (plain_lines size (digit_table R)) t old new o → (o ≡ refuses 2 0) × (new ≡ old)
  marked-line R h =
      let r = read_once (plain_lines size (digit_table R)) (digits_lent size) plain_once h (left (unformed_2 Formed c unformed _) refl) in
      (r.0, cc)
