-- Two limits on how many neighbours a vertex may have, R and the wider S: what a reader for R answers to a line is what one for S answers, or
-- refusal 10. So of a line that is accepted for S it hands out the same digits, which decode to the same edges, or refuses it with 10; a line that
-- is refused for S it refuses alike, or with 10.
--
-- In order: a line, for the two limits; a line of two editions; the lines of a text, one by one; what reading them leaves in what is lent. Assumes
-- nothing.
use Rattle.std.specs.Prelude.{◌≡◌, refl, ◌⊎◌, List, [], ◌∷◌, ◌++◌, map, ℕ, ◌≤◌, length}
use Rattle.std.proofs.Common.{ap, inl, inr, ⊎_elim, arith, length-drop}
use Rattle.refusal.specs.document.Table.{Row, Outcome, OutcomeOf, Promise, kept, left}
use Rattle.refusal.specs.Stricter.{RefusedBy}
use Rattle.refusal.proofs.Stricter.{relaxed}
use Rattle.digit_code.specs.document.Code.{plain, row10, row11, row12, row13}
use Rattle.digit_code.specs.Editions.{above-both}
use Rattle.form.specs.document.Form.{IsCentred, row14_form}
use Rattle.limits.specs.document.Limits.{size}
use Rattle.edition.specs.document.Edition.{IsEdition, neighbours_in}
use Rattle.texts.specs.document.Text.{Format, through, of_line, line_rows, LineAnswers, TextAnswers}
use Rattle.texts.specs.document.Lent.{line_row15, Hands}
use Rattle.texts.specs.Answered.{answered_once}
use Rattle.texts.specs.Taking.{read_once}
use Rattle.texts.specs.FirstLines.{Pairwise, all-taken, taken_most, taken-pairs}
use Rattle.texts.specs.Turns.{as_many}
use Rattle.lines.specs.document.Line.{Front, Formed, digit_row, plain_lines}
use Rattle.lines.specs.document.Judged.{digit_table}
use Rattle.lines.specs.document.Reading.{digits_lent, lines_of, LineRead, TextRead}
use Rattle.lines.specs.OfEdition.{answer_of, read_of}
use Rattle.lines.specs.Form.{front_rows}
use Rattle.lines.specs.Plain.{plain_once}

-- the answer o for the narrower limit, beside that for the wider: the same, or refusal 10
abbrev pub SameOrTen : {A : Type 0} → Outcome A → Outcome A → Type 0
SameOrTen o u = (o ≡ u) ⊎ RefusedBy 10 o

module _ (most : ℕ) {R S : ℕ} (h : R ≤ S) where
  -- plain lines for a limit
  abbrev for : ℕ → Format (List ℕ) Front
  for limit = plain_lines most (digit_table limit)

  abbrev of_digits : List ℕ → (List ℕ → Row) → Row
  of_digits t r = of_line Formed t (through (λ q. q.digits) (digit_row r))

  abbrev behind : List ℕ → List Row
  behind t = map (of_digits t) (row11 ∷ row12 ∷ row13 plain ∷ row14_form IsCentred ∷ [])

  above-line : (t : List ℕ) (p : ℕ) → (of_digits t (row10 S)).applies p → (of_digits t (row10 R)).applies p
  above-line t p w = record { parts = w.parts; shape = w.shape; holds = above-both w.parts.digits h p w.holds }

  -- what R's table of a line allows, whatever rows follow it, S's allows, or it is refusal 10
  line_relaxed :
      {A T : Type 0} {right : A → T → Type 0} {old new : T} {o : OutcomeOf ℕ A} (t : List ℕ) (more : List Row)
      → Promise (line_rows (for R) t ++ more) right old new o → Promise (line_rows (for S) t ++ more) right old new o ⊎ RefusedBy 10 o
  line_relaxed t more p = relaxed (front_rows most t) (behind t ++ more) (of_digits t (row10 R)) (of_digits t (row10 S)) (above-line t) p

  -- a line
  pub limits_across : {t : List ℕ} {o u : Outcome (List ℕ)} → LineAnswers (for R) t o → LineAnswers (for S) t u → SameOrTen o u
  limits_across {t} a b = ⊎_elim (λ g. inl (answered_once (for S) plain_once g b)) inr (line_relaxed t [] a)

  -- what is handed out is the same for both limits
  handed :
      {t : List ℕ} {olds news : List (List ℕ)} {o : Outcome ℕ} {rows : List Row} → Promise rows (Hands (for R) (digits_lent most) t olds) olds news o
      → Promise rows (Hands (for S) (digits_lent most) t olds) olds news o
  handed (kept c h) = kept c (record { result = h.result; right = h.right; count = h.count; lies = h.lies })
  handed (left l e) = left l e

  -- a line that is read into a lent output: the same answer and the same output, or 10
  pub limits-read_across :
      {t old new new' : List ℕ} {o u : Outcome ℕ} → LineRead most (for R) t old new o → LineRead most (for S) t old new' u
      → ((o ≡ u) × (new ≡ new')) ⊎ RefusedBy 10 o
  limits-read_across {t} {old} {new} {new'} {o} {u} a b =
      ⊎_elim (λ g. inl (same (read_once (for S) (digits_lent most) plain_once (handed g) b))) inr (line_relaxed t (line_row15 (for R) (digits_lent most) t (old ∷ []) ∷ []) a)
    where
      same : (o ≡ u) × (◌≡◌ {A = List (List ℕ)} (new ∷ []) (new' ∷ [])) → (o ≡ u) × (new ≡ new')
      same e = (e.0, let f = e.1 in let g : new ≡ new' = cc in g)

-- Two editions, of which d has the narrower limit.
module _ {d e : ℕ} (i : IsEdition d) (j : IsEdition e) (h : neighbours_in d ≤ neighbours_in e) where
  -- a line of a text
  pub line_across : {t : List ℕ} {o u : Outcome (List ℕ)} → LineAnswers (lines_of d) t o → LineAnswers (lines_of e) t u → SameOrTen o u
  line_across a b = limits_across size h (answer_of d i a) (answer_of e j b)

  -- a line that is read into a lent output: the same answer and the same output, or 10
  pub read_across :
      {t old new new' : List ℕ} {o u : Outcome ℕ} → LineRead size (lines_of d) t old new o → LineRead size (lines_of e) t old new' u
      → ((o ≡ u) × (new ≡ new')) ⊎ RefusedBy 10 o
  read_across a b = limits-read_across size h (read_of d i a) (read_of e j b)

  -- a text: as many answers, and each is that of its line
  pub text_across : {t : List ℕ} {os us : List (Outcome (List ℕ))} → TextAnswers (lines_of d) t os → TextAnswers (lines_of e) t us → Pairwise SameOrTen os us
  text_across a b =
      let g = all-taken (lines_of d) a in
      let k = all-taken (lines_of e) b in
      let l = taken_most (lines_of d) (lines_of e) g refl k in
      let m = taken_most (lines_of e) (lines_of d) k refl g in
      (taken-pairs (lines_of d) (lines_of e) SameOrTen (λ t o u a b. line_across a b) g k (omega arith)).0

  -- two readers of one text with as much lent: they read as many lines, as far, and answer each alike, or the narrower with 10
  pub record TextsAcross {t rec num pla rec₁ num₁ pla₁ rec₂ num₂ pla₂ : List ℕ} {k at l to : ℕ}
      (a : TextRead size (lines_of d) t rec num pla rec₁ num₁ pla₁ k at) (b : TextRead size (lines_of e) t rec num pla rec₂ num₂ pla₂ l to) : Type 0 where
    pub lines : k ≡ l
    pub far : at ≡ to
    pub each : Pairwise SameOrTen a.read.answers b.read.answers

  pub texts_across :
      {t rec num pla rec₁ num₁ pla₁ rec₂ num₂ pla₂ : List ℕ} {k at l to : ℕ}
      (a : TextRead size (lines_of d) t rec num pla rec₁ num₁ pla₁ k at) (b : TextRead size (lines_of e) t rec num pla rec₂ num₂ pla₂ l to)
      → TextsAcross a b
  texts_across a b =
      let n = as_many (lines_of d) (lines_of e) (digits_lent size) a b in
      let r = taken-pairs (lines_of d) (lines_of e) SameOrTen (λ t o u a b. line_across a b) a.read.taken b.read.taken (omega (arith, a.read.count, b.read.count)) in
      record { lines = n; far = omega (arith, simp length-drop at (ap length r.1), a.read.within, b.read.within); each = r.0 }
