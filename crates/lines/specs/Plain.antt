-- Plain lines are a sound format. In order: how long a line is; a text has their form in one way; reading undoes writing; their parts, the count and the digits, are
-- tied: from the digits the count, from the count the digits' number and, by the rows, their sum. What rests on `tied` is in `proofs.Plain`. Assumes nothing.
use Rattle.std.specs.Prelude.{◌≡◌, ℕ, ◌+◌, ◌≤◌, ◌<◌, length}
use Rattle.std.proofs.Math.Path.{refl, ap}
use Rattle.std.proofs.Common.{sym, ap₂, subst, ◌∙◌, inr, ⊎_elim, arith, length-append}
use mathlib.Core.List.{List, [], ◌∷◌, ◌++◌, map}
use Rattle.std.proofs.Math.Decide.{ℕ_discrete}
use Rattle.digit_code.specs.document.Code.{sum}
use Rattle.refusal.specs.document.Table.{Row, Clear}
use Rattle.refusal.specs.Laws.{never, others, clear_one, clear_both}
use Rattle.texts.specs.document.Numerals.{figures, decimal, Digits, IsCount}
use Rattle.texts.specs.document.Text.{through}
use Rattle.texts.specs.Judging.{judged, judged-through, none}
use Rattle.texts.specs.Damage.{Accept}
use Rattle.texts.specs.Sound.{Once, Reads}
use Rattle.texts.specs.Numerals.{length_figures, sum-figures, same-figures, decimal-counts, count-decimal, count-short, one-count, marks-figures, marks-count}
use Rattle.texts.specs.document.Parts.{spaced}
use Rattle.texts.specs.Spaced.{Marked, Alike, Tied, same_parts}
use Rattle.lines.specs.document.Line.{body, line, Front, front, Formed, row3-line, row5_line, DigitRow, plain_lines}

pub length_line : (c : List ℕ) → length (line c) ≡ length (decimal (length c)) + length c + 2
unfolding line body
length_line c = simp (length-append, length_figures) (omega arith)

-- a line is no longer than its digits and four bytes more
pub line-short : (c : List ℕ) → length c ≤ 99 → length (line c) ≤ length c + 4
line-short c h = omega (arith, length_line c, count-short (decimal-counts (length c) h))

-- ---- reading undoes writing

pub same-front : {p q : Front} → p.count ≡ q.count → p.digits ≡ q.digits → p ≡ q
same-front e f = ap₂ {C = Front} (λ (n : ℕ) (ds : List ℕ). front n ds) e f

-- what has the form is two parts
formed_parts : {b : List ℕ} {q : Front} (f : Formed b q) → Marked (f.count ∷ figures q.digits ∷ [])
formed_parts {q = q} f = (marks-count f.counts, (marks-figures q.digits, tt))

pub plain_once : Once Formed
unfolding spaced
plain_once b p q f g =
    let h =
    same_parts f.count (figures p.digits ∷ []) g.count (figures q.digits ∷ []) (formed_parts f) (formed_parts g) refl
    (sym f.parts ∙ g.parts) in
    let n : f.count ≡ g.count = cc in
    let d : figures p.digits ≡ figures q.digits = cc in
    same-front (one-count f.counts (rw n g.counts)) (same-figures p.digits q.digits d)

module _ (most : ℕ) (rows : List DigitRow) where
  -- the rows of a line's parts: 3, 5, and those of its digits
  parts_clear : (q : Front) → Clear (judged (row3-line most ∷ row5_line ∷ map (through (λ q. q.digits)) rows) q) → (length q.digits ≡ q.count) × (q.count ≤ most) × Clear (judged rows q.digits)
  parts_clear q k =
      let big : most < q.count → ⊥ = λ l. never k 0 (refl, inr l) in
      (as_many (ℕ_discrete (length q.digits) q.count), omega arith, subst (λ (rs : List Row). Clear rs) (judged-through (λ q. q.digits) rows q) (others (others k)))
    where
      as_many : Dec (length q.digits ≡ q.count) → length q.digits ≡ q.count
      as_many (yes e) = e
      as_many (no e) = absurd (never (others k) 0 (refl, e))

  pub clear_parts :
      (q : Front) → length q.digits ≡ q.count → 1 ≤ q.count → q.count ≤ most → Clear (judged rows q.digits)
      → Clear (judged (row3-line most ∷ row5_line ∷ map (through (λ q. q.digits)) rows) q)
  clear_parts q e l m k =
      clear_both {xs = judged (row3-line most ∷ []) q} (clear_one (λ p a. ⊎_elim (λ z. omega (arith, z)) (λ z. omega (arith, z)) a.1))
      (clear_both {xs = judged (row5_line ∷ []) q} (clear_one (λ p a. a.1 e))
      (subst (λ (rs : List Row). Clear rs) (sym (judged-through (λ q. q.digits) rows q)) k))

  -- digits of a line that is not refused, no more than `most`
  pub plain_few : (q : Front) → Clear (judged (plain_lines most rows).rows q) → length q.digits ≤ most
  plain_few q k = let r = parts_clear q k in omega (arith, r.0, r.1)

  pub plain_reads : Reads (plain_lines most rows)
  unfolding body
  plain_reads =
      record {
        first_clear = none;
        once = plain_once;
        read = λ b q f k.
            let e = (parts_clear q k).0 in
            (f.parts ∙ ap (λ (x : List ℕ). x ++ (32 ∷ figures q.digits)) ((count-decimal f.counts).0 ∙ ap decimal (sym e)), same-front (sym e) refl);
        back = λ c. refl;
      }

  -- a code that a line may carry
  pub plain_accept : (c : List ℕ) → 1 ≤ length c → Digits c → length c ≤ 99 → length c ≤ most → Clear (judged rows c) → Accept (plain_lines most rows) c
  unfolding body
  plain_accept c l d n m k =
      record {
        formed = record { count = decimal (length c); counts = decimal-counts (length c) n; some = l; digits = d; parts = refl };
        clear = clear_parts (front (length c) c) refl l m k;
      }

  -- ---- the parts are tied

  module _ (lawful : (c : List ℕ) → Clear (judged rows c) → sum c + 1 ≡ length c) where
    total : (c : List ℕ) → Accept (plain_lines most rows) c → sum c + 1 ≡ length c
    total c a = lawful c (parts_clear (front (length c) c) a.clear).2

    pub few : (c : List ℕ) → Accept (plain_lines most rows) c → length c ≤ 99
    few c a = (count-decimal a.formed.counts).1

    pub tied : (c d : List ℕ) → Accept (plain_lines most rows) c → Accept (plain_lines most rows) d → Tied (decimal (length c)) (figures c ∷ []) (decimal (length d)) (figures d ∷ [])
    tied c d a b = (count-alike, digits-alike)
      where
        count-alike : ◌≡◌ {A = List (List ℕ)} (figures c ∷ []) (figures d ∷ []) → Alike (decimal (length c)) (decimal (length d))
        count-alike e =
            let f : figures c ≡ figures d = cc in
            let g = ap (λ (x : List ℕ). decimal (length x)) (same-figures c d f) in
            (ap length g, ap sum g)

        digits-alike : decimal (length c) ≡ decimal (length d) → Alike (figures c) (figures d)
        digits-alike e =
            let n : length c ≡ length d = one-count (decimal-counts (length c) (few c a)) (subst (λ (x : List ℕ). IsCount x (length d)) (sym e) (decimal-counts (length d) (few d b))) in
            (omega (arith, length_figures c, length_figures d), omega (arith, sum-figures c, sum-figures d, length_figures c, total c a, total d b))
