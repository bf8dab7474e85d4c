-- The form of a line, byte by byte: digits and their values, and how a line begins. Assumes nothing.
use Rattle.std.specs.Prelude.{◌≡◌, Bool, true, false, Some, None, ℕ, zero, suc, ◌+◌, ◌*◌, ◌-◌, ◌≤◌, ◌<◌, take}
use Rattle.std.proofs.Math.Path.{refl, ap}
use Rattle.std.proofs.Common.{sym, ◌∙◌, arith, length-append, drop_at}
use mathlib.Core.List.{List, [], ◌∷◌, ◌++◌}
use Rattle.std.proofs.Math.ListN.{length, get_or, drop}
use Rattle.std.proofs.Math.Seq.{append_snoc, drop-cons, take-nil}
use Rattle.laws.specs.Part.{part}
use Rattle.texts.specs.document.Numerals.{figures, Digits, IsCount, one-digit, two_digits}
use Rattle.lines.specs.document.Line.{Front, Formed}
use Rattle.lines.specs.Form.{Value, values, Figured, all, not_all, Begins, FormAt}
use Rattle.lines.specs.document.Marks.{WrittenDigit, WrittenDigits}
use Rattle.texts.specs.Cuts.{cut_once}
use Rattle.texts.specs.Ending.{rest_is}
use Rattle.texts.specs.Numerals.{length_figures, count_free}
use Rattle.laws.specs.Each.{each_at}
use Rattle.lines.specs.Taking.{length_values}

pub is_figure : (b v : ℕ) → Value b (Some v) → WrittenDigit b
is_figure b v w = omega arith

no_figure : (b : ℕ) → Value b None → WrittenDigit b → ⊥
no_figure b w f = w (b - 48) (omega arith) (omega arith)

-- a byte of t at i is no digit's
pub some_other : {t : List ℕ} {i : ℕ} → i < length t → Value (get_or t i 0) None → Figured t false
some_other {t} {i} l w = not_all (λ n f. no_figure _ w (each_at WrittenDigit t i f l))

-- ---- how a line begins

-- the two ways to begin, by the first bytes
module _ {b : List ℕ} where
  pub begins-one : {n : ℕ} → 2 ≤ length b → n ≤ 9 → get_or b 0 0 ≡ 48 + n → get_or b 1 0 ≡ 32 → Begins b n 2
  unfolding figures
  begins-one {n} l h e q =
      let p = drop-cons b 0 0 (omega arith) in
      let r = drop-cons b 1 0 (omega arith) in
      record { count = figures (n ∷ []); rest = drop 2 b; counts = one-digit h refl; parts = cc; start = refl }

  pub begins-two : {d e : ℕ} → 3 ≤ length b → 1 ≤ d → d ≤ 9 → e ≤ 9 → get_or b 0 0 ≡ 48 + d → get_or b 1 0 ≡ 48 + e → get_or b 2 0 ≡ 32 → Begins b (10 * d + e) 3
  unfolding figures
  begins-two {d} {e} l h k m q r s =
      let p₀ = drop-cons b 0 0 (omega arith) in
      let p₁ = drop-cons b 1 0 (omega arith) in
      let p₂ = drop-cons b 2 0 (omega arith) in
      record { count = figures (d ∷ e ∷ []); rest = drop 3 b; counts = two_digits d e h k m refl refl; parts = cc; start = refl }

  pub no_beginning :
      ((n : ℕ) → 2 ≤ length b → n ≤ 9 → get_or b 0 0 ≡ 48 + n → get_or b 1 0 ≡ 32 → ⊥)
      → ((d e : ℕ) → 3 ≤ length b → 1 ≤ d → d ≤ 9 → e ≤ 9 → get_or b 0 0 ≡ 48 + d → get_or b 1 0 ≡ 48 + e → get_or b 2 0 ≡ 32 → ⊥) → (n s : ℕ) → Begins b n s → ⊥
  unfolding figures
  no_beginning f g n s h = go n h.rest h.counts h.parts
    where
      go : (n : ℕ) {count : List ℕ} (rest : List ℕ) → IsCount count n → b ≡ count ++ (32 ∷ rest) → ⊥
      go n rest (one-digit h e) q =
          let r : b ≡ (48 + n) ∷ 32 ∷ rest = q ∙ ap (λ (l : List ℕ). l ++ (32 ∷ rest)) e in
          let l = ap length r in
          f n (omega arith) h (ap (λ (l : List ℕ). get_or l 0 0) r) (ap (λ (l : List ℕ). get_or l 1 0) r)
      go n rest (two_digits d k p m o e w) q =
          let r : b ≡ (48 + d) ∷ (48 + k) ∷ 32 ∷ rest = q ∙ ap (λ (l : List ℕ). l ++ (32 ∷ rest)) e in
          let l = ap length r in
          g d k (omega arith) p m o (ap (λ (l : List ℕ). get_or l 0 0) r) (ap (λ (l : List ℕ). get_or l 1 0) r) (ap (λ (l : List ℕ). get_or l 2 0) r)

-- ---- the form of a line

-- written digits are what their values are written as
pub figures-values : (t : List ℕ) → WrittenDigits t → (figures (values t) ≡ t) × Digits (values t)
unfolding figures values
figures-values [] f = (refl, tt)
figures-values (b ∷ t) f =
    let h = figures-values t f.1 in
    let e : 48 + (b - 48) ≡ b = omega (arith, f.0) in
    (cc, (omega (arith, f.0), h.1))

pub are_figures : (ds : List ℕ) → Digits ds → WrittenDigits (figures ds)
unfolding figures
are_figures [] h = tt
are_figures (d ∷ ds) h = (omega (arith, h.0), are_figures ds h.1)

-- what stands in front of e of what is behind s
pub drop_take : (s e : ℕ) (l : List ℕ) → drop s (take e l) ≡ part s e l
drop_take zero e l = let q : e - 0 ≡ e = omega arith in rw q
drop_take (suc s) zero l = let q : 0 - suc s ≡ 0 = omega arith in rw q
drop_take (suc s) (suc e) [] = sym (take-nil (suc e - suc s))
drop_take (suc s) (suc e) (a ∷ l) = let q : suc e - suc s ≡ e - s = omega arith in rw q (drop_take s e l)

-- what begins with no count and space is not of the form
pub unopened : {b : List ℕ} → ((n s : ℕ) → Begins b n s → ⊥) → (q : Front) → Formed b q → ⊥
unopened h q f =
    h q.count (length f.count + 1) (record { count = f.count; rest = figures q.digits; counts = f.counts; parts = f.parts; start = refl })

pub figured : {t : List ℕ} {r : Bool} → Figured t r → r ≡ true → (1 ≤ length t) × WrittenDigits t
figured (all l f) e = (l, f)
figured (not_all h) e = let z : ◌≡◌ {A = ℕ} 0 1 = cc in absurd (let n : ⊥ = omega arith in n)

pub unfigured : {t : List ℕ} {r : Bool} → Figured t r → r ≡ false → 1 ≤ length t → WrittenDigits t → ⊥
unfigured (all l f) e = let z : ◌≡◌ {A = ℕ} 0 1 = cc in absurd (let n : ⊥ = omega arith in n)
unfigured (not_all h) e = h

module _ {b : List ℕ} {n s : ℕ} (h : Begins b n s) where
  pub begins_within : s ≤ length b
  begins_within = omega (arith, h.start, simp length-append at (ap length h.parts))

  -- what follows the space
  pub follows : drop s b ≡ h.rest
  follows =
      ap (drop s) (h.parts ∙ sym (append_snoc h.count 32 h.rest))
      ∙ drop_at (h.count ++ (32 ∷ [])) h.rest s (simp length-append (sym h.start))

  pub has_form : {r : Bool} → Figured (take (length b - s) (drop s b)) r → r ≡ true → FormAt b n s
  has_form g e =
      let k = figured (rw (rest_is b s) at g) e in
      let v = figures-values (drop s b) k.1 in
      record {
        within = begins_within;
        figures = k.1;
        formed = record { count = h.count; counts = h.counts; some = rw length_values k.0; digits = v.1; parts = rw (v.0, follows) h.parts };
      }

  pub has_none : {r : Bool} → Figured (take (length b - s) (drop s b)) r → r ≡ false → (q : Front) → Formed b q → ⊥
  has_none g e d f =
      let k = unfigured (rw (rest_is b s) at g) e in
      let p =
      (cut_once 32 b h.count h.rest f.count (figures d.digits)
      (record { parts = h.parts; free = count_free 32 (omega arith) h.counts })
      (record { parts = f.parts; free = count_free 32 (omega arith) f.counts })).1 in
      let q : drop s b ≡ figures d.digits = follows ∙ p in
      k (rw (q, length_figures) f.some) (rw q (are_figures d.digits f.digits))
