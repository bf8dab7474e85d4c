-- A line as it is written, byte behind byte. Assumes nothing.
use mathlib.Core.Path.{◌≡◌, refl, sym, ap, ◌∙◌}
use mathlib.Core.List.{List, [], ◌∷◌, ◌++◌}
use Prim.Native.Nat.{ℕ, ◌+◌, ◌-◌, ◌/◌, ◌%◌, ◌≤◌, ◌<◌}
use native.Mathlib.Omega.{arith}
use lib.ListN.{length, set, length-set, length-append, length-take, length-drop}
use lib.Seq.{append_snoc}
use borrow.Rule.Slice.PartMut.{mid_of, put_mid}
use Rattle.laws.specs.Laid.{laid_length}
use Rattle.laws.specs.document.Laid.{laid_over, Laid}
use Rattle.laws.specs.Laying.{laid_none, laid_more, laid-part}
use Rattle.texts.specs.document.Numerals.{figures, decimal}
use Rattle.texts.specs.Numerals.{length_figures, decimal-short, decimal_long, length_short, length_long}
use Rattle.lines.specs.document.Line.{body, line}
use Rattle.lines.specs.Plain.{length_line}

-- ---- the count

module _ (n : ℕ) (old : List ℕ) (room : length (decimal n) ≤ length old) where
  pub one_written : n < 10 → Laid (decimal n) old (set old 0 (48 + n)) 1
  one_written h =
      let k = length_short n h in
      record { count = sym k; lies = rw (decimal-short n h) (laid_more [] old old 0 (48 + n) (laid_none old) refl (omega arith)) }

  pub two-written : 10 ≤ n → Laid (decimal n) old (set (set old 0 (48 + n / 10)) 1 (48 + n % 10)) 2
  two-written h =
      let k = length_long n h in
      let e = laid_more [] old old 0 (48 + n / 10) (laid_none old) refl (omega arith) in
      record { count = sym k; lies = rw (decimal_long n h) (laid_more ((48 + n / 10) ∷ []) old _ 1 (48 + n % 10) e refl (omega arith)) }

-- ---- the line

-- out after the space
abbrev pub spaced : List ℕ → ℕ → List ℕ
spaced out at = set out at 32

-- and with what was written from the start of the part behind the space
abbrev pub joined : List ℕ → ℕ → List ℕ → List ℕ
joined out at ys = put_mid (at + 1) (length (spaced out at) - (at + 1)) (spaced out at) ys

-- that part, before it is written
abbrev pub behind : List ℕ → ℕ → List ℕ
behind out at = mid_of (at + 1) (length (spaced out at) - (at + 1)) (spaced out at)

module _ (code old : List ℕ) (room : length (line code) ≤ length old) {at : ℕ} {out : List ℕ} (w : Laid (decimal (length code)) old out at) where
  pub sizes : (at + length code + 2 ≤ length old) × (length out ≡ length old)
  sizes =
      let n = length_line code in
      let k = w.count in
      (omega arith, ap length w.lies ∙ laid_length (decimal (length code)) old (omega arith))

  pub room-behind : length code ≤ length (behind out at)
  room-behind = let h = sizes in simp (length-take, length-drop, length-set) (omega arith)

  space_lies : spaced out at ≡ laid_over (decimal (length code) ++ (32 ∷ [])) old
  space_lies = let h = sizes in laid_more (decimal (length code)) old out at 32 w.lies (sym w.count) (omega arith)

  body_length : length (body code) ≡ at + 1 + length code
  unfolding body
  body_length = let k = w.count in simp (length-append, length_figures) (omega arith)

  module _ {ys : List ℕ} (e : ys ≡ laid_over (figures code) (behind out at)) where
    body_lies : joined out at ys ≡ laid_over (body code) old
    unfolding body
    body_lies =
        let h = sizes in
        let k = w.count in
        ap (joined out at) e
        ∙ laid-part (decimal (length code) ++ (32 ∷ [])) old (spaced out at) (figures code) (at + 1) space_lies (simp length-append (omega arith)) (simp length_figures (omega arith))
        ∙ ap (λ (l : List ℕ). laid_over l old) (append_snoc (decimal (length code)) 32 (figures code))

    pub long_joined : length (joined out at ys) ≡ length old
    long_joined = let h = sizes in ap length body_lies ∙ laid_length (body code) old (omega (arith, body_length))

    pub long_written : (i b : ℕ) → length (set (joined out at ys) i b) ≡ length old
    long_written i b = length-set (joined out at ys) i b ∙ long_joined

    pub line-written : Laid (line code) old (set (joined out at ys) (at + 1 + length code) 10) (at + length code + 2)
    unfolding line
    line-written =
        let h = sizes in
        record {
          count = simp length-append (omega (arith, body_length));
          lies = laid_more (body code) old (joined out at ys) (at + 1 + length code) 10 body_lies body_length (omega arith);
        }
