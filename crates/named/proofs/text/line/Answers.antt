-- `named::text::line` meets its contract. Assumes nothing.
use Rattle.refusal.proofs.Laws.{room_of, short_of}
use mathlib.Core.Path.{◌≡◌, refl, sym, ap, ap₂, ◌∙◌, subst}
use mathlib.Core.List.{List}
use Prim.Native.Nat.{ℕ}
use native.Mathlib.Omega.{arith}
use lib.ListN.{length, take}
use Rattle.laws.specs.document.Laid.{Laid}
use Rattle.laws.specs.Laying.{laid-front}
use Rattle.refusal.specs.Giving.{given-laid}
use Rattle.refusal.proofs.Giving.{refused-short}
use Rattle.skeleton.specs.document.Label.{digits}
use Rattle.skeleton.specs.document.AtomMarks.{atoms}
use Rattle.letters.specs.document.Letters.{letters_of}
use Rattle.texts.specs.Judging.{none}
use Rattle.texts.specs.document.Numerals.{Digits}
use Rattle.named_lines.specs.document.Named.{named_line}
use Rattle.named.specs.Accepted.{digits_many, letters_many}
use Rattle.named.proofs.text.line.Goals as goal

-- the length that was told is that of the line
long : (c ls : List ℕ) {r : ℕ} → ls ≡ letters_of c → ((d : List ℕ) → length d ≡ length ls → length (named_line d ls) ≡ r) → length (named_line (digits atoms c) (letters_of c)) ≡ r
long c ls e h = ap (λ (l : List ℕ). length (named_line (digits atoms c) l)) (sym e) ∙ h (digits atoms c) (digits_many c ∙ sym (ap length e ∙ letters_many c))

-- the line of the same digits and letters
laid_as : {d e l k old new : List ℕ} {n : ℕ} → d ≡ e → l ≡ k → Laid (named_line d l) old new n → Laid (named_line e k) old new n
laid_as {old = old} {new} {n} p q h = subst (λ (t : List ℕ). Laid t old new n) (ap₂ named_line p q) h

pub slice_bounds-extent-end : goal.slice_bounds-extent-end
slice_bounds-extent-end c = let Told : Type 0 = (take (length (c.args.marks.now)) c.write_digits.new.out ≡ digits atoms (c.args.marks.now))
    × (take (length (c.args.marks.now)) c.write_letters.new.out ≡ letters_of (c.args.marks.now)) in
    let are-told : Told = (
      laid-front _ _ _ _ c.write_digits.ensures (digits_many (c.args.marks.now)),
      laid-front _ _ _ _ c.write_letters.ensures (letters_many (c.args.marks.now)),
    ) in
    let many : (length (c.args.marks.now) ≡ length (take (length (c.args.marks.now)) c.write_digits.new.out)) × (length (c.args.marks.now) ≡ length (take (length (c.args.marks.now)) c.write_letters.new.out)) = let (d, l) = are-told in (sym (ap length d ∙ digits_many (c.args.marks.now)), sym (ap length l ∙ letters_many (c.args.marks.now))) in
    many.1

pub extent-need-requires : goal.extent-need-requires
extent-need-requires c = let Told : Type 0 = (take (length (c.args.marks.now)) c.write_digits.new.out ≡ digits atoms (c.args.marks.now))
    × (take (length (c.args.marks.now)) c.write_letters.new.out ≡ letters_of (c.args.marks.now)) in
    let are-told : Told = (
      laid-front _ _ _ _ c.write_digits.ensures (digits_many (c.args.marks.now)),
      laid-front _ _ _ _ c.write_letters.ensures (letters_many (c.args.marks.now)),
    ) in
    let many : (length (c.args.marks.now) ≡ length (take (length (c.args.marks.now)) c.write_digits.new.out)) × (length (c.args.marks.now) ≡ length (take (length (c.args.marks.now)) c.write_letters.new.out)) = let (d, l) = are-told in (sym (ap length d ∙ digits_many (c.args.marks.now)), sym (ap length l ∙ letters_many (c.args.marks.now))) in
    omega (arith, many.1, c.requires.marks_len_bound)

pub returns-in_err-fits : goal.returns-in_err-fits
returns-in_err-fits c =
    let Told : Type 0 = (take (length (c.args.marks.now)) c.write_digits.new.out ≡ digits atoms (c.args.marks.now))
    × (take (length (c.args.marks.now)) c.write_letters.new.out ≡ letters_of (c.args.marks.now)) in
    let are-told : Told = (
      laid-front _ _ _ _ c.write_digits.ensures (digits_many (c.args.marks.now)),
      laid-front _ _ _ _ c.write_letters.ensures (letters_many (c.args.marks.now)),
    ) in
    let n = long (c.args.marks.now) _ are-told.1 c.extent-need.ensures in
    let (e, l) = short_of c.from_residual.result c.from_residual.ensures.1 c.in_err-fits.ensures in
    rw e (refused-short none (λ t e. ap length e ∙ n) refl l refl)

pub slice_bounds-write-end : goal.slice_bounds-write-end
slice_bounds-write-end c = let Told : Type 0 = (take (length (c.args.marks.now)) c.write_digits.new.out ≡ digits atoms (c.args.marks.now))
    × (take (length (c.args.marks.now)) c.write_letters.new.out ≡ letters_of (c.args.marks.now)) in
    let are-told : Told = (
      laid-front _ _ _ _ c.write_digits.ensures (digits_many (c.args.marks.now)),
      laid-front _ _ _ _ c.write_letters.ensures (letters_many (c.args.marks.now)),
    ) in
    let many : (length (c.args.marks.now) ≡ length (take (length (c.args.marks.now)) c.write_digits.new.out)) × (length (c.args.marks.now) ≡ length (take (length (c.args.marks.now)) c.write_letters.new.out)) = let (d, l) = are-told in (sym (ap length d ∙ digits_many (c.args.marks.now)), sym (ap length l ∙ letters_many (c.args.marks.now))) in
    many.0

pub slice_bounds-write-end-2 : goal.slice_bounds-write-end-2
slice_bounds-write-end-2 c = let Told : Type 0 = (take (length (c.args.marks.now)) c.write_digits.new.out ≡ digits atoms (c.args.marks.now))
    × (take (length (c.args.marks.now)) c.write_letters.new.out ≡ letters_of (c.args.marks.now)) in
    let are-told : Told = (
      laid-front _ _ _ _ c.write_digits.ensures (digits_many (c.args.marks.now)),
      laid-front _ _ _ _ c.write_letters.ensures (letters_many (c.args.marks.now)),
    ) in
    let many : (length (c.args.marks.now) ≡ length (take (length (c.args.marks.now)) c.write_digits.new.out)) × (length (c.args.marks.now) ≡ length (take (length (c.args.marks.now)) c.write_letters.new.out)) = let (d, l) = are-told in (sym (ap length d ∙ digits_many (c.args.marks.now)), sym (ap length l ∙ letters_many (c.args.marks.now))) in
    many.1

pub write-requires : goal.write-requires
write-requires c = let Told : Type 0 = (take (length (c.args.marks.now)) c.write_digits.new.out ≡ digits atoms (c.args.marks.now))
    × (take (length (c.args.marks.now)) c.write_letters.new.out ≡ letters_of (c.args.marks.now)) in
    let are-told : Told = (
      laid-front _ _ _ _ c.write_digits.ensures (digits_many (c.args.marks.now)),
      laid-front _ _ _ _ c.write_letters.ensures (letters_many (c.args.marks.now)),
    ) in
    let many : (length (c.args.marks.now) ≡ length (take (length (c.args.marks.now)) c.write_digits.new.out)) × (length (c.args.marks.now) ≡ length (take (length (c.args.marks.now)) c.write_letters.new.out)) = let (d, l) = are-told in (sym (ap length d ∙ digits_many (c.args.marks.now)), sym (ap length l ∙ letters_many (c.args.marks.now))) in
    let n = long (c.args.marks.now) _ are-told.1 c.extent-need.ensures in
    let e = ap₂ (λ (d l : List ℕ). length (named_line d l)) are-told.0 are-told.1 in record { code_len_bound = omega (arith, many.0, c.requires.marks_len_bound); digits = subst Digits (sym are-told.0) c.requires.digits; letters_len = sym many.1 ∙ many.0; letters_in_bounds = omega (arith, e, n, (room_of c.in_ok-fits.ensures)) }

pub returns : goal.returns
returns c = let Told : Type 0 = (take (length (c.args.marks.now)) c.write_digits.new.out ≡ digits atoms (c.args.marks.now))
    × (take (length (c.args.marks.now)) c.write_letters.new.out ≡ letters_of (c.args.marks.now)) in
    let are-told : Told = (
      laid-front _ _ _ _ c.write_digits.ensures (digits_many (c.args.marks.now)),
      laid-front _ _ _ _ c.write_letters.ensures (letters_many (c.args.marks.now)),
    ) in
    let n = long (c.args.marks.now) _ are-told.1 c.extent-need.ensures in
    given-laid none (omega (arith, n, (room_of c.in_ok-fits.ensures)))
    (laid_as are-told.0 are-told.1 c.write.ensures)
