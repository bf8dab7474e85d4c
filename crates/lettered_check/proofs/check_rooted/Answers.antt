-- `lettered_check::check_rooted` meets its contract: the marks of digits and letters are judged row by row. Assumes nothing.
use Rattle.refusal.proofs.Laws.{clear_of, behind, exits, is_refusal, on_passed}
use Rattle.std.specs.Prelude.{OnOk}
use mathlib.Core.Path.{◌≡◌, sym, ap, ◌∙◌, subst}
use mathlib.Core.List.{List}
use Prim.Native.Nat.{ℕ, ◌≤◌}
use native.Mathlib.Omega.{arith}
use borrow.Author.Rules.{rules}
use lib.ListN.{length, take}
use Rattle.laws.specs.document.Laid.{laid_over}
use Rattle.laws.specs.Laying.{laid-front}
use Rattle.refusal.specs.Checks.{Check, Answers}
use Rattle.refusal.specs.Laws.{was_clear, never, others, at_most}
use Rattle.limits.specs.document.Limits.{size, valence}
use Rattle.digit_code.specs.Digits.{digits}
use Rattle.skeleton.specs.document.AtomMarks.{atoms}
use Rattle.letters.specs.Lettered.{so_many}
use Rattle.lettered_check.specs.document.Lettered.{marks_of, named_digit_rows, lettered_code_rows}
use Rattle.lettered_check.specs.Lettered.{marks-digits, length_marks}
use Rattle.lettered_check.specs.Rows.{ends_there}
use Rattle.lettered_check.proofs.check_rooted.Goals as goal

pub returns-in_err-lent : goal.returns-in_err-lent
returns-in_err-lent c = record { answers = exits _ c.from_residual.ensures.1 c.in_err-lent.ensures; ms_after = rw (is_refusal c.from_residual.result c.from_residual.ensures.1) tt }

pub marks-requires : goal.marks-requires
marks-requires c = let k = clear_of c.in_ok-lent.ensures in record { letters_len = so_many (length c.args.ds.now) c.args.letters.now (never (others (others k))); ds_in_bounds = omega (arith, at_most (others k), c.requires) }

pub slice_bounds-refused-end : goal.slice_bounds-refused-end
slice_bounds-refused-end c = let lent-right : (length c.args.letters.now ≡ length c.args.ds.now) × (length c.args.ds.now ≤ size) = let k = clear_of c.in_ok-lent.ensures in
    (so_many (length c.args.ds.now) c.args.letters.now (never (others (others k))), at_most (others k)) in
    let k = lent-right.1 in let p : size ≤ length c.args.ms.now = c.requires in search rules

pub slice_bounds-refused-end-in-Crowded : goal.slice_bounds-refused-end-in-Crowded
slice_bounds-refused-end-in-Crowded c = let front : List ℕ = take (length c.args.ds.now) c.marks.new.out in
    let ms : List ℕ = marks_of c.args.ds.now c.args.letters.now in
    let lent-right : (length c.args.letters.now ≡ length c.args.ds.now) × (length c.args.ds.now ≤ size) = let k = clear_of c.in_ok-lent.ensures in
    (so_many (length c.args.ds.now) c.args.letters.now (never (others (others k))), at_most (others k)) in
    let as_many : (front) ≡ (ms) → length c.args.ds.now ≡ length (front) = λ e. sym (ap length e ∙ length_marks c.args.ds.now c.args.letters.now lent-right.0) in
    let are-marks : c.marks.new.out ≡ laid_over (ms) c.args.ms.now → (front) ≡ (ms) = λ w. laid-front _ _ _ _ w (length_marks c.args.ds.now c.args.letters.now lent-right.0) in
    let crowded : front ≡ ms = are-marks (c.marks.ensures.crowded c.in-Crowded.is).0 in
    as_many (crowded)

pub refused-requires : goal.refused-requires
refused-requires c = let front : List ℕ = take (length c.args.ds.now) c.marks.new.out in
    let ms : List ℕ = marks_of c.args.ds.now c.args.letters.now in
    let lent-right : (length c.args.letters.now ≡ length c.args.ds.now) × (length c.args.ds.now ≤ size) = let k = clear_of c.in_ok-lent.ensures in
    (so_many (length c.args.ds.now) c.args.letters.now (never (others (others k))), at_most (others k)) in
    let told : (front) ≡ (ms) → (c.args.ds.now ≡ digits atoms.arity (front)) × (length c.args.ds.now ≤ size) = λ e. (marks-digits c.args.ds.now c.args.letters.now lent-right.0 ∙ ap (digits atoms.arity) (sym e), lent-right.1) in
    let are-marks : c.marks.new.out ≡ laid_over (ms) c.args.ms.now → (front) ≡ (ms) = λ w. laid-front _ _ _ _ w (length_marks c.args.ds.now c.args.letters.now lent-right.0) in
    let crowded : front ≡ ms = are-marks (c.marks.ensures.crowded c.in-Crowded.is).0 in let whole = told (crowded) in record { ds_value = whole.0; ds_len_bound = whole.1 }

pub slice_bounds-refused-end-in-Kept : goal.slice_bounds-refused-end-in-Kept
slice_bounds-refused-end-in-Kept c = let lent-right : (length c.args.letters.now ≡ length c.args.ds.now) × (length c.args.ds.now ≤ size) = let k = clear_of c.in_ok-lent.ensures in
    (so_many (length c.args.ds.now) c.args.letters.now (never (others (others k))), at_most (others k)) in
    let k = lent-right.1 in let p : size ≤ length c.args.ms.now = c.requires in search rules

pub slice_bounds-refused-end-in-Kept-2 : goal.slice_bounds-refused-end-in-Kept-2
slice_bounds-refused-end-in-Kept-2 c = let front : List ℕ = take (length c.args.ds.now) c.marks.new.out in
    let ms : List ℕ = marks_of c.args.ds.now c.args.letters.now in
    let lent-right : (length c.args.letters.now ≡ length c.args.ds.now) × (length c.args.ds.now ≤ size) = let k = clear_of c.in_ok-lent.ensures in
    (so_many (length c.args.ds.now) c.args.letters.now (never (others (others k))), at_most (others k)) in
    let as_many : (front) ≡ (ms) → length c.args.ds.now ≡ length (front) = λ e. sym (ap length e ∙ length_marks c.args.ds.now c.args.letters.now lent-right.0) in
    let are-marks : c.marks.new.out ≡ laid_over (ms) c.args.ms.now → (front) ≡ (ms) = λ w. laid-front _ _ _ _ w (length_marks c.args.ds.now c.args.letters.now lent-right.0) in
    let kept : front ≡ ms = are-marks (c.marks.ensures.kept c.in-Kept.is).0 in
    as_many (kept)

pub refused-requires-in-Kept : goal.refused-requires-in-Kept
refused-requires-in-Kept c = let front : List ℕ = take (length c.args.ds.now) c.marks.new.out in
    let ms : List ℕ = marks_of c.args.ds.now c.args.letters.now in
    let lent-right : (length c.args.letters.now ≡ length c.args.ds.now) × (length c.args.ds.now ≤ size) = let k = clear_of c.in_ok-lent.ensures in
    (so_many (length c.args.ds.now) c.args.letters.now (never (others (others k))), at_most (others k)) in
    let told : (front) ≡ (ms) → (c.args.ds.now ≡ digits atoms.arity (front)) × (length c.args.ds.now ≤ size) = λ e. (marks-digits c.args.ds.now c.args.letters.now lent-right.0 ∙ ap (digits atoms.arity) (sym e), lent-right.1) in
    let are-marks : c.marks.new.out ≡ laid_over (ms) c.args.ms.now → (front) ≡ (ms) = λ w. laid-front _ _ _ _ w (length_marks c.args.ds.now c.args.letters.now lent-right.0) in
    let kept : front ≡ ms = are-marks (c.marks.ensures.kept c.in-Kept.is).0 in let whole = told (kept) in record { ds_value = whole.0; ds_len_bound = whole.1 }

pub returns-in-High : goal.returns-in-High
returns-in-High c = let high = c.marks.ensures.high c.in-High.is in record { answers = behind c.in_ok-lent.ensures (ends_there _ high c.capped.ensures); ms_after = on_passed c.capped.result (λ u q. absurd (high (was_clear c.capped.ensures q))) }

pub returns-in-Crowded : goal.returns-in-Crowded
returns-in-Crowded c = let front : List ℕ = take (length c.args.ds.now) c.marks.new.out in
    let ms : List ℕ = marks_of c.args.ds.now c.args.letters.now in
    let judged : (r : Check) (e : (front) ≡ (ms)) → Answers (named_digit_rows valence c.args.ds.now (front)) r → Answers (lettered_code_rows size valence c.args.ds.now c.args.letters.now) r × OnOk r ((front) ≡ (ms)) = λ r e a. (
      behind c.in_ok-lent.ensures (subst (λ (l : List ℕ). Answers (named_digit_rows valence c.args.ds.now l) r) e a),
      on_passed r (λ u q. e),
    ) in
    let lent-right : (length c.args.letters.now ≡ length c.args.ds.now) × (length c.args.ds.now ≤ size) = let k = clear_of c.in_ok-lent.ensures in
    (so_many (length c.args.ds.now) c.args.letters.now (never (others (others k))), at_most (others k)) in
    let are-marks : c.marks.new.out ≡ laid_over (ms) c.args.ms.now → (front) ≡ (ms) = λ w. laid-front _ _ _ _ w (length_marks c.args.ds.now c.args.letters.now lent-right.0) in
    let crowded : front ≡ ms = are-marks (c.marks.ensures.crowded c.in-Crowded.is).0 in let whole = judged _ (crowded) c.refused.ensures in record { answers = whole.0; ms_after = whole.1 }

pub returns-in-Kept : goal.returns-in-Kept
returns-in-Kept c = let front : List ℕ = take (length c.args.ds.now) c.marks.new.out in
    let ms : List ℕ = marks_of c.args.ds.now c.args.letters.now in
    let judged : (r : Check) (e : (front) ≡ (ms)) → Answers (named_digit_rows valence c.args.ds.now (front)) r → Answers (lettered_code_rows size valence c.args.ds.now c.args.letters.now) r × OnOk r ((front) ≡ (ms)) = λ r e a. (
      behind c.in_ok-lent.ensures (subst (λ (l : List ℕ). Answers (named_digit_rows valence c.args.ds.now l) r) e a),
      on_passed r (λ u q. e),
    ) in
    let lent-right : (length c.args.letters.now ≡ length c.args.ds.now) × (length c.args.ds.now ≤ size) = let k = clear_of c.in_ok-lent.ensures in
    (so_many (length c.args.ds.now) c.args.letters.now (never (others (others k))), at_most (others k)) in
    let are-marks : c.marks.new.out ≡ laid_over (ms) c.args.ms.now → (front) ≡ (ms) = λ w. laid-front _ _ _ _ w (length_marks c.args.ds.now c.args.letters.now lent-right.0) in
    let kept : front ≡ ms = are-marks (c.marks.ensures.kept c.in-Kept.is).0 in let whole = judged _ (kept) c.refused-in-Kept.ensures in record { answers = whole.0; ms_after = whole.1 }
