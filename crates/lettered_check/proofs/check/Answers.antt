-- `lettered_check::check` meets its contract: the marks of digits and letters are judged. Assumes nothing.
use Rattle.refusal.proofs.Laws.{clear_of, behind, exits}
use mathlib.Core.Path.{◌≡◌, sym, ap, ◌∙◌, subst}
use mathlib.Core.List.{List, [], ◌∷◌, ◌++◌}
use Prim.Native.Nat.{ℕ}
use borrow.Author.Rules.{rules}
use lib.ListN.{length, take, replicate}
use Rattle.laws.specs.document.Laid.{laid_over}
use Rattle.laws.specs.Laying.{laid-front}
use Rattle.refusal.specs.document.Table.{Clear, row3}
use Rattle.refusal.specs.Checks.{Check, Answers}
use Rattle.refusal.specs.Laws.{clear_left, others, at_least, at_most}
use Rattle.limits.specs.document.Limits.{size, valence}
use Rattle.digit_code.specs.Digits.{digits}
use Rattle.skeleton.specs.document.Label.{row20}
use Rattle.skeleton.specs.document.Atom.{bonds}
use Rattle.skeleton.specs.document.AtomMarks.{atoms}
use Rattle.form.specs.document.Labelled.{IsCentredₗ, row14ₗ}
use Rattle.lettered_check.specs.document.Lettered.{marks_of, named_digit_rows}
use Rattle.lettered_check.specs.Lettered.{marks-digits, length_marks}
use Rattle.lettered_check.specs.Rows.{lettered_rows, ends_there}
use Rattle.lettered_check.proofs.check.Goals as goal

pub returns-in_err-sized : goal.returns-in_err-sized
returns-in_err-sized c = exits _ c.from_residual.ensures.1 c.in_err-sized.ensures

pub marks-requires : goal.marks-requires
marks-requires c = let sizes : Clear (row3 size (length c.args.ds.now) ∷ []) = clear_of c.in_ok-sized.ensures in record { letters_len = c.requires; ds_in_bounds = at_most (sizes) }

pub slice_bounds-ms-end : goal.slice_bounds-ms-end
slice_bounds-ms-end c = let sizes : Clear (row3 size (length c.args.ds.now) ∷ []) = clear_of c.in_ok-sized.ensures in
    let m = at_most (sizes) in search rules

pub slice_bounds-refused-end : goal.slice_bounds-refused-end
slice_bounds-refused-end c = let front : List ℕ = take (length c.args.ds.now) c.marks.new.out in
    let ms : List ℕ = marks_of c.args.ds.now c.args.letters.now in
    let as_many : (front) ≡ (ms) → length c.args.ds.now ≡ length (front) = λ e. sym (ap length e ∙ length_marks c.args.ds.now c.args.letters.now c.requires) in
    let are-marks : c.marks.new.out ≡ laid_over (ms) (replicate size 0) → (front) ≡ (ms) = λ w. laid-front _ _ _ _ w (length_marks c.args.ds.now c.args.letters.now c.requires) in
    let crowded : front ≡ ms = are-marks (c.marks.ensures.crowded c.in-Crowded.is).0 in
    as_many (crowded)

pub refused-requires : goal.refused-requires
refused-requires c = let front : List ℕ = take (length c.args.ds.now) c.marks.new.out in
    let ms : List ℕ = marks_of c.args.ds.now c.args.letters.now in
    let told : (front) ≡ (ms) → c.args.ds.now ≡ digits atoms.arity (front) = λ e. marks-digits c.args.ds.now c.args.letters.now c.requires ∙ ap (digits atoms.arity) (sym e) in
    let are-marks : c.marks.new.out ≡ laid_over (ms) (replicate size 0) → (front) ≡ (ms) = λ w. laid-front _ _ _ _ w (length_marks c.args.ds.now c.args.letters.now c.requires) in
    let crowded : front ≡ ms = are-marks (c.marks.ensures.crowded c.in-Crowded.is).0 in
    let sizes : Clear (row3 size (length c.args.ds.now) ∷ []) = clear_of c.in_ok-sized.ensures in record { ds_value = told (crowded); ds_len_bound = at_most (sizes) }

pub slice_bounds-ms-end-in-Kept : goal.slice_bounds-ms-end-in-Kept
slice_bounds-ms-end-in-Kept c = let sizes : Clear (row3 size (length c.args.ds.now) ∷ []) = clear_of c.in_ok-sized.ensures in
    let m = at_most (sizes) in search rules

pub slice_bounds-check_marks-end : goal.slice_bounds-check_marks-end
slice_bounds-check_marks-end c = let front : List ℕ = take (length c.args.ds.now) c.marks.new.out in
    let ms : List ℕ = marks_of c.args.ds.now c.args.letters.now in
    let as_many : (front) ≡ (ms) → length c.args.ds.now ≡ length (front) = λ e. sym (ap length e ∙ length_marks c.args.ds.now c.args.letters.now c.requires) in
    let are-marks : c.marks.new.out ≡ laid_over (ms) (replicate size 0) → (front) ≡ (ms) = λ w. laid-front _ _ _ _ w (length_marks c.args.ds.now c.args.letters.now c.requires) in
    let kept : front ≡ ms = are-marks (c.marks.ensures.kept c.in-Kept.is).0 in
    as_many (kept)

pub check_marks-requires : goal.check_marks-requires
check_marks-requires c = let sizes : Clear (row3 size (length c.args.ds.now) ∷ []) = clear_of c.in_ok-sized.ensures in
    let front : List ℕ = take (length c.args.ds.now) c.marks.new.out in
    let ms : List ℕ = marks_of c.args.ds.now c.args.letters.now in
    let told : (front) ≡ (ms) → c.args.ds.now ≡ digits atoms.arity (front) = λ e. marks-digits c.args.ds.now c.args.letters.now c.requires ∙ ap (digits atoms.arity) (sym e) in
    let are-marks : c.marks.new.out ≡ laid_over (ms) (replicate size 0) → (front) ≡ (ms) = λ w. laid-front _ _ _ _ w (length_marks c.args.ds.now c.args.letters.now c.requires) in
    let kept : front ≡ ms = are-marks (c.marks.ensures.kept c.in-Kept.is).0 in
    let k = sizes in record { ds_value = told (kept); in_bounds = at_least k; ds_len_bound = at_most k; clear = subst (λ (l : List ℕ). Clear (row20 atoms bonds l ∷ [])) (sym (kept)) (c.marks.ensures.kept c.in-Kept.is).1 }

pub returns-in-High : goal.returns-in-High
returns-in-High c = let behind : (r : Check) → Answers (lettered_rows valence c.args.ds.now c.args.letters.now) r → Answers (row3 size (length c.args.ds.now) ∷ lettered_rows valence c.args.ds.now c.args.letters.now) r = λ r a. behind c.in_ok-sized.ensures a in
    behind _ (ends_there _ (c.marks.ensures.high c.in-High.is) c.capped.ensures)

pub returns-in-Crowded : goal.returns-in-Crowded
returns-in-Crowded c = let behind : (r : Check) → Answers (lettered_rows valence c.args.ds.now c.args.letters.now) r → Answers (row3 size (length c.args.ds.now) ∷ lettered_rows valence c.args.ds.now c.args.letters.now) r = λ r a. behind c.in_ok-sized.ensures a in
    let ms : List ℕ = marks_of c.args.ds.now c.args.letters.now in
    let front : List ℕ = take (length c.args.ds.now) c.marks.new.out in
    let are-marks : c.marks.new.out ≡ laid_over (ms) (replicate size 0) → (front) ≡ (ms) = λ w. laid-front _ _ _ _ w (length_marks c.args.ds.now c.args.letters.now c.requires) in
    let crowded : front ≡ ms = are-marks (c.marks.ensures.crowded c.in-Crowded.is).0 in
    let n = (c.marks.ensures.crowded c.in-Crowded.is).1 in
    behind _ (ends_there _ (λ k. n (clear_left (row20 atoms bonds (ms) ∷ []) _ (others k))) (subst (λ (l : List ℕ). Answers (named_digit_rows valence c.args.ds.now l) c.refused.result) (crowded) c.refused.ensures))

pub returns-in-Kept : goal.returns-in-Kept
returns-in-Kept c = let behind : (r : Check) → Answers (lettered_rows valence c.args.ds.now c.args.letters.now) r → Answers (row3 size (length c.args.ds.now) ∷ lettered_rows valence c.args.ds.now c.args.letters.now) r = λ r a. behind c.in_ok-sized.ensures a in
    let front : List ℕ = take (length c.args.ds.now) c.marks.new.out in
    let ms : List ℕ = marks_of c.args.ds.now c.args.letters.now in
    let are-marks : c.marks.new.out ≡ laid_over (ms) (replicate size 0) → (front) ≡ (ms) = λ w. laid-front _ _ _ _ w (length_marks c.args.ds.now c.args.letters.now c.requires) in
    let kept : front ≡ ms = are-marks (c.marks.ensures.kept c.in-Kept.is).0 in
    behind _ (subst (λ (l : List ℕ). Answers (named_digit_rows valence c.args.ds.now l ++ (row14ₗ atoms (IsCentredₗ atoms) l ∷ [])) c.check_marks.result) (kept) c.check_marks.ensures)
