-- `named::codes::check_n_tuple` meets its contract. Assumes nothing.
use mathlib.Core.Path.{◌≡◌, sym, ap, ◌∙◌, subst}
use mathlib.Core.List.{List, [], ◌∷◌}
use Prim.Native.Nat.{ℕ}
use borrow.Author.Rules.{rules}
use lib.ListN.{length, take}
use Rattle.refusal.specs.document.Table.{Clear}
use Rattle.refusal.specs.Checks.{Answers}
use Rattle.refusal.proofs.Laws.{clear_of, behind, exits}
use Rattle.limits.specs.document.Limits.{size, valence}
use Rattle.limits.specs.Width.{width}
use Rattle.digit_code.specs.document.Code.{decode}
use Rattle.skeleton.specs.document.Skeleton.{IsSkeleton}
use Rattle.skeleton.specs.document.Label.{digits}
use Rattle.skeleton.specs.document.AtomMarks.{atoms}
use Rattle.form.specs.document.Labelled.{IsNTupleₗ, row14ₗ}
use Rattle.lettered_check.specs.document.Lettered.{marks_of, lettered_code_rows}
use Rattle.named.specs.Accepted.{whole_of}
use Rattle.named.specs.Decoded.{marks_many, told-digits, marks-skeleton}
use Rattle.named.proofs.codes.check_n_tuple.Goals as goal

-- of the marks, in whatever list they stand
module _ (ds ls : List ℕ) (k : Clear (lettered_code_rows size valence ds ls)) {c : List ℕ} (e : c ≡ marks_of ds ls) where
  digits-told : ds ≡ digits atoms c
  digits-told = told-digits ds ls k ∙ ap (digits atoms) (sym e)

  decodes : IsSkeleton size width (length c) (decode ds)
  decodes = subst (λ (x : List ℕ). IsSkeleton size width (length x) (decode ds)) (sym e) (marks-skeleton ds ls k)

pub returns-in_err-check_rooted : goal.returns-in_err-check_rooted
returns-in_err-check_rooted c = exits _ c.from_residual.ensures.1 c.in_err-check_rooted.ensures.answers

pub slice_bounds-marks-end : goal.slice_bounds-marks-end
slice_bounds-marks-end c = let clear : Clear (lettered_code_rows size valence c.args.code.now c.args.letters.now) = clear_of c.in_ok-check_rooted.ensures.answers in
    let h = (whole_of c.args.code.now c.args.letters.now (clear)).1 in search rules

pub slice_bounds-n_tuple_judged-end : goal.slice_bounds-n_tuple_judged-end
slice_bounds-n_tuple_judged-end c = let Marks : Type 0 = take (length c.args.code.now) c.check_rooted.new.ms ≡ marks_of c.args.code.now c.args.letters.now in
    let are-marks : Marks = c.in_ok-check_rooted.ensures.ms_after in
    let clear : Clear (lettered_code_rows size valence c.args.code.now c.args.letters.now) = clear_of c.in_ok-check_rooted.ensures.answers in
    sym (ap length (are-marks) ∙ marks_many c.args.code.now c.args.letters.now (clear))

pub n_tuple_judged-requires : goal.n_tuple_judged-requires
n_tuple_judged-requires c = let clear : Clear (lettered_code_rows size valence c.args.code.now c.args.letters.now) = clear_of c.in_ok-check_rooted.ensures.answers in
    let Marks : Type 0 = take (length c.args.code.now) c.check_rooted.new.ms ≡ marks_of c.args.code.now c.args.letters.now in
    let are-marks : Marks = c.in_ok-check_rooted.ensures.ms_after in
    let ds = c.args.code.now in
    let ls = c.args.letters.now in record { ds_value = digits-told ds ls (clear) (are-marks); ends = ((whole_of ds ls (clear)).0, decodes ds ls (clear) (are-marks)) }

pub returns : goal.returns
returns c = let Marks : Type 0 = take (length c.args.code.now) c.check_rooted.new.ms ≡ marks_of c.args.code.now c.args.letters.now in
    let are-marks : Marks = c.in_ok-check_rooted.ensures.ms_after in
    behind c.in_ok-check_rooted.ensures.answers
    (subst (λ (x : List ℕ). Answers (row14ₗ atoms (IsNTupleₗ atoms) x ∷ []) c.n_tuple_judged.result) (are-marks) c.n_tuple_judged.ensures)
