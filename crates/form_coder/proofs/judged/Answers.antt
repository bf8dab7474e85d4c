-- `form_coder::judged` meets its contract. Assumes nothing.
use native.Mathlib.Omega.{arith}
use borrow.Author.Rules.{rules}
use Rattle.form_coder.proofs.Again.{marks_long, marks-digits, marks_length, marks-judged}
use Rattle.form_coder.proofs.judged.Goals as goal

pub write_marks-requires : goal.write_marks-requires
write_marks-requires c = record { ds_len_bound = search rules; by_index = search rules }

pub slice_bounds-marks-end : goal.slice_bounds-marks-end
slice_bounds-marks-end c = omega (arith, marks_long c.args.code.now c.requires.ends.1.few c.write_marks.ensures, c.requires.ends.1.few)

pub slice_bounds-n_tuple_judged-end : goal.slice_bounds-n_tuple_judged-end
slice_bounds-n_tuple_judged-end c = marks_length c.args.code.now c.requires.ends.1.few c.write_marks.ensures

pub n_tuple_judged-requires : goal.n_tuple_judged-requires
n_tuple_judged-requires c = let (e, k) = c.requires.ends in record { ds_value = marks-digits c.args.code.now k.few c.write_marks.ensures; ends = (e, rw (← (marks_length c.args.code.now k.few c.write_marks.ensures)) k) }

pub returns : goal.returns
returns c = marks-judged c.args.code.now c.requires.ends.1.few c.write_marks.ensures c.n_tuple_judged.ensures
