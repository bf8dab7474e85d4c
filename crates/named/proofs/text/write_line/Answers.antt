-- `named::text::write_line` keeps its promise. Assumes nothing.
use Rattle.refusal.proofs.Giving.{reported_exit}
use Rattle.refusal.proofs.Laws.{clear_of, refusal_of}
use mathlib.Core.Path.{refl}
use Rattle.refusal.specs.document.Table.{Clear}
use Rattle.refusal.specs.Giving.{refused-first, written-room, written_length}
use Rattle.limits.specs.document.Limits.{size, valence}
use Rattle.edge_list.specs.document.Letters.{letter_rows}
use Rattle.named.specs.Accepted.{few}
use Rattle.named.proofs.Spelling.{written_right}
use Rattle.named.specs.Centred.{small-digits, few_marks}
use Rattle.named.proofs.Lining.{lined}
use Rattle.named.proofs.text.write_line.Goals as goal

pub returns-in_err-check_letters : goal.returns-in_err-check_letters
returns-in_err-check_letters c = reported_exit _ c.from_residual.result c.from_residual.ensures.1 (refused-first (refusal_of c.in_err-check_letters.ensures) refl)

pub centred-pairs-requires : goal.centred-pairs-requires
centred-pairs-requires c = let clear : Clear (letter_rows size valence c.args.n c.args.edges.now 1 c.args.letters.now) = clear_of c.in_ok-check_letters.ensures in record { clear = clear; n_in_bounds = few c.args.n c.args.edges.now 1 c.args.letters.now (clear) }

pub slice_bounds-marks-end : goal.slice_bounds-marks-end
slice_bounds-marks-end c = written-room c.centred-pairs.ensures.writes

pub slice_bounds-line-end : goal.slice_bounds-line-end
slice_bounds-line-end c = written_length c.centred-pairs.ensures.writes

pub line-requires : goal.line-requires
line-requires c = let clear : Clear (letter_rows size valence c.args.n c.args.edges.now 1 c.args.letters.now) = clear_of c.in_ok-check_letters.ensures in
    let x = written_right c.centred-pairs.ensures.writes in record { marks_len_bound = few_marks c.args.n c.args.edges.now c.args.letters.now (clear) _ x; digits = small-digits c.args.n c.args.edges.now c.args.letters.now (clear) _ x }

pub returns-in_err-value : goal.returns-in_err-value
returns-in_err-value c = let clear : Clear (letter_rows size valence c.args.n c.args.edges.now 1 c.args.letters.now) = clear_of c.in_ok-check_letters.ensures in
    reported_exit _ c.from_residual-in_err-value.result c.from_residual-in_err-value.ensures.1
    (lined c.args.n c.args.edges.now c.args.letters.now (clear) _ (written_right c.centred-pairs.ensures.writes) c.in_err-value.ensures)

pub returns : goal.returns
returns c = let clear : Clear (letter_rows size valence c.args.n c.args.edges.now 1 c.args.letters.now) = clear_of c.in_ok-check_letters.ensures in
    record { promised = lined c.args.n c.args.edges.now c.args.letters.now (clear) _ (written_right c.centred-pairs.ensures.writes) c.in_ok-value.ensures; reported = c.centred-pairs.ensures.counts }
