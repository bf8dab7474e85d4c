-- `named::alike::equal_vertices` keeps its promise. Assumes nothing.
use Rattle.refusal.proofs.Giving.{reported_exit}
use Rattle.refusal.proofs.Laws.{clear_of, refusal_of}
use mathlib.Core.Path.{refl}
use Rattle.refusal.specs.document.Table.{Clear}
use Rattle.refusal.specs.Giving.{refused-first, written-room, written_length}
use Rattle.limits.specs.document.Limits.{size, valence}
use Rattle.edge_list.specs.document.Letters.{letter_rows}
use Rattle.named.specs.Accepted.{few}
use Rattle.named.proofs.Spelling.{written_right}
use Rattle.named.specs.Centred.{few_marks}
use Rattle.named.proofs.Classing.{rooted-code, has_classes, classes-given}
use Rattle.named.proofs.alike.equal_vertices.Goals as goal

pub returns-in_err-check_letters : goal.returns-in_err-check_letters
returns-in_err-check_letters c = reported_exit _ c.from_residual.result c.from_residual.ensures.1 (refused-first (refusal_of c.in_err-check_letters.ensures) refl)

pub centred-pairs-requires : goal.centred-pairs-requires
centred-pairs-requires c = let clear : Clear (letter_rows size valence c.args.n c.args.edges.now 1 c.args.letters.now) = clear_of c.in_ok-check_letters.ensures in record { clear = clear; n_in_bounds = few c.args.n c.args.edges.now 1 c.args.letters.now (clear) }

pub slice_bounds-marks-end : goal.slice_bounds-marks-end
slice_bounds-marks-end c = written-room c.centred-pairs.ensures.writes

pub slice_bounds-classed-end : goal.slice_bounds-classed-end
slice_bounds-classed-end c = written_length c.centred-pairs.ensures.writes

pub classed-requires : goal.classed-requires
classed-requires c = let clear : Clear (letter_rows size valence c.args.n c.args.edges.now 1 c.args.letters.now) = clear_of c.in_ok-check_letters.ensures in
    let x = written_right c.centred-pairs.ensures.writes in record { marks_len_bound = (few_marks c.args.n c.args.edges.now c.args.letters.now (clear) _ x, rooted-code c.args.n c.args.edges.now c.args.letters.now (clear) _ x); fact = has_classes c.args.n c.args.edges.now c.args.letters.now (clear) _ x }

pub returns-in_err-value : goal.returns-in_err-value
returns-in_err-value c = let clear : Clear (letter_rows size valence c.args.n c.args.edges.now 1 c.args.letters.now) = clear_of c.in_ok-check_letters.ensures in
    reported_exit _ c.from_residual-in_err-value.result c.from_residual-in_err-value.ensures.1
    (classes-given c.args.n c.args.edges.now c.args.letters.now (clear) _ (written_right c.centred-pairs.ensures.writes) c.in_err-value.ensures)

pub returns : goal.returns
returns c = let clear : Clear (letter_rows size valence c.args.n c.args.edges.now 1 c.args.letters.now) = clear_of c.in_ok-check_letters.ensures in
    record { promised = classes-given c.args.n c.args.edges.now c.args.letters.now (clear) _ (written_right c.centred-pairs.ensures.writes) c.in_ok-value.ensures; reported = c.centred-pairs.ensures.counts }
