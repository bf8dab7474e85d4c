-- `named::codes::n_tuple_code` keeps its promise. Assumes nothing.
use Rattle.refusal.proofs.Giving.{reported_exit}
use Rattle.refusal.proofs.Laws.{clear_of, refusal_of}
use mathlib.Core.Path.{◌≡◌, refl}
use mathlib.Core.List.{List}
use Prim.Native.Nat.{ℕ}
use lib.ListN.{length}
use Rattle.refusal.specs.document.Table.{Clear}
use Rattle.refusal.specs.Both.{both_first}
use Rattle.refusal.specs.Giving.{written-room, written_length}
use Rattle.limits.specs.document.Limits.{size, valence}
use Rattle.skeleton.specs.document.Atom.{atom_at}
use Rattle.skeleton.specs.document.AtomMarks.{atoms}
use Rattle.form.specs.document.Labelled.{IsNTupleₗ}
use Rattle.form.specs.Labelled.{n_tuple_formₗ, form_sizeₗ}
use Rattle.edge_list.specs.document.Letters.{letter_rows}
use Rattle.named.specs.Accepted.{few, tree_of}
use Rattle.named.proofs.Spelling.{spelled, written_right}
use Rattle.named.proofs.codes.n_tuple_code.Goals as goal

pub returns-in_err-check_letters : goal.returns-in_err-check_letters
returns-in_err-check_letters c = reported_exit _ c.from_residual.result c.from_residual.ensures.1 (both_first (refusal_of c.in_err-check_letters.ensures) refl)

pub n_tuple-pairs-requires : goal.n_tuple-pairs-requires
n_tuple-pairs-requires c = let clear : Clear (letter_rows size valence c.args.n c.args.edges.now 1 c.args.letters.now) = clear_of c.in_ok-check_letters.ensures in record { clear = clear; n_in_bounds = few c.args.n c.args.edges.now 1 c.args.letters.now (clear) }

pub slice_bounds-marks-end : goal.slice_bounds-marks-end
slice_bounds-marks-end c = written-room c.n_tuple-pairs.ensures.writes

pub slice_bounds-spell-end : goal.slice_bounds-spell-end
slice_bounds-spell-end c = written_length c.n_tuple-pairs.ensures.writes

pub returns-in_err-value : goal.returns-in_err-value
returns-in_err-value c = let clear : Clear (letter_rows size valence c.args.n c.args.edges.now 1 c.args.letters.now) = clear_of c.in_ok-check_letters.ensures in
    let sized : (code : List ℕ) → IsNTupleₗ atoms c.args.n c.args.edges.now (atom_at c.args.letters.now) code → length code ≡ c.args.n = λ code x. let a = c.args in
    form_sizeₗ atoms (IsNTupleₗ atoms) (n_tuple_formₗ atoms) a.n a.edges.now (atom_at a.letters.now) code (tree_of a.n a.edges.now 1 a.letters.now (clear)) x in
    reported_exit _ c.from_residual-in_err-value.result c.from_residual-in_err-value.ensures.1
    (spelled (clear) (sized) (written_right c.n_tuple-pairs.ensures.writes) c.in_err-value.ensures)

pub returns : goal.returns
returns c = let clear : Clear (letter_rows size valence c.args.n c.args.edges.now 1 c.args.letters.now) = clear_of c.in_ok-check_letters.ensures in
    let sized : (code : List ℕ) → IsNTupleₗ atoms c.args.n c.args.edges.now (atom_at c.args.letters.now) code → length code ≡ c.args.n = λ code x. let a = c.args in
    form_sizeₗ atoms (IsNTupleₗ atoms) (n_tuple_formₗ atoms) a.n a.edges.now (atom_at a.letters.now) code (tree_of a.n a.edges.now 1 a.letters.now (clear)) x in
    record { promised = spelled (clear) (sized) (written_right c.n_tuple-pairs.ensures.writes) c.in_ok-value.ensures; reported = c.n_tuple-pairs.ensures.counts }
