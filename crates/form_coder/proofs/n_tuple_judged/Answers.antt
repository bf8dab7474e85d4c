-- `form_coder::n_tuple_judged` meets its contract. Assumes nothing.
use mathlib.Core.List.{List}
use Prim.Native.Nat.{ℕ}
use lib.ListN.{length, take, replicate}
use Rattle.laws.specs.Equal.{was_equal, was_apart}
use Rattle.refusal.specs.document.Table.{Writes}
use Rattle.refusal.specs.Giving.{written_length}
use Rattle.limits.specs.document.Limits.{size}
use Rattle.skeleton.specs.document.Label.{labels}
use Rattle.skeleton.specs.document.AtomMarks.{atoms}
use Rattle.form.specs.document.Labelled.{IsNTupleₗ}
use Rattle.form.specs.Labelled.{n_tuple_formₗ}
use Rattle.form_coder.proofs.Again.{digits_few, edges_fit, skeleton_again, front_length, judged-same, judged-other}
use Rattle.form_coder.proofs.n_tuple_judged.Goals as goal

pub write_edges-m-requires : goal.write_edges-m-requires
write_edges-m-requires c = record { ends = c.requires.ends.0; code_len_bound = digits_few c.args.code.now c.args.ds.now c.requires.ds_value c.requires.ends; code_in_bounds = edges_fit c.args.code.now c.args.ds.now c.requires.ds_value c.requires.ends }

pub slice_bounds-n_tuple_marks-end : goal.slice_bounds-n_tuple_marks-end
slice_bounds-n_tuple_marks-end c = front_length c.args.code.now c.args.ds.now c.requires.ds_value c.requires.ends c.write_edges-m.ensures

pub n_tuple_marks-requires : goal.n_tuple_marks-requires
n_tuple_marks-requires c = let x = skeleton_again c.args.code.now c.args.ds.now c.requires.ds_value c.requires.ends c.write_edges-m.ensures in record { skeleton = (x, record { label = labels atoms c.args.code.now; named = c.read_atoms.ensures }); n_in_bounds = x.few }

pub slice_bounds-ne-end : goal.slice_bounds-ne-end
slice_bounds-ne-end c = let own : let c' : List ℕ = c.args.code.now in Writes (IsNTupleₗ atoms (length c') (take c.write_edges-m.result c.write_edges-m.new.out) (labels atoms c')) (replicate size 0) (length c') c.n_tuple_marks.new.out = (c.n_tuple_marks.ensures (labels atoms c.args.code.now) c.read_atoms.ensures).0 in
    written_length (own)

pub returns-then-ne : goal.returns-then-ne
returns-then-ne c = let own : let c' : List ℕ = c.args.code.now in Writes (IsNTupleₗ atoms (length c') (take c.write_edges-m.result c.write_edges-m.new.out) (labels atoms c')) (replicate size 0) (length c') c.n_tuple_marks.new.out = (c.n_tuple_marks.ensures (labels atoms c.args.code.now) c.read_atoms.ensures).0 in
    judged-other c.args.code.now c.args.ds.now c.requires.ds_value c.requires.ends c.write_edges-m.ensures (IsNTupleₗ atoms) (n_tuple_formₗ atoms) (own) (was_apart c.ne.result c.ne.ensures c.if-ne.true)

pub returns : goal.returns
returns c = let own : let c' : List ℕ = c.args.code.now in Writes (IsNTupleₗ atoms (length c') (take c.write_edges-m.result c.write_edges-m.new.out) (labels atoms c')) (replicate size 0) (length c') c.n_tuple_marks.new.out = (c.n_tuple_marks.ensures (labels atoms c.args.code.now) c.read_atoms.ensures).0 in
    judged-same c.args.code.now c.args.ds.now c.requires.ds_value c.requires.ends c.write_edges-m.ensures (IsNTupleₗ atoms) (n_tuple_formₗ atoms) (own) (was_equal c.ne.result c.ne.ensures c.if-ne.false)
