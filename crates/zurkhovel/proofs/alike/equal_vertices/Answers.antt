-- `zurkhovel::alike::equal_vertices` keeps its promise. Assumes nothing.
use Rattle.refusal.proofs.Giving.{reported_exit, reported_short}
use Rattle.refusal.proofs.Laws.{clear_of, refusal_of, room_of}
use mathlib.Core.Path.{refl, sym, ◌∙◌}
use native.Mathlib.Omega.{arith}
use lib.ListN.{replicate}
use lib.Seq.{length-take-le}
use Rattle.refusal.specs.document.Table.{Clear, Writes}
use Rattle.refusal.specs.Giving.{refused-first, written_length}
use Rattle.limits.specs.document.Limits.{size}
use Rattle.limits.specs.Width.{width}
use Rattle.skeleton.specs.document.Skeleton.{IsSkeleton}
use Rattle.zurkhovel.specs.document.InEdition.{edge_table}
use Rattle.skeleton.specs.document.AtomMarks.{atoms}
use Rattle.skeleton.specs.Carbon.{carbon}
use Rattle.letters.specs.Named.{carbon-named}
use Rattle.form.specs.document.Labelled.{IsCentredₗ}
use Rattle.form.specs.Labelled.{centred_formₗ, is_rootedₗ}
use Rattle.form_coder.specs.Sums.{middles-carbon}
use Rattle.orbits.specs.document.Carried.{ClassesOf}
use Rattle.orbits.specs.Classes.{classes}
use Rattle.orbits.proofs.Theorems.{classes_of, carbon-classes}
use Rattle.zurkhovel.specs.Accepted.{table_of}
use Rattle.zurkhovel.proofs.Derived.{code_right, of_short, of_given}
use Rattle.zurkhovel.proofs.alike.equal_vertices.Goals as goal

pub returns-in_err-edges : goal.returns-in_err-edges
returns-in_err-edges c = reported_exit _ c.from_residual.result c.from_residual.ensures.1 (refused-first (refusal_of c.in_err-edges.ensures) refl)

pub returns-in_err-fits : goal.returns-in_err-fits
returns-in_err-fits c = let clear : Clear (edge_table c.args.edition size c.args.n c.args.edges.now 1) = clear_of c.in_ok-edges.ensures in
    let accepted : IsSkeleton size width c.args.n c.args.edges.now = table_of (clear) in
    reported_short c.from_residual-in_err-fits.result c.from_residual-in_err-fits.ensures.1 c.in_err-fits.ensures (λ l. of_short c.args.n c.args.edges.now (clear) ClassesOf c.args.n (λ x l e k. k.count ∙ e) (λ x z. (classes x, classes_of c.args.n c.args.edges.now x accepted.tree z)) l refl)

pub centred_marks-pairs-requires : goal.centred_marks-pairs-requires
centred_marks-pairs-requires c = let clear : Clear (edge_table c.args.edition size c.args.n c.args.edges.now 1) = clear_of c.in_ok-edges.ensures in
    let accepted : IsSkeleton size width c.args.n c.args.edges.now = table_of (clear) in
    let h = accepted.few in record { skeleton = (accepted, record { label = carbon; named = carbon-named _ h }); n_in_bounds = (h, h) }

pub slice_bounds-ds-end : goal.slice_bounds-ds-end
slice_bounds-ds-end c = let clear : Clear (edge_table c.args.edition size c.args.n c.args.edges.now 1) = clear_of c.in_ok-edges.ensures in
    let accepted : IsSkeleton size width c.args.n c.args.edges.now = table_of (clear) in
    omega (arith, accepted.few)

pub slice_bounds-write_classes-end : goal.slice_bounds-write_classes-end
slice_bounds-write_classes-end c = let clear : Clear (edge_table c.args.edition size c.args.n c.args.edges.now 1) = clear_of c.in_ok-edges.ensures in
    let accepted : IsSkeleton size width c.args.n c.args.edges.now = table_of (clear) in
    sym (length-take-le _ _ (omega (arith, accepted.few)))

pub slice_bounds-marks-end : goal.slice_bounds-marks-end
slice_bounds-marks-end c = let clear : Clear (edge_table c.args.edition size c.args.n c.args.edges.now 1) = clear_of c.in_ok-edges.ensures in
    let accepted : IsSkeleton size width c.args.n c.args.edges.now = table_of (clear) in
    omega (arith, accepted.few)

pub slice_bounds-write_classes-end-2 : goal.slice_bounds-write_classes-end-2
slice_bounds-write_classes-end-2 c = let clear : Clear (edge_table c.args.edition size c.args.n c.args.edges.now 1) = clear_of c.in_ok-edges.ensures in
    let accepted : IsSkeleton size width c.args.n c.args.edges.now = table_of (clear) in
    let marks : Writes (IsCentredₗ atoms c.args.n c.args.edges.now carbon) (replicate size 0) c.args.n c.centred_marks-pairs.new.out = (c.centred_marks-pairs.ensures.by_index carbon (carbon-named _ accepted.few)).0 in
    written_length (marks)

pub write_classes-requires : goal.write_classes-requires
write_classes-requires c = let clear : Clear (edge_table c.args.edition size c.args.n c.args.edges.now 1) = clear_of c.in_ok-edges.ensures in
    let accepted : IsSkeleton size width c.args.n c.args.edges.now = table_of (clear) in
    let marks : Writes (IsCentredₗ atoms c.args.n c.args.edges.now carbon) (replicate size 0) c.args.n c.centred_marks-pairs.new.out = (c.centred_marks-pairs.ensures.by_index carbon (carbon-named _ accepted.few)).0 in
    let s = accepted in
    let long = written_length (marks) in record { ds_value = c.centred_marks-pairs.ensures.ds_after; fact = is_rootedₗ atoms (IsCentredₗ atoms) (centred_formₗ atoms) _ _ carbon _ s.tree (code_right (marks)); code_len_bound = omega (arith, long, s.few); code_in_bounds = omega (arith, long, (room_of c.in_ok-fits.ensures)) }

pub returns : goal.returns
returns c = let clear : Clear (edge_table c.args.edition size c.args.n c.args.edges.now 1) = clear_of c.in_ok-edges.ensures in
    let accepted : IsSkeleton size width c.args.n c.args.edges.now = table_of (clear) in
    let marks : Writes (IsCentredₗ atoms c.args.n c.args.edges.now carbon) (replicate size 0) c.args.n c.centred_marks-pairs.new.out = (c.centred_marks-pairs.ensures.by_index carbon (carbon-named _ accepted.few)).0 in
    let t = accepted in
    record {
      promised = of_given c.args.n c.args.edges.now (clear) ClassesOf c.args.n (λ x l e k. k.count ∙ e) (room_of c.in_ok-fits.ensures)
          (carbon-classes c.args.n c.args.edges.now _ t.tree (code_right (marks))) (rw c.centred_marks-pairs.ensures.ds_after at c.write_classes.ensures);
      reported = middles-carbon t.tree (c.centred_marks-pairs.ensures.by_index carbon (carbon-named _ t.few)).1;
    }
