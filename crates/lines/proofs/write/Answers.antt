-- `lines::write` meets its contract: the count, the space, the digits and the line feed. Assumes nothing.
use native.Mathlib.Omega.{arith}
use lib.ListN.{length-set}
use Rattle.lines.specs.Plain.{length_line}
use Rattle.lines.proofs.Writing.{sizes, room-behind, long_joined, long_written, line-written}
use Rattle.lines.proofs.write.Goals as goal

pub write_count-at-requires : goal.write_count-at-requires
write_count-at-requires c = record { few = c.requires.few; room = omega (arith, c.requires.room, length_line c.args.code.now) }

pub bounds-out-at : goal.bounds-out-at
bounds-out-at c = let h = sizes c.args.code.now c.args.out.now c.requires.room c.write_count-at.ensures in omega arith

pub overflow_add-at : goal.overflow_add-at
overflow_add-at c = let h = sizes c.args.code.now c.args.out.now c.requires.room c.write_count-at.ensures in omega (arith, c.well_formed)

pub slice_bounds-write_digits-count : goal.slice_bounds-write_digits-count
slice_bounds-write_digits-count c = let h = sizes c.args.code.now c.args.out.now c.requires.room c.write_count-at.ensures in simp length-set (omega arith)

pub slice_bounds-write_digits-start : goal.slice_bounds-write_digits-start
slice_bounds-write_digits-start c = let h = sizes c.args.code.now c.args.out.now c.requires.room c.write_count-at.ensures in simp length-set (omega arith)

pub write_digits-requires : goal.write_digits-requires
write_digits-requires c = record { digits = c.requires.digits; room = room-behind _ _ c.requires.room c.write_count-at.ensures }

pub overflow_add-out : goal.overflow_add-out
overflow_add-out c = let h = sizes c.args.code.now c.args.out.now c.requires.room c.write_count-at.ensures in omega (arith, c.well_formed)

pub overflow_add-out-2 : goal.overflow_add-out-2
overflow_add-out-2 c = let h = sizes c.args.code.now c.args.out.now c.requires.room c.write_count-at.ensures in omega (arith, c.well_formed)

pub bounds-out-at-2 : goal.bounds-out-at-2
bounds-out-at-2 c = let h = sizes c.args.code.now c.args.out.now c.requires.room c.write_count-at.ensures in
    omega (arith, long_joined _ _ c.requires.room c.write_count-at.ensures c.write_digits.ensures)

pub overflow_add-result : goal.overflow_add-result
overflow_add-result c = let h = sizes c.args.code.now c.args.out.now c.requires.room c.write_count-at.ensures in omega (arith, c.well_formed)

pub overflow_add-result-2 : goal.overflow_add-result-2
overflow_add-result-2 c = let h = sizes c.args.code.now c.args.out.now c.requires.room c.write_count-at.ensures in omega (arith, c.well_formed)

pub shape_of-out : goal.shape_of-out
shape_of-out c = long_written _ _ c.requires.room c.write_count-at.ensures c.write_digits.ensures _ _

pub returns : goal.returns
returns c = line-written _ _ c.requires.room c.write_count-at.ensures c.write_digits.ensures
