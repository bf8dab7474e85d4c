-- `named_lines::put_front` meets its contract: the plain line, a space for its line feed, and the letters. Assumes nothing.
use native.Mathlib.Omega.{arith}
use lib.ListN.{length-set, length-take, length-drop}
use Rattle.named_lines.specs.NamedWriting.{plain-put, front-put, laid_long, opened_long}
use Rattle.named_lines.proofs.put_front.Goals as goal

pub overflow_sub-out : goal.overflow_sub-out
overflow_sub-out c = let h = plain-put c.args.code.now c.args.letters.now c.args.out.now c.requires.letters_in_bounds c.write-at.ensures in omega arith

pub bounds-out-at : goal.bounds-out-at
bounds-out-at c = let h = plain-put c.args.code.now c.args.letters.now c.args.out.now c.requires.letters_in_bounds c.write-at.ensures in omega arith

pub slice_bounds-lay-count : goal.slice_bounds-lay-count
slice_bounds-lay-count c = let h = plain-put c.args.code.now c.args.letters.now c.args.out.now c.requires.letters_in_bounds c.write-at.ensures in simp length-set (omega arith)

pub slice_bounds-lay-start : goal.slice_bounds-lay-start
slice_bounds-lay-start c = let h = plain-put c.args.code.now c.args.letters.now c.args.out.now c.requires.letters_in_bounds c.write-at.ensures in simp length-set (omega arith)

pub lay-requires : goal.lay-requires
lay-requires c = let h = plain-put c.args.code.now c.args.letters.now c.args.out.now c.requires.letters_in_bounds c.write-at.ensures in simp (length-take, length-drop, length-set) (omega arith)

pub shape_of-out : goal.shape_of-out
shape_of-out c = laid_long ((front-put c.args.code.now c.args.letters.now c.args.out.now c.requires.letters_in_bounds c.write-at.ensures c.lay.ensures)) (omega (arith, c.requires.letters_in_bounds, opened_long c.args.code.now c.args.letters.now))

pub returns : goal.returns
returns c = front-put c.args.code.now c.args.letters.now c.args.out.now c.requires.letters_in_bounds c.write-at.ensures c.lay.ensures
