-- `named_lines::write` meets its contract: count, digits and letters, the counts, and the line feed. Assumes nothing.
use native.Mathlib.Omega.{arith}
use borrow.Author.Rules.{rules}
use lib.ListN.{length-set}
use Rattle.named_lines.specs.NamedWriting.{line_long, counts-room, feed-room, line-put}
use Rattle.named_lines.proofs.write.Goals as goal

pub put_front-at-requires : goal.put_front-at-requires
put_front-at-requires c = record { code_len_bound = c.requires.code_len_bound; digits = c.requires.digits; letters_in_bounds = omega (arith, c.requires.letters_in_bounds, line_long c.args.code.now c.args.letters.now) }

pub put_counts-end-requires : goal.put_counts-end-requires
put_counts-end-requires c = let h = counts-room c.args.code.now c.args.letters.now c.args.out.now c.requires.letters_in_bounds c.put_front-at.ensures in record { letters_len_bound = omega (arith, c.requires.code_len_bound, c.requires.letters_len); letters_in_bounds = omega arith }

pub bounds-out-end : goal.bounds-out-end
bounds-out-end c = let h = feed-room c.args.code.now c.args.letters.now c.args.out.now c.requires.letters_in_bounds c.put_front-at.ensures c.put_counts-end.ensures in omega arith

pub overflow_add-result : goal.overflow_add-result
overflow_add-result c = let h = feed-room c.args.code.now c.args.letters.now c.args.out.now c.requires.letters_in_bounds c.put_front-at.ensures c.put_counts-end.ensures in search rules

pub shape_of-out : goal.shape_of-out
shape_of-out c = let h = feed-room c.args.code.now c.args.letters.now c.args.out.now c.requires.letters_in_bounds c.put_front-at.ensures c.put_counts-end.ensures in simp length-set h.1

pub returns : goal.returns
returns c = line-put c.args.code.now c.args.letters.now c.args.out.now c.requires.letters_in_bounds c.put_front-at.ensures c.put_counts-end.ensures
