-- `named_lines::put_count` meets its contract: a space, and the count behind it. Assumes nothing.
use mathlib.Core.Path.{◌≡◌, ap}
use mathlib.Core.List.{List}
use Prim.Native.Nat.{ℕ, ◌+◌, ◌≤◌}
use native.Mathlib.Omega.{arith}
use borrow.Author.Rules.{rules}
use lib.ListN.{length, length-set, length-take, length-drop}
use Rattle.texts.specs.document.Numerals.{decimal}
use Rattle.texts.specs.document.Parts.{tally}
use Rattle.named_lines.specs.Finding.{tally_most}
use Rattle.named_lines.specs.NamedWriting.{count, count_long, count-put, appends_long}
use Rattle.named_lines.proofs.put_count.Goals as goal

-- there is room for the space and the count behind it
room_in : (a : ℕ) (ls out : List ℕ) (at : ℕ) {n : ℕ} → n ≡ tally a ls → at + length (count a ls) ≤ length out → at + 1 + length (decimal n) ≤ length out
room_in a ls out at e h = omega (arith, h, count_long a ls, ap (λ (n : ℕ). length (decimal n)) e)

pub bounds-out-at : goal.bounds-out-at
bounds-out-at c = let h = room_in c.args.a c.args.letters.now c.args.out.now c.args.at c.tallied-n.ensures c.requires.letters_in_bounds in omega arith

pub slice_bounds-write_count-count : goal.slice_bounds-write_count-count
slice_bounds-write_count-count c = let h = room_in c.args.a c.args.letters.now c.args.out.now c.args.at c.tallied-n.ensures c.requires.letters_in_bounds in simp length-set (omega arith)

pub slice_bounds-write_count-start : goal.slice_bounds-write_count-start
slice_bounds-write_count-start c = let h = room_in c.args.a c.args.letters.now c.args.out.now c.args.at c.tallied-n.ensures c.requires.letters_in_bounds in simp length-set (omega arith)

pub write_count-m-requires : goal.write_count-m-requires
write_count-m-requires c = let h = room_in c.args.a c.args.letters.now c.args.out.now c.args.at c.tallied-n.ensures c.requires.letters_in_bounds in record { few = omega (arith, c.requires.letters_len_bound, c.tallied-n.ensures, tally_most c.args.a c.args.letters.now); room = simp (length-take, length-drop, length-set) (omega arith) }

pub overflow_add-result-2 : goal.overflow_add-result-2
overflow_add-result-2 c = let h = room_in c.args.a c.args.letters.now c.args.out.now c.args.at c.tallied-n.ensures c.requires.letters_in_bounds in search rules

pub shape_of-out : goal.shape_of-out
shape_of-out c = appends_long ((count-put c.args.a c.args.letters.now c.tallied-n.ensures c.args.out.now c.args.at c.write_count-m.ensures)) c.requires.letters_in_bounds

pub returns : goal.returns
returns c = count-put c.args.a c.args.letters.now c.tallied-n.ensures c.args.out.now c.args.at c.write_count-m.ensures
