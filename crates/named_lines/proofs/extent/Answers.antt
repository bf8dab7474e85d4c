-- `named_lines::extent` meets its contract. Assumes nothing.
use mathlib.Core.List.{List}
use Prim.Native.Nat.{ℕ, ◌≤◌}
use native.Mathlib.Omega.{arith}
use borrow.Author.Rules.{rules}
use mathlib.Core.Path.{◌≡◌, refl}
use lib.ListN.{length}
use Rattle.lines.specs.document.Line.{line}
use Rattle.lines.specs.Plain.{line-short}
use Rattle.named_lines.specs.NamedWriting.{counts_long, line_long}
use Rattle.named_lines.proofs.extent.Goals as goal

-- a plain line is short
short : (ls : List ℕ) {n : ℕ} → length ls ≤ 99 → ((c : List ℕ) → length c ≡ length ls → length (line c) ≡ n) → n ≤ 103
short ls h e = omega (arith, h, e ls refl, line-short ls h)

pub overflow_add-result : goal.overflow_add-result
overflow_add-result c = let h = short c.args.letters.now c.requires c.extent.ensures in search rules

pub overflow_add-result-2 : goal.overflow_add-result-2
overflow_add-result-2 c = let h = short c.args.letters.now c.requires c.extent.ensures in search rules

pub overflow_add-result-3 : goal.overflow_add-result-3
overflow_add-result-3 c = let h = short c.args.letters.now c.requires c.extent.ensures in search rules

pub overflow_add-result-4 : goal.overflow_add-result-4
overflow_add-result-4 c = let h = short c.args.letters.now c.requires c.extent.ensures in search rules

pub overflow_add-result-5 : goal.overflow_add-result-5
overflow_add-result-5 c = let h = short c.args.letters.now c.requires c.extent.ensures in search rules

pub returns : goal.returns
returns c d e = let ls = c.args.letters.now in
    omega (arith, line_long d ls, counts_long ls, c.extent.ensures d e)
