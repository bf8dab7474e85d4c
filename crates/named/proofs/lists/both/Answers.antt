-- `named::lists::both` meets its contract. Assumes nothing.
use Rattle.refusal.proofs.Laws.{clear_of, refusal_of}
use mathlib.Core.List.{List, []}
use Rattle.refusal.specs.Checks.{both_pass, one_fails}
use Rattle.refusal.specs.Lists.{lists_clear}
use Rattle.refusal.proofs.WhichList.{lists-first, lists-second}
use Rattle.refusal.specs.document.Table.{Row}
use Rattle.named.specs.document.Same.{named_list_rows}
use Rattle.named.specs.Two.{nothing_else}
use Rattle.named.proofs.lists.both.Goals as goal

pub returns-in-Err : goal.returns-in-Err
returns-in-Err c = let A : List Row = let s = c.args in named_list_rows s.n1 s.edges1.now s.letters1.now in
    let B : List Row = let s = c.args in named_list_rows s.n2 s.edges2.now s.letters2.now in
    one_fails (lists-first [] (A) (B) nothing_else (refusal_of c.in-Err.ensures))

pub returns-in-Err-check_letters : goal.returns-in-Err-check_letters
returns-in-Err-check_letters c = let A : List Row = let s = c.args in named_list_rows s.n1 s.edges1.now s.letters1.now in
    let B : List Row = let s = c.args in named_list_rows s.n2 s.edges2.now s.letters2.now in
    one_fails (lists-second [] (A) (B) nothing_else (clear_of c.in_default.ensures) (refusal_of c.in-Err-check_letters.ensures))

pub returns : goal.returns
returns c = let A : List Row = let s = c.args in named_list_rows s.n1 s.edges1.now s.letters1.now in
    let B : List Row = let s = c.args in named_list_rows s.n2 s.edges2.now s.letters2.now in
    both_pass ((lists_clear [] (A) (B)).1 (nothing_else, clear_of c.in_default.ensures, clear_of c.in_default-check_letters.ensures))
