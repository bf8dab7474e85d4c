-- `zurkhovel::editions::both` meets its contract. Assumes nothing.
use Rattle.std.specs.Prelude.{[], ◌∷◌}
use Rattle.refusal.specs.Checks.{both_pass, one_fails}
use Rattle.refusal.proofs.Laws.{clear_of, refusal_of}
use Rattle.refusal.proofs.WhichList.{lists-none}
use Rattle.edition.specs.document.Edition.{row22}
use Rattle.edition.specs.Laws.{lawful_limit}
use Rattle.zurkhovel.specs.document.Same.{list_rows}
use Rattle.zurkhovel.specs.Theorems.{both_clear, both_first, both-second}
use Rattle.zurkhovel.proofs.Verdicts.{list_refuses, list_clears}
use Rattle.zurkhovel.proofs.editions.both.Goals as goal

pub returns-in-Err : goal.returns-in-Err
returns-in-Err c = let s = c.args in
    one_fails (lists-none (row22 s.edition ∷ []) (list_rows s.edition s.n1 s.edges1.now) (list_rows s.edition s.n2 s.edges2.now) c.in-Err.ensures.1)

pub check-requires : goal.check-requires
check-requires c = (lawful_limit _ c.in-Ok.ensures).1

pub returns-in-Err-check : goal.returns-in-Err-check
returns-in-Err-check c = let s = c.args in
    one_fails (both_first _ s.n2 s.edges1.now s.edges2.now c.in-Ok.ensures.1 (list_refuses _ c.in-Ok.ensures.0 s.n1 s.edges1.now (refusal_of c.in-Err-check.ensures)))

pub check-requires-2 : goal.check-requires-2
check-requires-2 c = (lawful_limit _ c.in-Ok.ensures).1

pub returns-in-Err-check-2 : goal.returns-in-Err-check-2
returns-in-Err-check-2 c = let s = c.args in
    let first = list_clears s.edition c.in-Ok.ensures s.n1 s.edges1.now (clear_of c.in_default.ensures) in
    one_fails (both-second _ _ s.edges1.now s.edges2.now first (list_refuses _ c.in-Ok.ensures.0 s.n2 s.edges2.now (refusal_of c.in-Err-check-2.ensures)))

pub returns : goal.returns
returns c = let s = c.args in
    let first = list_clears s.edition c.in-Ok.ensures s.n1 s.edges1.now (clear_of c.in_default.ensures) in
    both_pass
    ((both_clear _ _ s.edges1.now s.edges2.now).1 (first, list_clears _ c.in-Ok.ensures s.n2 s.edges2.now (clear_of c.in_default-check.ensures)))
