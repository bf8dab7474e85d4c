-- `zurkhovel::codes::same_skeleton` keeps its promise. Assumes nothing.
use Rattle.std.specs.Prelude.{refl}
use Rattle.refusal.specs.document.Table.{left}
use Rattle.refusal.specs.Lists.{were_accepted, one-refused}
use Rattle.refusal.proofs.Giving.{list_exit}
use Rattle.zurkhovel.specs.Theorems.{both_clear}
use Rattle.zurkhovel.proofs.codes.same_skeleton.Goals as goal

pub returns-in_err-both : goal.returns-in_err-both
returns-in_err-both c = list_exit _ c.from_residual.result c.from_residual.ensures.1 (left (one-refused c.in_err-both.ensures refl) refl)

pub judge-requires : goal.judge-requires
judge-requires c =
    let s = c.args in
    let whole = (both_clear _ _ s.edges1.now s.edges2.now).0 (were_accepted c.in_ok-both.ensures refl) in
    record { clear = whole.0; clear_2 = whole.1 }
