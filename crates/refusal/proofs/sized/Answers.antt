-- `refusal::sized` meets its contract. Assumes nothing.
use Rattle.std.proofs.Common.{refl, inl, inr, arith}
use Rattle.refusal.specs.Checks.{passes, fails}
use Rattle.refusal.specs.Laws.{size_clear}
use Rattle.refusal.specs.document.Table.{Outside}
use Rattle.refusal.proofs.Laws.{first-place}
use Rattle.refusal.proofs.sized.Goals as goal
use Rattle.refusal.proofs.sized.Goals.{then-n-eq0-via-then-n-eq0, then-n-eq0-via-else-n-eq0+then-most-n}

pub returns-then-n-eq0 : goal.returns-then-n-eq0
returns-then-n-eq0 c =
    let out : Outside c.args.most c.args.n = elim c.then-n-eq0.branch [ then-n-eq0-via-then-n-eq0 w ↦ inl w.if-n-eq0.true | then-n-eq0-via-else-n-eq0+then-most-n w ↦ inr w.if-most-n.true ] in
    fails (first-place (refl, out) (λ q l a. omega arith))

pub returns : goal.returns
returns c = passes (size_clear (let n = c.if-n-eq0.false in omega arith) c.if-most-n.false)
