-- `lines::begin` meets its contract: the first bytes, one test at a time. Assumes nothing.
use native.Mathlib.Omega.{arith}
use Rattle.lines.specs.Forming.{begins-one, begins-two, no_beginning}
use Rattle.lines.proofs.begin.Goals as goal
use Rattle.lines.proofs.begin.Goals.{then-b-lt3-via-then-b-lt3, then-b-lt3-via-else-b-lt3+then-b-ne32}

pub returns-then-b-lt2 : goal.returns-then-b-lt2
returns-then-b-lt2 c = no_beginning (omega arith) (omega arith)

pub returns-in_err-tens : goal.returns-in_err-tens
returns-in_err-tens c = rw c.from_residual.ensures (no_beginning (λ n l h e q. c.in_err-tens.ensures n h e) (λ d e l p h k q r s. c.in_err-tens.ensures d h q))

pub returns-then-b-eq32 : goal.returns-then-b-eq32
returns-then-b-eq32 c = let w = c.in_ok-tens.ensures in
    begins-one (omega arith) w.0 w.1 c.if-b-eq32.true

pub returns-then-tens-eq0 : goal.returns-then-tens-eq0
returns-then-tens-eq0 c = let w = c.in_ok-tens.ensures in
    no_beginning (λ n l h e q. omega arith) (λ d e l p h k q r s. omega arith)

pub returns-in_err-ones : goal.returns-in_err-ones
returns-in_err-ones c = rw c.from_residual-in_err-ones.ensures (no_beginning (λ n l h e q. omega arith) (λ d e l p h k q r s. c.in_err-ones.ensures e k r))

pub returns-then-b-lt3 : goal.returns-then-b-lt3
returns-then-b-lt3 c =
    no_beginning (λ n l h e q. omega arith)
    (λ d e l p h k q r s. elim c.then-b-lt3.branch [ then-b-lt3-via-then-b-lt3 w ↦ omega arith | then-b-lt3-via-else-b-lt3+then-b-ne32 w ↦ omega arith ])

pub returns : goal.returns
returns c = let v = c.in_ok-tens.ensures in
    let w = c.in_ok-ones.ensures in
    begins-two (omega arith) (omega arith) v.0 w.0 v.1 w.1 c.if-b-ne32.false
