-- `named_lines::matching` meets its contract: the three counts, one after the other. Assumes nothing.
use mathlib.Core.Path.{sym, ◌∙◌}
use mathlib.Core.Bool.{false≢true}
use native.Mathlib.Omega.{arith}
use Rattle.std.proofs.lemmas.Bool.Decides.{nat_tests}
use Rattle.laws.specs.Tells.{tells, denies}
use Rattle.named_lines.proofs.matching.Goals as goal
use Rattle.named_lines.proofs.matching.Goals.{then-letters-le-SIZE, else-letters-le-SIZE, then-tallied-c, else-tallied-c}

pub returns-then-tallied-n : goal.returns-then-tallied-n
returns-then-tallied-n c =
    elim c.if-tallied-c.branch [
      | then-tallied-c w ↦
          elim c.if-letters-le-SIZE.branch [
            | then-letters-le-SIZE v ↦
                tells _
                (λ e. (
                  v.if-letters-le-SIZE.true,
                  record {
                    c = grind (arith, nat_tests, v.value-is, w.if-tallied-c.true, v.tallied.ensures);
                    n = grind (arith, nat_tests, w.value-is, c.if-tallied-n.true, w.tallied-then-tallied-c.ensures);
                    o = grind (arith, nat_tests, c.tallied-then-tallied-n.ensures);
                  },
                ))
                (λ e h. grind (arith, nat_tests, c.tallied-then-tallied-n.ensures, h.1.o))
            | else-letters-le-SIZE v ↦ absurd (grind (arith, nat_tests, v.value-is, v.if-letters-le-SIZE.false, w.if-tallied-c.true))
          ]
      | else-tallied-c w ↦ absurd (false≢true (sym w.if-tallied-c.false ∙ sym w.value-is ∙ c.if-tallied-n.true))
    ]

pub returns-else-tallied-n : goal.returns-else-tallied-n
returns-else-tallied-n c =
    rw c.if-tallied-n.false
    (denies (λ h.
    elim c.if-tallied-c.branch [
      | then-tallied-c w ↦ grind (arith, nat_tests, w.value-is, c.if-tallied-n.false, w.tallied-then-tallied-c.ensures, h.1.n)
      | else-tallied-c w ↦
          elim c.if-letters-le-SIZE.branch [
            | then-letters-le-SIZE v ↦ grind (arith, nat_tests, v.value-is, w.if-tallied-c.false, v.tallied.ensures, h.1.c)
            | else-letters-le-SIZE v ↦ omega (arith, h.0, v.if-letters-le-SIZE.false)
          ]
    ]))
