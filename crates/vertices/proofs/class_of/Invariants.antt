-- `vertices::class_of` meets its contract: the loop keeps that no vertex passed is like that of mark v. Assumes nothing.
use lib.ListN.{take}
use Rattle.vertices.specs.Search.{test?}
use Rattle.vertices.proofs.Looking.{Looking}
use Rattle.vertices.proofs.class_of.Given as goal

abbrev pub invariant-loop-u : goal.invariant-loop-u
invariant-loop-u l = Looking (test? l.code (take l.v l.known)) l.known l.v l.new l.u
