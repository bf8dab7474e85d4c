-- `vertices::write_classes` meets its contract: the loop keeps the classes written and the greatest of them. Assumes nothing.
use Rattle.digit_code.specs.Search.{Known}
use Rattle.skeleton.specs.document.AtomMarks.{atoms}
use Rattle.vertices.specs.Search.{Above}
use Rattle.vertices.proofs.Writing.{Writing}
use Rattle.vertices.proofs.write_classes.Given as goal

abbrev pub invariant-loop-i : goal.invariant-loop-i
invariant-loop-i l = Known atoms.arity l.code l.ends 0 × (Above l.code l.edges × Writing l.code l.initial.out l.out l.top l.i)
