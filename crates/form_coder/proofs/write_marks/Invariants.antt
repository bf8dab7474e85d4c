-- `form_coder::write_marks` meets its contract. Assumes nothing.
use Rattle.laws.specs.Laying.{Mapped}
use Rattle.skeleton.specs.Carbon.{carbon_mark}
use Rattle.form_coder.proofs.write_marks.Given as goal

abbrev pub invariant-loop-i : goal.invariant-loop-i
invariant-loop-i l = Mapped carbon_mark l.ds l.initial.marks l.marks l.i
