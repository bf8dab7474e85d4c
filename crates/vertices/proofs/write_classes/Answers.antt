-- `vertices::write_classes` meets its contract: the loop keeps the classes written and the greatest of them. Assumes nothing.
use mathlib.Core.Path.{refl, subst}
use native.Mathlib.Omega.{arith}
use Rattle.laws.specs.document.Laid.{Laid}
use Rattle.vertices.proofs.Telling.{digits-end, digits_few, ends_known, edges_fit, above-all}
use Rattle.vertices.proofs.Writing.{writing_none, writing_length, writing_low, writing_next, writing_all}
use Rattle.vertices.proofs.write_classes.Goals as goal

pub ends_of-requires : goal.ends_of-requires
ends_of-requires c = record { ends = digits-end c.requires.ds_value c.requires.fact; code_len_bound = digits_few c.requires.ds_value c.requires.fact c.requires.code_len_bound; ends_len = refl }

pub write_edges-requires : goal.write_edges-requires
write_edges-requires c = record { ends = digits-end c.requires.ds_value c.requires.fact; code_len_bound = digits_few c.requires.ds_value c.requires.fact c.requires.code_len_bound; code_in_bounds = edges_fit c.requires.ds_value c.requires.fact c.requires.code_len_bound }

pub loop-i-init : goal.loop-i-init
loop-i-init c = (ends_known c.requires.ds_value c.requires.fact c.ends_of.ensures, (above-all c.requires.ds_value c.requires.fact c.requires.code_len_bound refl c.write_edges.ensures, writing_none c.requires.code_in_bounds))

pub overflow_add-top : goal.overflow_add-top
overflow_add-top c = let l = c.loop-i.invariant in omega (arith, writing_low l.1.1, l.0.few)

pub class_of-k-requires : goal.class_of-k-requires
class_of-k-requires c = let l = c.loop-i.invariant in record { known = l.0; above = l.1.0; v_in_bounds = omega arith; v_in_bounds_2 = omega (arith, writing_length l.1.1, l.1.1.room) }

pub bounds-out-i : goal.bounds-out-i
bounds-out-i c = let l = c.loop-i.invariant in omega (arith, writing_length l.1.1, l.1.1.room)

pub loop-i-preserved : goal.loop-i-preserved
loop-i-preserved c = let l = c.loop-i.invariant in (l.0, (l.1.0, writing_next l.1.1 (omega arith) c.class_of-k.ensures c.max-top.ensures))

pub shape_of-out : goal.shape_of-out
shape_of-out c = writing_length c.loop-i.invariant.1.1

pub returns : goal.returns
returns c = rw c.requires.ds_value (subst (Laid _ _ _) (omega arith) (writing_all c.loop-i.invariant.1.1 (omega arith)))
