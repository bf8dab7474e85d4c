-- `renumber::hand_out_marks` meets its contract. Assumes nothing.
use mathlib.Core.Path.{refl}
use native.Mathlib.Omega.{arith}
use borrow.Author.Rules.{rules}
use Rattle.laws.specs.Equal.{was_equal, was_apart}
use Rattle.refusal.specs.Giving.{written_length}
use Rattle.form_coder.specs.Sums.{marks_few}
use Rattle.renumber.specs.Parts.{both}
use Rattle.renumber.proofs.Found.{found-listed, found-other, found-short, found-same}
use Rattle.renumber.proofs.hand_out_marks.Goals as goal

pub numbered_marks-one-requires : goal.numbered_marks-one-requires
numbered_marks-one-requires c = record { skeleton = search rules; order_len = search rules }

pub numbered_marks-other-requires : goal.numbered_marks-other-requires
numbered_marks-other-requires c = record { skeleton = search rules; order_len = search rules }

pub overflow_add-looked : goal.overflow_add-looked
overflow_add-looked c = omega (arith, marks_few c.requires.skeleton.0 (c.requires.skeleton.1.label) (c.numbered_marks-one.ensures.by_index (c.requires.skeleton.1.label) c.requires.skeleton.1.named).1, marks_few c.requires.skeleton_2.0 (c.requires.skeleton_2.1.label) (c.numbered_marks-other.ensures.by_index (c.requires.skeleton_2.1.label) c.requires.skeleton_2.1.named).1)

pub slice_bounds-ne-end : goal.slice_bounds-ne-end
slice_bounds-ne-end c = written_length (c.numbered_marks-one.ensures.by_index (c.requires.skeleton.1.label) c.requires.skeleton.1.named).0

pub slice_bounds-ne-end-2 : goal.slice_bounds-ne-end-2
slice_bounds-ne-end-2 c = written_length (c.numbered_marks-other.ensures.by_index (c.requires.skeleton_2.1.label) c.requires.skeleton_2.1.named).0

pub returns-then-ne : goal.returns-then-ne
returns-then-ne c l k x y = (found-other l k c.requires.skeleton.0.tree c.requires.skeleton_2.0.tree _ _ (c.numbered_marks-one.ensures.by_index l x).0 (c.numbered_marks-other.ensures.by_index k y).0 (was_apart c.ne.result c.ne.ensures c.if-ne.true) refl, both (c.numbered_marks-one.ensures.by_index l x).1 (c.numbered_marks-other.ensures.by_index k y).1)

pub returns-then-out-n : goal.returns-then-out-n
returns-then-out-n c l k x y = (found-short l k c.requires.skeleton.0.tree c.requires.skeleton_2.0.tree _ _ (c.numbered_marks-one.ensures.by_index l x).0 (c.numbered_marks-other.ensures.by_index k y).0 (was_equal c.ne.result c.ne.ensures c.if-ne.false) c.if-out-n.true refl, both (c.numbered_marks-one.ensures.by_index l x).1 (c.numbered_marks-other.ensures.by_index k y).1)

pub place-requires : goal.place-requires
place-requires c = (
  c.requires.skeleton.0.few,
  c.numbered_marks-one.ensures.order_len_2,
  c.numbered_marks-other.ensures.order_len_2,
  c.if-out-n.false,
  found-listed (c.requires.skeleton.1.label) (c.requires.skeleton_2.1.label) c.requires.skeleton.0.tree c.requires.skeleton_2.0.tree _ _ (c.numbered_marks-one.ensures.by_index (c.requires.skeleton.1.label) c.requires.skeleton.1.named).0 (c.numbered_marks-other.ensures.by_index (c.requires.skeleton_2.1.label) c.requires.skeleton_2.1.named).0,
)

pub returns : goal.returns
returns c l k x y = (found-same l k c.requires.skeleton.0.tree c.requires.skeleton_2.0.tree _ _ (c.numbered_marks-one.ensures.by_index l x).0 (c.numbered_marks-other.ensures.by_index k y).0 (was_equal c.ne.result c.ne.ensures c.if-ne.false) c.if-out-n.false c.place.ensures, both (c.numbered_marks-one.ensures.by_index l x).1 (c.numbered_marks-other.ensures.by_index k y).1)
