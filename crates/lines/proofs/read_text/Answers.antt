-- `lines::read_text` meets its contract: the loop keeps what is read so far. Assumes nothing.
use mathlib.Core.Path.{◌≡◌, refl}
use Prim.Native.Nat.{◌*◌}
use native.Mathlib.Nat.{le-add_right}
use native.Mathlib.Omega.{arith}
use Rattle.limits.specs.document.Limits.{size}
use Rattle.texts.specs.Turns.{read_none}
use Rattle.texts.specs.Going.{lengths, room_now, going_more, not_past, at-end, no_room}
use Rattle.lines.proofs.Passing.{spacious, room_for, in_words}
use Rattle.lines.proofs.read_text.Goals as goal

pub loop-k-init : goal.loop-k-init
loop-k-init c = record { read = read_none _ _ _ _ _ _ (refl, tt); room = room_for _ _ _ c.room-lines.ensures; below = omega arith }

pub shape_of-records-then-at-text : goal.shape_of-records-then-at-text
shape_of-records-then-at-text c = (lengths (spacious _) c.loop-k.invariant).0.0

pub shape_of-numbers-then-at-text : goal.shape_of-numbers-then-at-text
shape_of-numbers-then-at-text c = (lengths (spacious _) c.loop-k.invariant).1

pub shape_of-places-then-at-text : goal.shape_of-places-then-at-text
shape_of-places-then-at-text c = (lengths (spacious _) c.loop-k.invariant).2

pub returns-then-at-text : goal.returns-then-at-text
returns-then-at-text c = at-end c.loop-k.invariant c.if-at-text.true

pub slice_bounds-read_line_of-count : goal.slice_bounds-read_line_of-count
slice_bounds-read_line_of-count c = c.loop-k.invariant.read.within

pub slice_bounds-read_line_of-start : goal.slice_bounds-read_line_of-start
slice_bounds-read_line_of-start c = c.loop-k.invariant.read.within

pub overflow_mul-k : goal.overflow_mul-k
overflow_mul-k c = let i = c.loop-k.invariant in
    (in_words c.loop-k.k (room_now (spacious _) i c.loop-k-test.true).0.0 (lengths (spacious _) i).0.0 c.well_formed.1.1.0.0).0

pub overflow_mul-k-in-loop-k : goal.overflow_mul-k-in-loop-k
overflow_mul-k-in-loop-k c = let i = c.loop-k.invariant in
    (in_words c.loop-k.k (room_now (spacious _) i c.loop-k-test.true).0.0 (lengths (spacious _) i).0.0 c.well_formed.1.1.0.0).0

pub overflow_add-k : goal.overflow_add-k
overflow_add-k c = let i = c.loop-k.invariant in
    (in_words c.loop-k.k (room_now (spacious _) i c.loop-k-test.true).0.0 (lengths (spacious _) i).0.0 c.well_formed.1.1.0.0).1

pub slice_bounds-read_line_of-count-in-loop-k : goal.slice_bounds-read_line_of-count-in-loop-k
slice_bounds-read_line_of-count-in-loop-k c = le-add_right (size * c.loop-k.k) size

pub slice_bounds-read_line_of-start-in-loop-k : goal.slice_bounds-read_line_of-start-in-loop-k
slice_bounds-read_line_of-start-in-loop-k c = le-add_right (size * c.loop-k.k) size

pub slice_bounds-read_line_of-end-in-loop-k : goal.slice_bounds-read_line_of-end-in-loop-k
slice_bounds-read_line_of-end-in-loop-k c = (room_now (spacious _) c.loop-k.invariant c.loop-k-test.true).0.0

pub note-requires : goal.note-requires
note-requires c = let r = room_now (spacious _) c.loop-k.invariant c.loop-k-test.true in record { k_in_bounds = r.1; k_in_bounds_2 = r.2 }

pub behind-at-requires : goal.behind-at-requires
behind-at-requires c = not_past c.loop-k.invariant c.if-at-text.false

pub loop-k-preserved : goal.loop-k-preserved
loop-k-preserved c = let i = c.loop-k.invariant in
    going_more (spacious _) i c.loop-k-test.true (not_past i c.if-at-text.false) c.read_line_of-r.ensures (c.note.ensures.numbers_after, c.note.ensures.places_after) c.behind-at.ensures

pub shape_of-records : goal.shape_of-records
shape_of-records c = (lengths (spacious _) c.loop-k.invariant).0.0

pub shape_of-numbers : goal.shape_of-numbers
shape_of-numbers c = (lengths (spacious _) c.loop-k.invariant).1

pub shape_of-places : goal.shape_of-places
shape_of-places c = (lengths (spacious _) c.loop-k.invariant).2

pub returns : goal.returns
returns c =
    let e : c.loop-k.k ≡ c.room-lines.result = omega arith in
    let r = no_room c.loop-k.invariant c.loop-k-test.false in rw e at r
