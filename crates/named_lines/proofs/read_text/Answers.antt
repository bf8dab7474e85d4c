-- `named_lines::read_text` meets its contract: the loop keeps what is read so far. Assumes nothing.
use mathlib.Core.Path.{refl}
use native.Mathlib.Omega.{arith}
use Rattle.limits.specs.document.Limits.{size}
use Rattle.texts.specs.Turns.{read_none}
use Rattle.texts.specs.Going.{Spacious, lengths, room_now, going_more, not_past}
use Rattle.lines.proofs.Passing.{in_words}
use Rattle.named_lines.specs.document.Named.{lines_of_named, named_lent, named_table}
use Rattle.named_lines.specs.NamedSound.{named_spacious}
use Rattle.named_lines.specs.NamedText.{room_for}
use Rattle.named_lines.proofs.read_text.Goals as goal

abbrev spacious : Spacious (lines_of_named size named_table) (named_lent size)
spacious = named_spacious size named_table

pub loop-k-init : goal.loop-k-init
loop-k-init c = record { read = read_none _ _ _ _ _ _ (refl, (refl, tt)); room = room_for _ _ _ _ c.room-many.ensures; below = omega arith }

pub overflow_mul-k : goal.overflow_mul-k
overflow_mul-k c = let i = c.loop-k.invariant in
    (in_words c.loop-k.k (room_now spacious i c.loop-k-test.true).0.0 (lengths spacious i).0.0 c.well_formed.1.0.0).0

pub overflow_mul-k-in-loop-k : goal.overflow_mul-k-in-loop-k
overflow_mul-k-in-loop-k c = let i = c.loop-k.invariant in
    (in_words c.loop-k.k (room_now spacious i c.loop-k-test.true).0.0 (lengths spacious i).0.0 c.well_formed.1.0.0).0

pub overflow_add-k : goal.overflow_add-k
overflow_add-k c = let i = c.loop-k.invariant in
    (in_words c.loop-k.k (room_now spacious i c.loop-k-test.true).0.0 (lengths spacious i).0.0 c.well_formed.1.0.0).1

pub overflow_mul-k-in-loop-k-2 : goal.overflow_mul-k-in-loop-k-2
overflow_mul-k-in-loop-k-2 c = let i = c.loop-k.invariant in
    (in_words c.loop-k.k (room_now spacious i c.loop-k-test.true).0.0 (lengths spacious i).0.0 c.well_formed.1.0.0).0

pub overflow_mul-k-in-loop-k-3 : goal.overflow_mul-k-in-loop-k-3
overflow_mul-k-in-loop-k-3 c = let i = c.loop-k.invariant in
    (in_words c.loop-k.k (room_now spacious i c.loop-k-test.true).0.0 (lengths spacious i).0.0 c.well_formed.1.0.0).0

pub overflow_add-k-in-loop-k : goal.overflow_add-k-in-loop-k
overflow_add-k-in-loop-k c = let i = c.loop-k.invariant in
    (in_words c.loop-k.k (room_now spacious i c.loop-k-test.true).0.0 (lengths spacious i).0.0 c.well_formed.1.0.0).1

pub loop-k-preserved : goal.loop-k-preserved
loop-k-preserved c = let i = c.loop-k.invariant in
    going_more spacious i c.loop-k-test.true (not_past i c.if-at-text.false) c.read_line-r.ensures (c.note.ensures.numbers_after, c.note.ensures.places_after) c.behind-at.ensures
