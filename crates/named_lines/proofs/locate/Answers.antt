-- `named_lines::locate` meets its contract: rows 1, 2, 3, 5 and 21, in this order. Assumes nothing.
use mathlib.Core.Logic.{inl, inr}
use native.Mathlib.Omega.{arith}
use Rattle.std.proofs.lemmas.Bool.{not-true, not-false}
use Rattle.limits.specs.document.Limits.{size}
use Rattle.named_lines.specs.document.Named.{named_table}
use Rattle.named_lines.specs.NamedForm.{stands, refused}
use Rattle.named_lines.specs.Standing.{no_feed, no_form, not_sized, not_as_many, other-letters, other-counts, it_stands}
use Rattle.named_lines.proofs.locate.Goals as goal
use Rattle.named_lines.proofs.locate.Goals.{then-l-eq0-via-then-l-eq0, then-l-eq0-via-else-l-eq0+then-l-gt-SIZE, then-l-2-via-then-l-2, then-l-2-via-else-l-2+then-not-l}

pub returns-then-end-text : goal.returns-then-end-text
returns-then-end-text c = refused (no_feed size named_table c.feed-end.ensures c.if-end-text.true)

pub returns-in_default : goal.returns-in_default
returns-in_default c = refused (no_form size named_table c.feed-end.ensures c.if-end-text.false c.in_default.ensures)

pub returns-then-l-eq0 : goal.returns-then-l-eq0
returns-then-l-eq0 c = refused (not_sized size named_table c.feed-end.ensures c.if-end-text.false c.in-Some.ensures
    (elim c.then-l-eq0.branch [ then-l-eq0-via-then-l-eq0 w ↦ inl w.if-l-eq0.true | then-l-eq0-via-else-l-eq0+then-l-gt-SIZE w ↦ inr w.if-l-gt-SIZE.true ]))

pub returns-then-l : goal.returns-then-l
returns-then-l c = refused (not_as_many size named_table c.feed-end.ensures c.if-end-text.false c.in-Some.ensures c.if-l-eq0.false c.if-l-gt-SIZE.false c.if-l.true)

pub returns-then-l-2 : goal.returns-then-l-2
returns-then-l-2 c =
    elim c.then-l-2.branch [
      | then-l-2-via-then-l-2 w ↦
          refused (other-letters size named_table c.feed-end.ensures c.if-end-text.false c.in-Some.ensures c.if-l-eq0.false c.if-l-gt-SIZE.false c.if-l.false w.if-l-2.true)
      | then-l-2-via-else-l-2+then-not-l w ↦
          refused (other-counts size named_table c.feed-end.ensures c.if-end-text.false c.in-Some.ensures c.if-l-eq0.false c.if-l-gt-SIZE.false c.if-l.false w.if-l-2.false (omega arith) (not-true _ w.if-not-l.true))
    ]

pub returns : goal.returns
returns c = stands (it_stands size named_table c.feed-end.ensures c.if-end-text.false c.in-Some.ensures c.if-l-eq0.false c.if-l-gt-SIZE.false c.if-l.false c.if-l-2.false (not-false _ c.if-not-l.false))
