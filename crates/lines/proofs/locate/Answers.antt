-- `lines::locate` meets its contract: rows 1, 2, 3 and 5, in this order. Assumes nothing.
use mathlib.Core.Logic.{inl, inr}
use Rattle.limits.specs.document.Limits.{size}
use Rattle.lines.specs.Form.{stands, refused}
use Rattle.lines.proofs.Locating.{no_feed, no_form, found, not_sized, not_as_many, standing}
use Rattle.lines.proofs.locate.Goals as goal
use Rattle.lines.proofs.locate.Goals.{then-opening-eq0-via-then-opening-eq0, then-opening-eq0-via-else-opening-eq0+then-opening-gt-SIZE}

pub returns-then-end-text : goal.returns-then-end-text
returns-then-end-text c = refused (no_feed c.feed-end.ensures size c.if-end-text.true)

pub returns-in_default : goal.returns-in_default
returns-in_default c = refused (no_form c.feed-end.ensures size c.if-end-text.false c.in_default.ensures)

pub returns-then-opening-eq0 : goal.returns-then-opening-eq0
returns-then-opening-eq0 c =
    refused
    (not_sized size (found c.feed-end.ensures c.if-end-text.false c.in-Some.ensures)
    (elim c.then-opening-eq0.branch [ then-opening-eq0-via-then-opening-eq0 w ↦ inl w.if-opening-eq0.true | then-opening-eq0-via-else-opening-eq0+then-opening-gt-SIZE w ↦ inr w.if-opening-gt-SIZE.true ]))

pub returns-then-end-opening : goal.returns-then-end-opening
returns-then-end-opening c = refused (not_as_many size (found c.feed-end.ensures c.if-end-text.false c.in-Some.ensures) c.if-opening-eq0.false c.if-opening-gt-SIZE.false c.if-end-opening.true)

pub returns : goal.returns
returns c = stands (standing size (found c.feed-end.ensures c.if-end-text.false c.in-Some.ensures) c.if-opening-eq0.false c.if-opening-gt-SIZE.false c.if-end-opening.false)
