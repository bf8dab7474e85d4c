-- The promises of the calls on lines; that of `count` is `Counted` of the crate `texts`, `Demand`. A line's digits are judged as a centred code (`digit_table`), in the edition e (`lines_of`); the listing is of
-- edition 1. Assumes nothing.
use Rattle.std.specs.Prelude.{List, ℕ}
use Rattle.refusal.specs.document.Table.{Outcome, Gives}
use Rattle.limits.specs.document.Limits.{size, valence}
use Rattle.zurkhovel.specs.document.InEdition.{EdgeTable}
use Rattle.form.specs.document.Form.{OfCentred}
use Rattle.lines.specs.document.Line.{line}
use Rattle.lines.specs.document.Judged.{digit_table}
use Rattle.lines.specs.document.Reading as Reading
use Rattle.listing_text.specs.document.Listing as Listing

-- the first line of the text t into a lent output
abbrev pub ReadLine : ℕ → List ℕ → List ℕ → List ℕ → Outcome ℕ → Type 0
ReadLine e t old new o = Reading.LineRead size (Reading.lines_of e) t old new o

-- the line of the centred code of the skeleton with N vertices and the edges E; T: the table of the edge list, which is `edge_table e` in the edition e
abbrev pub WriteLine : EdgeTable → ℕ → List ℕ → List ℕ → List ℕ → Outcome ℕ → Type 0
WriteLine T N E old new o = Gives (T size N E 1) (OfCentred N E line) old new o

-- the text t, line after line: rec, num and pla before, rec', num' and pla' after; k lines are read, up to the place `at`
abbrev pub ReadText : ℕ → List ℕ → List ℕ → List ℕ → List ℕ → List ℕ → List ℕ → List ℕ → ℕ → ℕ → Type 0
ReadText e t rec num pla rec' num' pla' k at = Reading.TextRead size (Reading.lines_of e) t rec num pla rec' num' pla' k at

-- the listing of the text t, from byte `from` on, as far as there is room: n bytes
abbrev pub ListText : List ℕ → List ℕ → List ℕ → ℕ → ℕ → Type 0
ListText t old new from n = Listing.Lists size (digit_table valence) t old new from n
