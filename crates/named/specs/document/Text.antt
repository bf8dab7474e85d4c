-- Document 02, wish 7, the promises of the calls on named lines: a line written; a line and a text read, by a reader that takes no other lines, and their listing. Assumes nothing.
use Rattle.std.specs.Prelude.{◌≡◌, List, ℕ}
use Rattle.refusal.specs.document.Table.{Outcome, Gives}
use Rattle.limits.specs.document.Limits.{size, valence}
use Rattle.skeleton.specs.document.Label.{digits}
use Rattle.skeleton.specs.document.Atom.{atom_at}
use Rattle.skeleton.specs.document.AtomMarks.{atoms}
use Rattle.letters.specs.document.Letters.{letters_of}
use Rattle.edge_list.specs.document.Letters.{letter_rows}
use Rattle.form.specs.document.Labelled.{IsCentredₗ}
use Rattle.named_lines.specs.document.Named.{named_line, named_table, lines_of_named, NamedLineRead, NamedTextRead}
use Rattle.listing_text.specs.document.Listing.{ListsOf}

-- the named line of the centred code of the skeleton of N vertices with the edges E and the letters s
abbrev pub NamedWriteLine : ℕ → List ℕ → List ℕ → List ℕ → List ℕ → Outcome ℕ → Type 0
NamedWriteLine N E s old new o =
    Gives (letter_rows size valence N E 1 s) (λ t. (c : List ℕ) × IsCentredₗ atoms N E (atom_at s) c × (t ≡ named_line (digits atoms c) (letters_of c))) old new o

-- the first line of the text t: its digits into one output, its letters into the other
abbrev pub NamedReadLine : List ℕ → List ℕ → List ℕ → List ℕ → List ℕ → Outcome ℕ → Type 0
NamedReadLine t old letters old' letters' o = NamedLineRead size named_table t old letters old' letters' o

-- the text t, line after line: rec and lets are lent for digits and letters, num and pla for a number and a place of each line; k lines are read, up to the place `at`
abbrev pub NamedReadText : List ℕ → List ℕ → List ℕ → List ℕ → List ℕ → List ℕ → List ℕ → List ℕ → List ℕ → ℕ → ℕ → Type 0
NamedReadText t rec lets num pla rec' lets' num' pla' k at = NamedTextRead size named_table size t rec lets num pla rec' lets' num' pla' k at

-- the listing of the text t, from byte `from` on, as far as there is room: n bytes
abbrev pub NamedListText : List ℕ → List ℕ → List ℕ → ℕ → ℕ → Type 0
NamedListText t old new from n = ListsOf (lines_of_named size named_table) t old new from n
