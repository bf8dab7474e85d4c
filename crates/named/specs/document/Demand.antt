-- Demand 3 of named lines: "Read demand 3 from then on for lists of plain and lists of named lines, each by its own reader." What the writer of named lines gives, and these lines as a kind of line. The demand, its
-- words and its statements, is in `Demand` of the crate `texts`, for any kind of line; that it holds of this one is proved in `Demanded`. Assumes nothing.
use Rattle.std.specs.Prelude.{◌≡◌, List, ℕ, take}
use Rattle.refusal.specs.document.Table.{Clear, gives}
use Rattle.limits.specs.document.Limits.{size, valence}
use Rattle.skeleton.specs.document.Label.{digits}
use Rattle.skeleton.specs.document.Atom.{atom_at}
use Rattle.skeleton.specs.document.AtomMarks.{atoms}
use Rattle.letters.specs.document.Letters.{letters_of}
use Rattle.edge_list.specs.document.Letters.{letter_rows}
use Rattle.form.specs.document.Labelled.{IsCentredₗ}
use Rattle.texts.specs.document.Demand.{Kind}
use Rattle.named_lines.specs.document.Named.{Named, Parts, named_line}
use Rattle.named_lines.specs.document.NamedDemand.{named_kind}
use Rattle.named.specs.document.Text.{NamedWriteLine}

-- what `write_line` gives is the named line of the centred code of an accepted edge list with letters
abbrev pub NamedGivesALine : Type 0
NamedGivesALine =
    (N : ℕ) (E s old new : List ℕ) (n : ℕ) → NamedWriteLine N E s old new (gives n)
    → Clear (letter_rows size valence N E 1 s) × ((c : List ℕ) × IsCentredₗ atoms N E (atom_at s) c × (take n new ≡ named_line (digits atoms c) (letters_of c)))

-- b is the n bytes that `write_line` gives for a skeleton; the record written is its centred code, digits with letters
pub record NamedLineGiven (b : List ℕ) (w : Named) : Type 0 where
  pub N : ℕ
  pub E : List ℕ
  pub s : List ℕ
  pub old : List ℕ
  pub new : List ℕ
  pub n : ℕ
  pub code : List ℕ
  pub writes : NamedWriteLine N E s old new (gives n)
  pub centre : IsCentredₗ atoms N E (atom_at s) code
  pub spelled : (w.digits ≡ digits atoms code) × (w.letters ≡ letters_of code)
  pub bytes : b ≡ take n new

-- named lines, as `write_line` gives them and `read_text` reads them
abbrev pub named_texts : Kind Named Parts
named_texts = named_kind NamedLineGiven
