-- The promises of the calls on the bit-tuple's three forms, as in `Codes`: which rows of document 01's table each judges, and what it
-- gives where none applies.
--
-- In order: the rooted code at the vertex r of N vertices and the edge list E in each form; each form read into edges. T: the table of the edge list, which is `edge_table e`
-- in the edition e; s: packed bytes; n, v: N and the whole number beside it; x: the fraction; old, new: the lent output before and after; o: the answer.
-- Assumes nothing.
use Rattle.std.specs.Prelude.{◌≡◌, Bool, List, ℕ, ◌-◌, ◌*◌, Float}
use Rattle.refusal.specs.document.Table.{Outcome, Answered, Gives}
use Rattle.limits.specs.document.Limits.{size, whole_size, fraction_size}
use Rattle.digit_code.specs.document.Code.{decode}
use Rattle.bits.specs.document.Bits.{bytes, word, Fill, Nothing, Zeros, Reads}
use Rattle.bits.specs.document.Written.{Packs, Numbers}
use Rattle.fraction.specs.document.Fraction.{IsFraction, bits_of}
use Rattle.skeleton.specs.document.Skeleton.{rooted}
use Rattle.edition.specs.document.Edition.{neighbours_in}
use Rattle.zurkhovel.specs.document.InEdition.{EdgeTable, packed_table, whole_table, fraction_table}

-- the packed form
abbrev pub Pack : EdgeTable → ℕ → List ℕ → ℕ → List ℕ → List ℕ → Outcome ℕ → Type 0
Pack T N E r old new o = Gives (T size N E r) (Packs (rooted N E r)) old new o

-- the whole number
abbrev pub Whole : EdgeTable → ℕ → List ℕ → ℕ → Outcome ℕ → Type 0
Whole T N E r o = Answered (T whole_size N E r) (Numbers (rooted N E r)) o

-- the fraction
abbrev pub InFraction : EdgeTable → ℕ → List ℕ → ℕ → Outcome Float → Type 0
InFraction T N E r o = Answered (T fraction_size N E r) (IsFraction (rooted N E r)) o

-- E: the edges of the right code, for at most R neighbours, that the bits carry, with nothing behind it but what May allows
pub record Decodes (R : ℕ) (May : List Bool → Type 0) (bs : List Bool) (E : List ℕ) : Type 0 where
  pub code : List ℕ
  pub reads : Reads R May bs code
  pub edges : E ≡ decode code

-- the edges of a packed code
abbrev pub Unpack : ℕ → List ℕ → List ℕ → List ℕ → Outcome ℕ → Type 0
Unpack e s old new o = Gives (packed_table e s) (Decodes (neighbours_in e) Fill (bytes s)) old new o

-- the edges of a whole number
abbrev pub Unwhole : ℕ → ℕ → ℕ → List ℕ → List ℕ → Outcome ℕ → Type 0
Unwhole e n v old new o = Gives (whole_table e n v) (Decodes (neighbours_in e) Nothing (word (2 * n - 1) v)) old new o

-- the edges of a fraction
abbrev pub Unfraction : ℕ → Float → List ℕ → List ℕ → Outcome ℕ → Type 0
Unfraction e x old new o = Gives (fraction_table e x) (Decodes (neighbours_in e) Zeros (bits_of x)) old new o
