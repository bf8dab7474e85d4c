-- Document 02, wish 8: the tables of the calls in an edition. 22 stands before all others, and how many neighbours a vertex may have is the edition's.
-- The rows themselves stand with the input they speak of. Assumes nothing.
use Rattle.std.specs.Prelude.{List, [], ◌∷◌, ◌++◌, ℕ, Float}
use Rattle.refusal.specs.document.Table.{Row}
use Rattle.limits.specs.document.Limits.{size, packed_bytes, whole_size, zero_size, a_size}
use Rattle.edition.specs.document.Edition.{in_edition}
use Rattle.digit_code.specs.document.Code.{code_rows}
use Rattle.edge_list.specs.document.Edges.{edge_rows}
use Rattle.form.specs.document.Form.{form_rows}
use Rattle.bits.specs.document.Bits.{packed_rows, whole_rows}
use Rattle.fraction.specs.document.Fraction.{fraction_rows}
use Rattle.adjacency.specs.document.Adjacency.{row14_physical, cam_rows, zero_rows, a_rows}

-- the table of a call that takes at most `most` vertices, N, an edge list E and a root r
abbrev pub EdgeTable : Type 1
EdgeTable = ℕ → ℕ → List ℕ → ℕ → List Row

-- the same where no root is named, in a numbering that is to be physical
abbrev pub physical_table : EdgeTable → ℕ → ℕ → List ℕ → List Row
physical_table T most N E = T most N E 1 ++ (row14_physical N E ∷ [])

module _ (e : ℕ) where
  -- a digit code lent by itself
  abbrev pub code_table : List ℕ → List Row
  code_table c = in_edition e (λ R. code_rows size R c)

  -- a code of a form
  abbrev pub form_table : (ℕ → List ℕ → List ℕ → Type 0) → List ℕ → List Row
  form_table form c = in_edition e (λ R. form_rows form size R c)

  -- an edge list
  abbrev pub edge_table : EdgeTable
  edge_table most N E r = in_edition e (λ R. edge_rows most R N E r)

  -- packed bytes
  abbrev pub packed_table : List ℕ → List Row
  packed_table s = in_edition e (λ R. packed_rows packed_bytes R s)

  -- a whole number v, with N, n, beside it
  abbrev pub whole_table : ℕ → ℕ → List Row
  whole_table n v = in_edition e (λ R. whole_rows whole_size R n v)

  -- a fraction
  abbrev pub fraction_table : Float → List Row
  fraction_table x = in_edition e (λ R. fraction_rows R x)

  -- a CAM, with N beside it
  abbrev pub cam_table : ℕ → List ℕ → List Row
  cam_table N c = in_edition e (λ R. cam_rows size R N c)

  -- a 0A
  abbrev pub zero_table : ℕ → ℕ → List Row
  zero_table N x = in_edition e (λ R. zero_rows zero_size R N x)

  -- an A0
  abbrev pub a_table : ℕ → ℕ → List Row
  a_table N x = in_edition e (λ R. a_rows a_size R N x)
