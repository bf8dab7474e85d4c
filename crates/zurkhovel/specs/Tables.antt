-- Document 01, "Refusal numbers": "Where several apply, the lowest number wins, then its first place; a number that a later request adds stands in
-- this order where that request puts it", and document 02, wish 8: "22 edition not 1 or 2, before all others".
--
-- Of the table of each public call behind 22, in the order of `Codes`, `Same`, `Bits`, `Matrix` and `Lines`, for any limit R on neighbours: a refusal
-- is given by the first row that applies, and this is the lowest number. Then in an edition, where 22 is before it. Of two lists each has its own, and
-- the first list's comes first. Assumes nothing.
use Rattle.std.specs.Prelude.{◌≡◌, refl, ◌⊎◌, ◌↔◌, List, [], ◌∷◌, ◌++◌, ℕ, Float}
use Rattle.std.proofs.Common.{inl, inr, ⊎_elim, arith}
use Rattle.refusal.specs.document.Table.{Row, First, FirstRefusal, short}
use Rattle.refusal.specs.document.Lists.{OfLists, OfThree}
use Rattle.refusal.specs.Laws.{refusal_front}
use Rattle.refusal.proofs.Laws.{first-place, refusal_back, refusal_either}
use Rattle.refusal.proofs.WhichList as Lists
use Rattle.refusal.proofs.Lowest.{lowest_number}
use Rattle.refusal.specs.document.Lowest.{Lowest, LowestWins}
use Rattle.limits.specs.document.Limits.{size}
use Rattle.edition.specs.document.Edition.{IsEdition, neighbours_in, row22, in_edition}
use Rattle.edition.specs.Laws.{edition_clear, clear_edition}
use Rattle.digit_code.specs.document.Code.{code_rows}
use Rattle.edge_list.specs.document.Edges.{edge_rows}
use Rattle.edge_list.specs.Theorems.{lowest_refused}
use Rattle.form.specs.document.Form.{form_rows}
use Rattle.bits.specs.document.Bits.{packed_rows, whole_rows}
use Rattle.fraction.specs.document.Fraction.{fraction_rows}
use Rattle.adjacency.specs.document.Adjacency.{row14_physical, cam_rows, zero_rows, a_rows}
use Rattle.texts.specs.document.Text.{line_rows}
use Rattle.texts.specs.document.Lent.{line_row15}
use Rattle.lines.specs.document.Line.{plain_lines}
use Rattle.lines.specs.document.Judged.{digit_table}
use Rattle.lines.specs.document.Reading.{digits_lent}
use Rattle.zurkhovel.specs.document.Same.{list_rows, both_rows}
use Rattle.zurkhovel.specs.document.Maps.{three_rows}

module _ (R : ℕ) where
  -- the table of a call that writes: 15 stands behind
  module _ (Right : List ℕ → Type 0) (lent : ℕ) where
    abbrev then15 : List Row → List Row
    then15 rs = rs ++ (short Right lent ∷ [])

    -- decode_code
    pub code-written : (c : List ℕ) → LowestWins (then15 (code_rows size R c))
    code-written c = lowest_number refl

    -- decode_n_tuple, decode_centred
    pub form-written : (form : ℕ → List ℕ → List ℕ → Type 0) (c : List ℕ) → LowestWins (then15 (form_rows form size R c))
    form-written form c = lowest_number refl

    -- rooted_code, n_tuple_code, centred_code, pack, cam_by_code, write_line, equal_vertices
    pub edges-written : (N : ℕ) (E : List ℕ) (r : ℕ) → LowestWins (then15 (edge_rows size R N E r))
    edges-written N E r = lowest_number refl

    -- unpack
    pub packed-written : (most : ℕ) (s : List ℕ) → LowestWins (then15 (packed_rows most R s))
    packed-written most s = lowest_number refl

    -- unwhole
    pub whole-written : (most n v : ℕ) → LowestWins (then15 (whole_rows most R n v))
    whole-written most n v = lowest_number refl

    -- unfraction
    pub fraction-written : (x : Float) → LowestWins (then15 (fraction_rows R x))
    fraction-written x = lowest_number refl

    -- decode_cam
    pub cam-written : (N : ℕ) (c : List ℕ) → LowestWins (then15 (cam_rows size R N c))
    cam-written N c = lowest_number refl

    -- decode_zero_a
    pub zero_a-written : (most N x : ℕ) → LowestWins (then15 (zero_rows most R N x))
    zero_a-written most N x = lowest_number refl

    -- decode_a_zero
    pub a_zero-written : (most N x : ℕ) → LowestWins (then15 (a_rows most R N x))
    a_zero-written most N x = lowest_number refl

    -- cam
    pub physical-written : (N : ℕ) (E : List ℕ) → LowestWins (then15 (edge_rows size R N E 1 ++ (row14_physical N E ∷ [])))
    physical-written N E = lowest_number refl

  -- check_code
  pub code-checked : (c : List ℕ) → LowestWins (code_rows size R c)
  code-checked c = lowest_number refl

  -- check_edges, whole, fraction, a_zero, zero_a_by_code, a_zero_by_code, each with its own limit of N
  pub edges-checked : (most N : ℕ) (E : List ℕ) (r : ℕ) → LowestWins (edge_rows most R N E r)
  edges-checked most N E r = lowest_refused most R N E r

  -- zero_a
  pub physical-checked : (most N : ℕ) (E : List ℕ) → LowestWins (edge_rows most R N E 1 ++ (row14_physical N E ∷ []))
  physical-checked most N E = lowest_number refl

  -- read_line
  pub line-written : (t old : List ℕ) → LowestWins (line_rows (plain_lines size (digit_table R)) t ++ (line_row15 (plain_lines size (digit_table R)) (digits_lent size) t (old ∷ []) ∷ []))
  line-written t old = lowest_number refl

  -- read_text, of each line
  pub line-checked : (t : List ℕ) → LowestWins (line_rows (plain_lines size (digit_table R)) t)
  line-checked t = lowest_number refl

-- ---- in an edition

module _ (e : ℕ) where
  -- 22 is given where there is no such edition; else the lowest number of the table behind it
  pub edition_first :
      (rows : ℕ → List Row) → LowestWins (rows (neighbours_in e)) → (k p : ℕ) → FirstRefusal (in_edition e rows) k p
      ↔ (((k ≡ 22) × (p ≡ 0) × (IsEdition e → ⊥)) ⊎ (IsEdition e × Lowest (rows (neighbours_in e)) k p))
  edition_first rows w k p = (
    (λ l. ⊎_elim (λ a. inl (refused_so a.is)) (λ (c, a). inr (clear_edition c, (w k p).0 a)) (refusal_either (row22 e ∷ []) (rows (neighbours_in e)) l)),
    (λ d. ⊎_elim (λ (n, z, h). rw (n, z) (refusal_front (rows (neighbours_in e)) (none h))) (λ (i, a). refusal_back (edition_clear i) ((w k p).1 a)) d),
  )
    where
      refused_so : First (row22 e ∷ []) k p → (k ≡ 22) × (p ≡ 0) × (IsEdition e → ⊥)
      refused_so (inl (n, a, f)) = (n, a.0, a.1)
      refused_so (inr (n, f)) = absurd f

      none : (IsEdition e → ⊥) → FirstRefusal (row22 e ∷ []) 22 0
      none h = first-place {r = row22 e} (refl, h) (λ q l a. let z : ⊥ = omega arith in z)

  -- same_skeleton: 22 is given, which is called 0, or list i is refused
  pub which_list :
      (N : ℕ) (E : List ℕ) (P : ℕ) (F : List ℕ) (i k p : ℕ) → FirstRefusal (both_rows e N E P F) (i, k) p ↔ OfLists (row22 e ∷ []) (list_rows e N E) (list_rows e P F) i k p
  which_list N E P F = Lists.which_list (row22 e ∷ []) (list_rows e N E) (list_rows e P F) (edges-checked (neighbours_in e) size N E 1) (edges-checked (neighbours_in e) size P F 1)

  -- renumbering, check_renumbering: the same, or the map is refused, which is called 3
  pub which_of_three :
      (N : ℕ) (E : List ℕ) (P : ℕ) (F : List ℕ) (rs : List Row) → LowestWins rs → (i k p : ℕ) → FirstRefusal (three_rows e N E P F rs) (i, k) p
      ↔ OfThree (row22 e ∷ []) (list_rows e N E) (list_rows e P F) rs i k p
  which_of_three N E P F rs w =
      Lists.which_of_three (row22 e ∷ []) (list_rows e N E) (list_rows e P F) rs (edges-checked (neighbours_in e) size N E 1) (edges-checked (neighbours_in e) size P F 1) w
