-- What an accepted edge list is: a skeleton, and a root among its vertices. Every other file of this crate has it from here. Assumes nothing.
use Rattle.std.specs.Prelude.{◌≡◌, List, [], ◌∷◌, ℕ, ◌≤◌, length}
use Rattle.std.proofs.Common.{arith}
use Rattle.refusal.specs.document.Table.{Row, Clear}
use Rattle.refusal.specs.Laws.{clear_both, clear_left, others}
use Rattle.limits.specs.document.Limits.{size}
use Rattle.limits.specs.Width.{width}
use Rattle.skeleton.specs.document.Skeleton.{IsTree, IsSkeleton, rooted}
use Rattle.skeleton.specs.Theorems as Theorems
use Rattle.edge_list.specs.Tables.{in_rows}
use Rattle.edge_list.specs.Theorems.{accepted}
use Rattle.form.specs.document.Form.{IsCentred}
use Rattle.form.specs.Forms.{centred-form, form-size}
use Rattle.form.specs.Accepted.{form_accepted}
use Rattle.texts.specs.Damage.{Accept}
use Rattle.lines.specs.OfEdition.{edition_accept}
use Rattle.edition.specs.document.Edition.{IsEdition, neighbours_in, row22}
use Rattle.edition.specs.Laws.{at_most_nine, edition_clear}
use Rattle.zurkhovel.specs.document.InEdition.{edge_table}
use Rattle.lines.specs.document.Reading.{lines_of}

-- what another table clears is clear in the same edition
pub same_edition : {e : ℕ} {rs ss : List Row} → Clear (row22 e ∷ rs) → Clear ss → Clear (row22 e ∷ ss)
same_edition {e} {rs} k l = clear_both (clear_left (row22 e ∷ []) rs k) l

module _ {e : ℕ} where
  pub skeleton_of : {most N r : ℕ} {E : List ℕ} → Clear (edge_table e most N E r) → IsSkeleton most (neighbours_in e) N E
  skeleton_of {most} {N} {r} {E} k = ((accepted most (neighbours_in e) N E r).0 (others k)).0

  -- it has a table of neighbours
  pub table_of : {most N r : ℕ} {E : List ℕ} → Clear (edge_table e most N E r) → IsSkeleton most width N E
  table_of k = in_rows (at_most_nine e) (skeleton_of k)

  pub tree_of : {most : ℕ} (N : ℕ) (E : List ℕ) (r : ℕ) → Clear (edge_table e most N E r) → IsTree N E
  tree_of N E r k = (skeleton_of {E = E} k).tree

  module _ {most N r : ℕ} (E : List ℕ) (k : Clear (edge_table e most N E r)) where
    pub root_of : (1 ≤ r) × (r ≤ N)
    root_of = ((accepted most (neighbours_in e) N E r).0 (others k)).1

    -- its code has N digits
    pub rooted-size : length (rooted N E r) ≡ N
    rooted-size = Theorems.code_length N E r (skeleton_of k).tree root_of.0 root_of.1

  -- and a skeleton is accepted; vertex 1 stands for a root that is not named
  pub plain_rows : {most N : ℕ} {E : List ℕ} → IsEdition e → IsSkeleton most (neighbours_in e) N E → Clear (edge_table e most N E 1)
  plain_rows {most} {N} {E} i s =
      clear_both (edition_clear i) ((accepted most (neighbours_in e) N E 1).1 (s, (omega arith, omega (arith, s.tree.edges))))

  -- a skeleton's centred code is one that a line may carry
  pub centred_accepted : {N : ℕ} {E c : List ℕ} → IsEdition e → IsSkeleton size (neighbours_in e) N E → IsCentred N E c → Accept (lines_of e) c
  centred_accepted {N} {E} {c} i s x =
      edition_accept e i c (omega (arith, form-size IsCentred centred-form N E c s.tree x, s.few))
      (others (form_accepted IsCentred centred-form size (neighbours_in e) c N E s x))

-- a lower limit of N
pub wider : {most R N : ℕ} {E : List ℕ} → most ≤ size → IsSkeleton most R N E → IsSkeleton size R N E
wider h s = record { tree = s.tree; few = omega (arith, s.few); degrees = s.degrees }
