-- What an accepted edge list with letters is, and an accepted code with letters. Every other file of this crate has it from here. Assumes nothing.
use Rattle.std.specs.Prelude.{◌≡◌, List, [], ◌∷◌, ℕ, ◌≤◌, length}
use Rattle.std.proofs.Common.{sym, subst, arith}
use Rattle.std.proofs.lemmas.List.{length-map}
use Rattle.refusal.specs.document.Table.{Clear, row3}
use Rattle.refusal.specs.Laws.{others, clear_left, at_most, at_least}
use Rattle.digit_code.specs.document.Code.{decode}
use Rattle.digit_code.specs.Ends.{ends_iff}
use Rattle.digit_code.specs.Counting.{clear_ends}
use Rattle.limits.specs.document.Limits.{size, valence}
use Rattle.limits.specs.Width.{width}
use Rattle.skeleton.specs.document.Skeleton.{IsTree, Degrees, IsSkeleton}
use Rattle.skeleton.specs.document.Label.{rootedₗ, digits, labels}
use Rattle.skeleton.specs.Label.{Valences, Fits, mark_rows}
use Rattle.skeleton.specs.document.Atom.{Atom, C, N, O, bonds}
use Rattle.skeleton.specs.document.AtomMarks.{atoms}
use Rattle.skeleton.specs.General.{code_length, degrees, decoded_tree, decode-code}
use Rattle.skeleton.specs.Accepted.{marks_accepted}
use Rattle.letters.specs.document.Letters.{letters_of}
use Rattle.letters.specs.Lettered.{Lettered}
use Rattle.edge_list.specs.document.Letters.{letter_rows}
use Rattle.edge_list.specs.Letters.{letters_accepted}
use Rattle.edge_list.specs.Tables.{in_rows}
use Rattle.lettered_check.specs.document.Lettered.{lettered_code_rows}
use Rattle.zurkhovel.specs.Rooting.{EndsWhole}

-- an atom has one to four neighbours
pub some_bonds : (a : Atom) → 1 ≤ bonds a
some_bonds C = omega arith
some_bonds N = omega arith
some_bonds O = omega arith

pub few_bonds : (a : Atom) → bonds a ≤ valence
few_bonds C = omega arith
few_bonds N = omega arith
few_bonds O = omega arith

-- marks have as many digits, and as many letters
pub digits_many : (c : List ℕ) → length (digits atoms c) ≡ length c
unfolding digits
digits_many c = length-map c atoms.arity

pub letters_many : (c : List ℕ) → length (letters_of c) ≡ length c
unfolding letters_of
letters_many c = length-map c _

module _ (N : ℕ) (E : List ℕ) (r : ℕ) (s : List ℕ) (k : Clear (letter_rows size valence N E r s)) where
  pub skeleton_of : IsSkeleton size valence N E
  skeleton_of = ((letters_accepted size valence N E r s).0 k).0

  pub tree_of : IsTree N E
  tree_of = skeleton_of.tree

  -- it has a table of neighbours
  pub table_of : IsSkeleton size width N E
  table_of = in_rows (omega arith) skeleton_of

  pub root_of : (1 ≤ r) × (r ≤ N)
  root_of = ((letters_accepted size valence N E r s).0 k).1

  pub lettered_of : Lettered N s
  lettered_of = ((letters_accepted size valence N E r s).0 k).2

  pub few : N ≤ size
  few = skeleton_of.few

  -- its rooted code has N marks
  pub rooted-size : (l : ℕ → Atom) → length (rootedₗ atoms l N E r) ≡ N
  rooted-size l = code_length atoms N E r l tree_of root_of.0 root_of.1

-- ---- codes

module _ (c : List ℕ) (k : Clear (row3 size (length c) ∷ mark_rows atoms valence bonds c)) where
  -- marks that no row refuses decode to a tree whose vertices have no more neighbours than their atoms may have
  pub valences_of : IsTree (length c) (decode (digits atoms c)) × Valences atoms bonds (labels atoms c) (length c) (decode (digits atoms c))
  valences_of =
      let (x, s, v) = (marks_accepted atoms c size valence bonds (omega arith) some_bonds).0 k in
      let fits : Fits atoms bonds c = subst (Fits atoms bonds) (sym x.is) ((degrees atoms x.number x.edges x.root x.label x.tree x.inside.0 x.inside.1 bonds).0 v) in
      let (h, e) = (decode-code atoms c).0 x in
      let t = decoded_tree atoms c h in
      (t, (degrees atoms (length c) (decode (digits atoms c)) 1 (labels atoms c) t (omega arith) (at_least k) bonds).1 (subst (Fits atoms bonds) (sym e) fits))

  -- so to a skeleton
  pub decoded_of : IsSkeleton size valence (length c) (decode (digits atoms c))
  unfolding Valences Degrees
  decoded_of = let (t, own) = valences_of in record { tree = t; few = at_most k; degrees = λ u a b. omega (arith, own u a b, few_bonds (labels atoms c u)) }

  -- whose code at vertex 1 they are
  pub itself_of : rootedₗ atoms (labels atoms c) (length c) (decode (digits atoms c)) 1 ≡ c
  itself_of = let (x, s, v) = (marks_accepted atoms c size valence bonds (omega arith) some_bonds).0 k in ((decode-code atoms c).0 x).1

-- Digits with letters that no row refuses end as a code does.
pub whole_of : (ds ls : List ℕ) → Clear (lettered_code_rows size valence ds ls) → EndsWhole ds
whole_of ds ls k = let d = others (others (others k)) in ((ends_iff ds).1 (clear_ends (clear_left (_ ∷ _ ∷ []) _ (others (others d)))), at_most (others k))
