-- Two accepted edge lists with letters: their codes, and the map from one to the other. Assumes nothing.
use Rattle.std.specs.Prelude.{◌≡◌, true, false, List, [], ℕ, ◌*◌, ◌≤◌, length}
use Rattle.std.proofs.Common.{sym, ◌∙◌, subst}
use Rattle.refusal.specs.document.Table.{Clear}
use Rattle.limits.specs.document.Limits.{size}
use Rattle.skeleton.specs.document.Label.{rootedₗ}
use Rattle.skeleton.specs.document.Atom.{atom_at}
use Rattle.skeleton.specs.document.AtomMarks.{atoms}
use Rattle.numbering.specs.document.Pairs.{rooted_pairsₗ}
use Rattle.numbering.specs.Numbers.{pairsₗ}
use Rattle.numbering.proofs.Pairs.{pairs_countedₗ}
use Rattle.form.specs.document.Labelled.{IsCentredₗ}
use Rattle.form.specs.Labelled.{centred_formₗ, form_sizeₗ}
use Rattle.form.specs.Root.{root-centred}
use Rattle.form_coder.specs.Sums.{middles-same, marks_few}
use Rattle.renumber.specs.document.Kept.{HandedKept}
use Rattle.zurkhovel.specs.Handing.{Only}
use Rattle.named.specs.document.Codes.{NamedMiddles}
use Rattle.named.specs.document.Same.{named_list_rows, NamedEqualCodes}
use Rattle.named.specs.Accepted.{tree_of, table_of}

-- no row belongs to no list
pub nothing_else : Clear {K = ℕ} []
nothing_else = record { nowhere = λ k p a. a }

module _ (N : ℕ) (E s : List ℕ) (k : Clear (named_list_rows N E s)) where
  -- a list has one code, of N marks
  pub only_code : Only (IsCentredₗ atoms N E (atom_at s))
  only_code c d = (centred_formₗ atoms).one N E (atom_at s) (tree_of N E 1 s k)

  pub code-size : (c : List ℕ) → IsCentredₗ atoms N E (atom_at s) c → length c ≡ N
  code-size c = form_sizeₗ atoms (IsCentredₗ atoms) (centred_formₗ atoms) N E (atom_at s) c (tree_of N E 1 s k)

  -- what is looked at for it is not much
  pub named_few : {n : ℕ} → NamedMiddles N E s n → n ≤ 2 * (size * size)
  named_few x =
      marks_few (table_of N E 1 s k) (atom_at s)
      (middles-same (tree_of N E 1 s k) (rooted_pairsₗ atoms (atom_at s) N E) (pairsₗ atoms (atom_at s) N E) (λ v a b. sym (pairs_countedₗ atoms (atom_at s) N E v (tree_of N E 1 s k) a b)) x)

module _ (N : ℕ) (E s : List ℕ) (P : ℕ) (F u : List ℕ) (k : Clear (named_list_rows N E s)) (l : Clear (named_list_rows P F u)) where
  -- lists of different sizes have no code in common
  pub sizes_apart : (N ≡ P → ⊥) → NamedEqualCodes N E s P F u false
  sizes_apart n c x y = n (sym (code-size N E s k c x) ∙ code-size P F u l c y)

  -- where there is a map, they have one
  pub kept-codes : (w : List ℕ) → HandedKept atoms (atom_at s) (atom_at u) N E P F w → NamedEqualCodes N E s P F u true
  kept-codes w x = (
    rootedₗ atoms (atom_at s) N E x.root,
    root-centred (tree_of N E 1 s k) x.rule,
    subst (IsCentredₗ atoms P F (atom_at u)) (sym x.codes) (root-centred (tree_of P F 1 u l) x.rule₂),
  )

-- a map that is handed out has an entry for each vertex
pub kept_length : (N : ℕ) (E s : List ℕ) (P : ℕ) (F u w : List ℕ) → HandedKept atoms (atom_at s) (atom_at u) N E P F w → length w ≡ N
kept_length N E s P F u w x = x.renumbers.0.1
