-- The atoms that the letters of an accepted edge list name, and the pairs that are counted over them. Assumes nothing.
use mathlib.Core.Path.{◌≡◌, ◌∙◌, subst}
use mathlib.Core.List.{List}
use Prim.Native.Nat.{ℕ, ◌≤◌}
use native.Mathlib.Omega.{arith}
use lib.ListN.{length}
use Rattle.refusal.specs.document.Table.{Clear, Writes}
use Rattle.limits.specs.document.Limits.{size, valence}
use Rattle.limits.specs.Width.{width}
use Rattle.skeleton.specs.document.Skeleton.{IsSkeleton}
use Rattle.skeleton.specs.document.Atom.{Atom, atom_at}
use Rattle.skeleton.specs.document.AtomMarks.{atoms}
use Rattle.numbering.specs.document.Pairs.{rooted_pairsₗ}
use Rattle.numbering.specs.Numbers.{pairsₗ}
use Rattle.numbering.proofs.Pairs.{pairs_countedₗ}
use Rattle.letters.specs.Named.{Named, Ranked}
use Rattle.edge_list.specs.document.Letters.{letter_rows}
use Rattle.form.specs.document.Labelled.{IsCentredₗ}
use Rattle.form_coder.specs.Numbered.{Numberedₗ}
use Rattle.form_coder.specs.document.Pairs.{OverMiddles, OverWidest}
use Rattle.form_coder.specs.Sums.{middles-same, widest-same}
use Rattle.named.specs.document.Codes.{NamedAtRoot, NamedWidest, NamedMiddles}
use Rattle.named.specs.Marked.{Codes}
use Rattle.named.specs.Accepted.{tree_of, table_of, root_of, lettered_of, few}

module _ (N : ℕ) (E : List ℕ) (r : ℕ) (s : List ℕ) (k : Clear (letter_rows size valence N E r s)) where
  -- they are at most 64
  pub few_letters : length s ≤ size
  few_letters = omega (arith, (lettered_of N E r s k).many, few N E r s k)

  module _ {a : List ℕ} (n : Named (length s) (atom_at s) a) where
    -- and name the atoms of all vertices
    pub named-all : Named N (atom_at s) a
    named-all = subst (λ (i : ℕ). Named i (atom_at s) a) (lettered_of N E r s k).many n

    pub ready : IsSkeleton size width N E × Ranked N a
    ready = (table_of N E r s k, record { label = atom_at s; named = named-all })

  -- what is counted, by the definition
  count : (v : ℕ) → 1 ≤ v → v ≤ N → pairsₗ atoms (atom_at s) N E v ≡ rooted_pairsₗ atoms (atom_at s) N E v
  count v a b = pairs_countedₗ atoms (atom_at s) N E v (tree_of N E r s k) a b

  module _ {Right : List ℕ → Type 0} {old new : List ℕ} {n : ℕ} where
    pub coded-root : Writes Right old N new × (n ≡ pairsₗ atoms (atom_at s) N E r) → Codes Right (NamedAtRoot N E s r) old N new n
    coded-root (w, e) = record { writes = w; counts = let (a, b) = root_of N E r s k in e ∙ count r a b }

    pub coded-widest : Writes Right old N new × OverWidest N E (pairsₗ atoms (atom_at s) N E) n → Codes Right (NamedWidest N E s) old N new n
    coded-widest (w, x) = record { writes = w; counts = widest-same (tree_of N E r s k) (pairsₗ atoms (atom_at s) N E) (rooted_pairsₗ atoms (atom_at s) N E) count x }

    pub coded-middles : Writes Right old N new × OverMiddles N E (pairsₗ atoms (atom_at s) N E) n → Codes Right (NamedMiddles N E s) old N new n
    coded-middles (w, x) = record { writes = w; counts = middles-same (tree_of N E r s k) (pairsₗ atoms (atom_at s) N E) (rooted_pairsₗ atoms (atom_at s) N E) count x }

-- the centred code that is written with its order is the centred code
pub centred-written : (l : ℕ → Atom) (N : ℕ) (E : List ℕ) {n : ℕ} (o : List ℕ) {old new : List ℕ} → Writes (Numberedₗ l N E o) old n new → Writes (IsCentredₗ atoms N E l) old n new
centred-written l N E o w = record { result = w.result; right = w.right.right; count = w.count; lies = w.lies }
