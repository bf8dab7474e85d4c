-- What is of the centred code of an accepted edge list with letters, written or found too long, answers for the call. Assumes nothing.
use mathlib.Core.Path.{◌≡◌, refl, sym, subst}
use mathlib.Core.List.{List, []}
use Prim.Native.Nat.{ℕ}
use Rattle.refusal.specs.document.Table.{Clear, Outcome, Gives}
use Rattle.refusal.proofs.Behind.{behind}
use Rattle.skeleton.specs.document.Label.{digits}
use Rattle.skeleton.specs.document.Atom.{atom_at}
use Rattle.skeleton.specs.document.AtomMarks.{atoms}
use Rattle.letters.specs.document.Letters.{letters_of}
use Rattle.form.specs.document.Labelled.{IsCentredₗ}
use Rattle.named_lines.specs.document.Named.{named_line}
use Rattle.named.specs.document.Same.{named_list_rows}
use Rattle.named.specs.document.Text.{NamedWriteLine}
use Rattle.named.specs.Two.{only_code}

module _ (N : ℕ) (E : List ℕ) (s : List ℕ) (k : Clear (named_list_rows N E s)) (c : List ℕ) (x : IsCentredₗ atoms N E (atom_at s) c) where
  -- l is what Of has it to be of the code c, and nothing else is
  pub derived :
      {Of : List ℕ → List ℕ → Type 0} (l : List ℕ) → Of c l → ((m : List ℕ) → Of c m → m ≡ l) → {old new : List ℕ} {o : Outcome ℕ} → Gives [] (λ m. m ≡ l) old new o
      → Gives (named_list_rows N E s) (λ m. (d : List ℕ) × IsCentredₗ atoms N E (atom_at s) d × Of d m) old new o
  derived {Of} l h one g = behind k (λ m e. (c, x, subst (Of c) (sym e) h)) (λ m (d, y, z). one m (subst (λ (b : List ℕ). Of b m) (only_code N E s k d c y x) z)) g

  -- its line
  pub lined : {old new : List ℕ} {o : Outcome ℕ} → Gives [] (λ t. t ≡ named_line (digits atoms c) (letters_of c)) old new o → NamedWriteLine N E s old new o
  lined g = derived {Of = λ d t. t ≡ named_line (digits atoms d) (letters_of d)} (named_line (digits atoms c) (letters_of c)) refl (λ m e. e) g
