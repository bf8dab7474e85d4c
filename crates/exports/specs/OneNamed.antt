-- Read from its promise alone, every C function on skeletons with named atoms has one possible whole number, one possible state of what was lent to it, and, where it hands over how many pairs
-- were looked at, one number of them. r, q: two answers to the same input; new, new' and spelled, spelled': the lent outputs, or the place of a value, after each; m, m': the number. Each is the
-- call's own theorem (`One` and `OneReported` of the crate `named`) through the packing, or of a call that only checks the law that its theorem stands on, as in `One`. `zk_named_read_text` and `zk_named_list` promise word for word what their calls do.
--
-- In order: codes and edge lists; a line, and equal vertices; two lists. Those of the forms that take carbon only are in `One` and `OneReported`, over any table. Assumes nothing.
use Rattle.std.specs.Prelude.{◌≡◌, List, ℕ}
use Rattle.refusal.specs.document.Both.{TwoOutputs}
use Rattle.skeleton.specs.document.AtomMarks.{atoms}
use Rattle.form.specs.document.Labelled.{IsNTupleₗ, IsCentredₗ}
use Rattle.refusal.specs.document.Reported.{Reporting}
use Rattle.named.specs.document.Codes.{NamedCheckCode, NamedDecodeCode, NamedDecodeForm, NamedCheckEdges, NamedRootedCode, NamedFormCode, NamedAtRoot, NamedWidest, NamedMiddles}
use Rattle.named.specs.document.Same.{NamedSameSkeleton, NamedHandOut, NamedCheckRenumbering, NamedOfBoth}
use Rattle.named.specs.document.Text.{NamedWriteLine, NamedReadLine}
use Rattle.named.specs.document.Alike.{NamedEqualVertices}
use Rattle.zurkhovel.specs.One as codes
use Rattle.zurkhovel.specs.OneMaps as carried
use Rattle.named.specs.One as answers
use Rattle.named.specs.OneReported as calls
use Rattle.packing.specs.document.Packing.{PackedAnswer, PackedFinding, PackedMapping}
use Rattle.exports.specs.One.{one-check, one-judged}
use Rattle.exports.specs.One as plain
use Rattle.exports.specs.OneReported as reported

-- ---- codes and edge lists

pub one_zk_named_check_code : (ds ls : List ℕ) (r q : ℕ) → PackedAnswer (NamedCheckCode ds ls) r → PackedAnswer (NamedCheckCode ds ls) q → r ≡ q
one_zk_named_check_code ds ls = one-check codes.one-check

pub one_zk_named_decode_code :
    (ds ls : List ℕ) (old new new' : TwoOutputs) (r q : ℕ) → PackedAnswer (NamedDecodeCode ds ls old new) r → PackedAnswer (NamedDecodeCode ds ls old new') q → (r ≡ q) × (new ≡ new')
one_zk_named_decode_code ds ls old new new' = plain.one_written (answers.one-named-decode-code ds ls old new new')

pub one_zk_named_decode_n_tuple :
    (ds ls : List ℕ) (old new new' : TwoOutputs) (r q : ℕ) → PackedAnswer (NamedDecodeForm (IsNTupleₗ atoms) ds ls old new) r → PackedAnswer (NamedDecodeForm (IsNTupleₗ atoms) ds ls old new') q → (r ≡ q) × (new ≡ new')
one_zk_named_decode_n_tuple ds ls old new new' = plain.one_written (answers.one-named-decode-n_tuple ds ls old new new')

pub one_zk_named_decode_centred :
    (ds ls : List ℕ) (old new new' : TwoOutputs) (r q : ℕ) → PackedAnswer (NamedDecodeForm (IsCentredₗ atoms) ds ls old new) r → PackedAnswer (NamedDecodeForm (IsCentredₗ atoms) ds ls old new') q → (r ≡ q) × (new ≡ new')
one_zk_named_decode_centred ds ls old new new' = plain.one_written (answers.one-named-decode-centred ds ls old new new')

module _ (N : ℕ) (E s : List ℕ) where
  pub one_zk_named_check_edges : (root r q : ℕ) → PackedAnswer (NamedCheckEdges N E s root) r → PackedAnswer (NamedCheckEdges N E s root) q → r ≡ q
  one_zk_named_check_edges root = one-check codes.one-check

  pub one_zk_named_rooted_code :
      (root : ℕ) (old new new' : TwoOutputs) (m m' r q : ℕ) → PackedAnswer (λ o. Reporting (NamedRootedCode N E s root old new) (NamedAtRoot N E s root) o m) r
      → PackedAnswer (λ o. Reporting (NamedRootedCode N E s root old new') (NamedAtRoot N E s root) o m') q → (r ≡ q) × (new ≡ new') × (m ≡ m')
  one_zk_named_rooted_code root old new new' = reported.one_written (calls.one-named-rooted-code-reported N E s root old new new')

  pub one_zk_named_n_tuple_code :
      (old new new' : TwoOutputs) (m m' r q : ℕ) → PackedAnswer (λ o. Reporting (NamedFormCode (IsNTupleₗ atoms) N E s old new) (NamedWidest N E s) o m) r
      → PackedAnswer (λ o. Reporting (NamedFormCode (IsNTupleₗ atoms) N E s old new') (NamedWidest N E s) o m') q → (r ≡ q) × (new ≡ new') × (m ≡ m')
  one_zk_named_n_tuple_code old new new' = reported.one_written (calls.one-named-n_tuple-code-reported N E s old new new')

  pub one_zk_named_centred_code :
      (old new new' : TwoOutputs) (m m' r q : ℕ) → PackedAnswer (λ o. Reporting (NamedFormCode (IsCentredₗ atoms) N E s old new) (NamedMiddles N E s) o m) r
      → PackedAnswer (λ o. Reporting (NamedFormCode (IsCentredₗ atoms) N E s old new') (NamedMiddles N E s) o m') q → (r ≡ q) × (new ≡ new') × (m ≡ m')
  one_zk_named_centred_code old new new' = reported.one_written (calls.one-named-centred-code-reported N E s old new new')

  -- ---- a line, and equal vertices

  pub one_zk_named_write_line :
      (old new new' : List ℕ) (m m' r q : ℕ) → PackedAnswer (λ o. Reporting (NamedWriteLine N E s old new) (NamedMiddles N E s) o m) r
      → PackedAnswer (λ o. Reporting (NamedWriteLine N E s old new') (NamedMiddles N E s) o m') q → (r ≡ q) × (new ≡ new') × (m ≡ m')
  one_zk_named_write_line old new new' = reported.one_written (calls.one-named-write-line-reported N E s old new new')

  pub one_zk_named_equal_vertices :
      (old new new' : List ℕ) (m m' r q : ℕ) → PackedAnswer (λ o. Reporting (NamedEqualVertices N E s old new) (NamedMiddles N E s) o m) r
      → PackedAnswer (λ o. Reporting (NamedEqualVertices N E s old new') (NamedMiddles N E s) o m') q → (r ≡ q) × (new ≡ new') × (m ≡ m')
  one_zk_named_equal_vertices old new new' = reported.one_written (calls.one-named-equal-vertices-reported N E s old new new')

-- the digits and the letters of a line
pub one_zk_named_read_line :
    (t old letters new new' spelled spelled' : List ℕ) (r q : ℕ) → PackedAnswer (NamedReadLine t old letters new spelled) r → PackedAnswer (NamedReadLine t old letters new' spelled') q
    → (r ≡ q) × (new ≡ new') × (spelled ≡ spelled')
one_zk_named_read_line t old letters new new' spelled spelled' r q x y =
    let (e, (f, g)) = plain.one_written {Same = (new ≡ new') × (spelled ≡ spelled')} (λ a b u v. let (h, i, j) = answers.one-named-read-line t old letters new new' spelled spelled' a b u v in (h, (i, j))) r q x y in
    (e, f, g)

-- ---- two lists

module _ (N : ℕ) (E s : List ℕ) (P : ℕ) (F u : List ℕ) where
  pub one_zk_named_same_skeleton :
      (m m' r q : ℕ) → PackedFinding (λ o. Reporting (NamedSameSkeleton N E s P F u) (NamedOfBoth N E s P F u) o m) r
      → PackedFinding (λ o. Reporting (NamedSameSkeleton N E s P F u) (NamedOfBoth N E s P F u) o m') q → (r ≡ q) × (m ≡ m')
  one_zk_named_same_skeleton = reported.one_found (calls.one-named-same-skeleton-reported N E s P F u)

  pub one_zk_named_renumbering :
      (old new new' : List ℕ) (m m' r q : ℕ) → PackedMapping (λ o. Reporting (NamedHandOut N E s P F u old new) (NamedOfBoth N E s P F u) o m) r
      → PackedMapping (λ o. Reporting (NamedHandOut N E s P F u old new') (NamedOfBoth N E s P F u) o m') q → (r ≡ q) × (new ≡ new') × (m ≡ m')
  one_zk_named_renumbering old new new' = reported.one-handed (calls.one-named-renumbering-reported N E s P F u old new new')

  pub one_zk_named_check_renumbering :
      (w : List ℕ) (r q : ℕ) → PackedMapping (NamedCheckRenumbering N E s P F u w) r → PackedMapping (NamedCheckRenumbering N E s P F u w) q → r ≡ q
  one_zk_named_check_renumbering w = one-judged carried.one-map-check
