-- What every public call tells fits into bytes: a refusal's number is 1 to 255 and its place below 256, and fewer than 256 bytes are written. Read
-- from the call's promise alone; o: what is told of its result. That each table refuses so is in `Bounds`; a refusal with 15 has the length of a
-- right result for its place, so the lengths of the results serve for both.
--
-- In order: how long what is written is; the calls on digit codes and edge lists. Those of the other modules are in `PlacesBits`, `PlacesMatrix` and
-- `PlacesText`. Assumes nothing.
use Rattle.std.specs.Prelude.{◌≡◌, List, ℕ, ◌-◌, ◌*◌, ◌≤◌, length}
use Rattle.std.proofs.Common.{ap, arith}
use Rattle.refusal.specs.document.Table.{Clear, Outcome}
use Rattle.refusal.specs.document.Small.{Small, SmallOf, SmallAnswer}
use Rattle.refusal.specs.Laws.{others, clear_left, at_most}
use Rattle.refusal.specs.Bounded.{small, small-check}
use Rattle.refusal.proofs.Bounded.{small-written}
use Rattle.limits.specs.document.Limits.{size}
use Rattle.digit_code.specs.document.Code.{decode}
use Rattle.digit_code.specs.Ends.{Ends}
use Rattle.digit_code.specs.Right.{clear_right}
use Rattle.skeleton.specs.Theorems.{decoded_tree}
use Rattle.form.specs.document.Form.{IsNTuple, IsCentred}
use Rattle.form.specs.Forms.{IsForm, n_tuple-form, centred-form, form-size}
use Rattle.zurkhovel.specs.document.Codes.{CheckCode, DecodeCode, DecodeForm, CheckEdges, RootedCode, FormCode}
use Rattle.zurkhovel.specs.document.Same.{Finding, SameSkeleton}
use Rattle.zurkhovel.specs.Listed.{bounded_lists}
use Rattle.zurkhovel.specs.Accepted.{tree_of, rooted-size}
use Rattle.zurkhovel.specs.Bounds.{code_bounded, form_bounded, edges_bounded}
use Rattle.edition.specs.document.Edition.{neighbours_in}
use Rattle.zurkhovel.specs.document.InEdition.{code_table, edge_table}

-- ---- how long

-- the edges of digits that end: two for each vertex but the root
pub edges-of : (c : List ℕ) → Ends 1 c → length (decode c) ≡ 2 * (length c - 1)
edges-of c e = omega (arith, (decoded_tree c e).edges)

module _ (e : ℕ) where
  -- the code of a form of an accepted edge list has a digit for each vertex
  pub form_few :
      (form : ℕ → List ℕ → List ℕ → Type 0) → IsForm form → (N : ℕ) (E : List ℕ) → Clear (edge_table e size N E 1) → (c : List ℕ) → form N E c → length c ≤ size
  form_few form f N E k c x = omega (arith, form-size form f N E c (tree_of N E 1 k) x, at_most (others k))

  -- ---- the calls

  pub places-check-code : (c : List ℕ) (o : Outcome ℕ) → CheckCode e c o → SmallAnswer o
  places-check-code c o g = small-check (code_bounded e c) g

  -- the edges of a right code
  decoded_few : (c : List ℕ) → Clear (code_table e c) → length (decode c) ≤ 2 * (size - 1)
  decoded_few c k = let r = clear_right size (neighbours_in e) c (others k) in omega (arith, edges-of c r.ends, r.few)

  pub places-decode-code : (c old new : List ℕ) (o : Outcome ℕ) → DecodeCode e c old new o → SmallAnswer o
  places-decode-code c old new o g = small-written (code_bounded e c) (λ k E e. omega (arith, ap length e, decoded_few c k)) g

  -- of either form
  pub places-decode-form : (form : ℕ → List ℕ → List ℕ → Type 0) (c old new : List ℕ) (o : Outcome ℕ) → DecodeForm e form c old new o → SmallAnswer o
  places-decode-form form c old new o g =
      small-written (form_bounded e form c) (λ k E q. omega (arith, ap length q, decoded_few c (clear_left (code_table e c) _ k))) g

  pub places-check-edges : (N : ℕ) (E : List ℕ) (r : ℕ) (o : Outcome ℕ) → CheckEdges e N E r o → SmallAnswer o
  places-check-edges N E r o g = small-check (edges_bounded e (omega arith) N E r) g

  pub places-rooted-code : (N : ℕ) (E : List ℕ) (r : ℕ) (old new : List ℕ) (o : Outcome ℕ) → RootedCode e N E r old new o → SmallAnswer o
  places-rooted-code N E r old new o g =
      small-written (edges_bounded e (omega arith) N E r) (λ k c e. omega (arith, ap length e, rooted-size E k, at_most (others k))) g

  places-form-code :
      (form : ℕ → List ℕ → List ℕ → Type 0) → IsForm form → (N : ℕ) (E old new : List ℕ) (o : Outcome ℕ) → FormCode e form N E old new o → SmallAnswer o
  places-form-code form f N E old new o g =
      small-written (edges_bounded e (omega arith) N E 1) (λ k c x. omega (arith, form_few form f N E k c x)) g

  pub places-n_tuple-code : (N : ℕ) (E old new : List ℕ) (o : Outcome ℕ) → FormCode e IsNTuple N E old new o → SmallAnswer o
  places-n_tuple-code = places-form-code IsNTuple n_tuple-form

  pub places-centred-code : (N : ℕ) (E old new : List ℕ) (o : Outcome ℕ) → FormCode e IsCentred N E old new o → SmallAnswer o
  places-centred-code = places-form-code IsCentred centred-form

  -- any verdict is given, or the refusal of list 1 or 2, or 22, is small
  pub places-same-skeleton :
      (N : ℕ) (E : List ℕ) (P : ℕ) (F : List ℕ) (o : Finding) → SameSkeleton e N E P F o → Small (SmallOf 2) (λ same. Unit {0}) o
  places-same-skeleton N E P F o g = small (bounded_lists 2 e N P E F (omega arith)) (λ k a r. tt) g
