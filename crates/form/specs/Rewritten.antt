-- Codes written by other numbers in the same order: the N-tuple code and the centred code are rewritten number by number, and the root of the
-- centred code's numbering stays. So an all-carbon skeleton keeps its forms.
--
-- In order: of any codes at the roots; where every vertex is carbon. Assumes nothing.
use Rattle.std.specs.Prelude.{◌≡◌, ◌↔◌, List, map, ℕ}
use Rattle.std.proofs.Common.{ap, sym, ◌∙◌, subst, inl, inr, ⊎_elim}
use Rattle.laws.specs.document.Order.{◌≽◌}
use Rattle.laws.specs.Rising.{Rising, lists_back, same-order}
use Rattle.skeleton.specs.document.Skeleton.{rooted}
use Rattle.skeleton.specs.document.Label.{rootedₗ}
use Rattle.skeleton.specs.document.AtomMarks.{atoms}
use Rattle.skeleton.specs.Carbon.{carbon, carbon_mark}
use Rattle.skeleton.proofs.Carbon.{carbon-marks, all-carbon}
use Rattle.form.specs.document.Form.{NTuple, Centred, IsNTuple, IsCentred}
use Rattle.form.specs.document.Root.{RootOf}
use Rattle.form.specs.Root.{CentredRoot}
use Rattle.form.specs.document.Labelled.{IsNTupleₗ, IsCentredₗ}
use Rattle.form.specs.Labelled.{CentredRootₗ}

-- where d is to the codes `at` what c is to the codes `on`, it is of the form if c is
module _ {N : ℕ} {E : List ℕ} {at on : ℕ → List ℕ} {c d : List ℕ} (is : (v : ℕ) → c ≡ on v → d ≡ at v) (above : (v : ℕ) → c ≽ on v → d ≽ at v) where
  move_n_tuple : NTuple N E on c → NTuple N E at d
  move_n_tuple x = record { root = x.root; inside = x.inside; maximum = x.maximum; is = is x.root x.is; largest = λ v a b q. above v (x.largest v a b q) }

  move_centred : Centred N E on c → Centred N E at d
  move_centred x = record {
    first = x.first;
    second = x.second;
    centre = x.centre;
    either = ⊎_elim (λ q. inl (is x.first q)) (λ q. inr (is x.second q)) x.either;
    above-first = above x.first x.above-first;
    above-second = above x.second x.above-second;
  }

-- the codes `on` are the codes `at`, rewritten
module _ (φ : ℕ → ℕ) (up : Rising φ) (N : ℕ) (E : List ℕ) (at on : ℕ → List ℕ) (e : (v : ℕ) → on v ≡ map φ (at v)) where
  stands : (d : List ℕ) (v : ℕ) → (map φ d ≽ on v) ↔ (d ≽ at v)
  stands d v = rw (e v) (let (there, back) = same-order φ up d (at v) in (back, there))

  is_code : (d : List ℕ) (v : ℕ) → (map φ d ≡ on v) ↔ (d ≡ at v)
  is_code d v = (λ q. lists_back φ up d (at v) (q ∙ e v), λ q. ap (map φ) q ∙ sym (e v))

  pub n_tuple_risen : (d : List ℕ) → NTuple N E on (map φ d) ↔ NTuple N E at d
  n_tuple_risen d = (move_n_tuple (λ v. (is_code d v).0) (λ v. (stands d v).0), move_n_tuple (λ v. (is_code d v).1) (λ v. (stands d v).1))

  pub centred_risen : (d : List ℕ) → Centred N E on (map φ d) ↔ Centred N E at d
  centred_risen d = (move_centred (λ v. (is_code d v).0) (λ v. (stands d v).0), move_centred (λ v. (is_code d v).1) (λ v. (stands d v).1))

  pub root_risen : (r : ℕ) → RootOf N E on r ↔ RootOf N E at r
  root_risen r =
      let stand : (v : ℕ) → (on r ≽ on v) ↔ (at r ≽ at v) = λ v. rw (e r) (stands (at r) v) in
      let same : (v : ℕ) → (on v ≡ on r) ↔ (at v ≡ at r) = λ v. rw (e v) (is_code (at v) r) in (
        λ x. record { middle = x.middle; largest = λ v m. (stand v).0 (x.largest v m); lowest = λ v m q. x.lowest v m ((same v).1 q) },
        λ x. record { middle = x.middle; largest = λ v m. (stand v).1 (x.largest v m); lowest = λ v m q. x.lowest v m ((same v).0 q) },
      )

  -- a code of the form is some code rewritten
  pub n_tuple-from : (c : List ℕ) → NTuple N E on c ↔ ((d : List ℕ) × (c ≡ map φ d) × NTuple N E at d)
  n_tuple-from c = (
    λ x. let d : List ℕ = at x.root in let q : c ≡ map φ d = x.is ∙ e x.root in (d, q, (n_tuple_risen d).0 (subst (NTuple N E on) q x)),
    λ (d, q, y). subst (NTuple N E on) (sym q) ((n_tuple_risen d).1 y),
  )

  pub centred-from : (c : List ℕ) → Centred N E on c ↔ ((d : List ℕ) × (c ≡ map φ d) × Centred N E at d)
  centred-from c = (
    λ x.
        let (d, q) : (d : List ℕ) × (c ≡ map φ d) = ⊎_elim (λ q. (at x.first, q ∙ e x.first)) (λ q. (at x.second, q ∙ e x.second)) x.either in
        (d, q, (centred_risen d).0 (subst (Centred N E on) q x)),
    λ (d, q, y). subst (Centred N E on) (sym q) ((centred_risen d).1 y),
  )

-- ---- carbon

module _ (N : ℕ) (E : List ℕ) where
  -- the N-tuple code of an all-carbon skeleton is that of document 01, by marks
  pub n_tuple-carbon : (c : List ℕ) → IsNTupleₗ atoms N E carbon c ↔ ((d : List ℕ) × (c ≡ map carbon_mark d) × IsNTuple N E d)
  n_tuple-carbon c = n_tuple-from carbon_mark carbon-marks.rising N E (rooted N E) (rootedₗ atoms carbon N E) (all-carbon N E) c

  -- so is the centred code
  pub centred-carbon : (c : List ℕ) → IsCentredₗ atoms N E carbon c ↔ ((d : List ℕ) × (c ≡ map carbon_mark d) × IsCentred N E d)
  centred-carbon c = centred-from carbon_mark carbon-marks.rising N E (rooted N E) (rootedₗ atoms carbon N E) (all-carbon N E) c

  -- and the root of its numbering is document 01's
  pub root-carbon : (r : ℕ) → CentredRootₗ atoms N E carbon r ↔ CentredRoot N E r
  root-carbon = root_risen carbon_mark carbon-marks.rising N E (rooted N E) (rootedₗ atoms carbon N E) (all-carbon N E)
