-- A renumbering carries a skeleton's rooted codes and degrees, and so its centred code and its N-tuple code. That equal codes come from a
-- renumbering is in `Forms`. Assumes nothing.
use Rattle.std.specs.Prelude.{◌≡◌, refl, List, ℕ, ◌≤◌, length}
use Rattle.std.proofs.Common.{ap, sym, ◌∙◌, arith}
use Rattle.laws.specs.Perms.{perm_length}
use Rattle.digit_code.specs.document.Code.{digit}
use Rattle.skeleton.specs.document.Skeleton.{degree, IsTree, rooted, Renumbering}
use Rattle.skeleton.specs.Forest.{Rooted}
use Rattle.skeleton.specs.Grow.{rooted_tree}
use Rattle.skeleton.specs.document.Label.{Marks, joinₗ, rootedₗ, Keeps}
use Rattle.skeleton.specs.Codes.{neighbours_perm, near, rooted-join}
use Rattle.skeleton.specs.Degree.{roots_length}
use Rattle.skeleton.specs.Sorted.{branches_length}
use Rattle.skeleton.specs.Renumber.{renumbered, same_code}
use Rattle.skeleton.specs.Base.{base, rooted-base}
use Rattle.longest_path.specs.Theorems.{centre_inside, centre-carried}
use Rattle.form.specs.document.Form.{NTuple, Centred}

-- the root's digit is its degree
root-digit : (N : ℕ) (E : List ℕ) (r : ℕ) → Rooted N E r → digit (rooted N E r) 1 ≡ degree E r
unfolding joinₗ degree
root-digit N E r t =
    ap (λ c. digit c 1) (sym (rooted-base (λ v. tt) N E r) ∙ rooted-join base (λ v. tt) N E r t)
    ∙ branches_length base (λ v. tt) t.forest
    ∙ sym (perm_length (neighbours_perm r t.same) ∙ ap length (near r t.forest t.apart) ∙ roots_length t.forest)

-- where vertices have labels, and they are carried too
pub rooted_carriedₗ : (M : Marks) (N : ℕ) (E F : List ℕ) (l m : ℕ → M.Label) → IsTree N E → (ρ : Renumbering N E F) → Keeps M N E F l m ρ → (v : ℕ) → 1 ≤ v → v ≤ N
    → rootedₗ M l N E v ≡ rootedₗ M m N F (ρ.to v)
rooted_carriedₗ M N E F l m t ρ k v a b = same_code M N E F v l m (rooted_tree N E v t a b) ρ k

module _ (N : ℕ) (E F : List ℕ) (t : IsTree N E) (ρ : Renumbering N E F) where
  rooted-carried : (v : ℕ) → 1 ≤ v → v ≤ N → rooted N E v ≡ rooted N F (ρ.to v)
  rooted-carried v h k =
      sym (rooted-base (λ v. tt) N E v) ∙ rooted_carriedₗ base N E F (λ v. tt) (λ v. tt) t ρ (λ v a b. refl) v h k ∙ rooted-base (λ v. tt) N F (ρ.to v)

  degree-carried : (v : ℕ) → 1 ≤ v → v ≤ N → degree E v ≡ degree F (ρ.to v)
  degree-carried v h k =
      let s : Rooted N E v = rooted_tree N E v t h k in
      sym (root-digit N E v s) ∙ ap (λ c. digit c 1) (rooted-carried v h k) ∙ root-digit N F (ρ.to v) (renumbered N E F ρ v s)

  -- where the codes at the roots are carried too
  module _ (at on : ℕ → List ℕ) (same : (v : ℕ) → 1 ≤ v → v ≤ N → at v ≡ on (ρ.to v)) where
    pub carry-centred : {c : List ℕ} → Centred N E at c → Centred N F on c
    carry-centred {c} x =
        let ((a, b), (g, h)) = centre_inside N E t x.first x.second x.centre in
        let e : at x.first ≡ on (ρ.to x.first) = same x.first a b in
        let f : at x.second ≡ on (ρ.to x.second) = same x.second g h in
        record {
          first = ρ.to x.first;
          second = ρ.to x.second;
          centre = centre-carried N E t F ρ x.first x.second x.centre;
          either = rw (← e, ← f) x.either;
          above-first = rw (← e) x.above-first;
          above-second = rw (← f) x.above-second;
        }

    pub carry-n_tuple : {c : List ℕ} → NTuple N E at c → NTuple N F on c
    carry-n_tuple {c} x =
        let (a, b) = x.inside in
        let d : degree E x.root ≡ degree F (ρ.to x.root) = degree-carried x.root a b in
        record {
          root = ρ.to x.root;
          inside = ρ.to_in x.root a b;
          maximum = λ v h k. let (i, j) = ρ.from_in v h k in omega (arith, x.maximum (ρ.from v) i j, from-degree v h k);
          is = x.is ∙ same x.root a b;
          largest = λ v h k e. let (i, j) = ρ.from_in v h k in rw (← from-code v h k) (x.largest (ρ.from v) i j (omega (arith, from-degree v h k)));
        }
      where
        from-degree : (v : ℕ) → 1 ≤ v → v ≤ N → degree E (ρ.from v) ≡ degree F v
        from-degree v h k = let (i, j) = ρ.from_in v h k in degree-carried (ρ.from v) i j ∙ ap (degree F) (ρ.to_from v h k)

        from-code : (v : ℕ) → 1 ≤ v → v ≤ N → at (ρ.from v) ≡ on v
        from-code v h k = let (i, j) = ρ.from_in v h k in same (ρ.from v) i j ∙ ap on (ρ.to_from v h k)
