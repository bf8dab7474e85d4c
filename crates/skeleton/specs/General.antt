-- The theorems of rooted codes with labelled vertices, each under a plain sentence; `Theorems` has them for document 01's codes, where
-- there is one label. A section's first line names what its theorems speak of. Assumes nothing.
use Rattle.std.specs.Prelude.{◌≡◌, ◌↔◌, ℕ, ◌+◌, ◌≤◌}
use Rattle.std.proofs.Math.Path.{refl, sym, subst}
use Rattle.std.proofs.Common.{ap, ◌∙◌}
use mathlib.Core.List.Permᴰ
use mathlib.Core.List.{List, [], ◌∷◌, ◌++◌, map, map-append, cons≢nil, Permᴰ}
use native.Mathlib.Omega.{arith}
use Rattle.std.proofs.Math.ListN.{length, length-map}
use Rattle.digit_code.specs.document.Code.{sum, EndsAt, decode}
use Rattle.digit_code.specs.Ends.{Ends, ends_sum, ends_iff, prefix_free}
use Rattle.skeleton.specs.document.Skeleton.{arcs, IsTree, Renumbering}
use Rattle.skeleton.specs.Forest.{Rooted}
use Rattle.skeleton.specs.Grow.{rooted_tree}
use Rattle.skeleton.specs.document.Label.{Marks, rootedₗ, digits, labels, Keeps}
use Rattle.skeleton.specs.Label.{IsRootedₗ, Valences, Fits}
use Rattle.skeleton.specs.Codes.{rooted-join}
use Rattle.skeleton.specs.Renumber.{same_code}
use Rattle.skeleton.specs.Numbered.{to_decoded, same_tree}
use Rattle.skeleton.specs.Right as Right
use Rattle.skeleton.specs.Degree.{degrees-code}

-- the rooted code at r of a tree with labels l
module _ (M : Marks) (N : ℕ) (E : List ℕ) (r : ℕ) (l : ℕ → M.Label) (t : IsTree N E) (h : 1 ≤ r) (k : r ≤ N) where
  -- decoded, it is the same tree under other numbers, with the root 1, and the labels are kept
  pub code-decode : let c = rootedₗ M l N E r in (ρ : Renumbering N E (decode (digits M c))) × (ρ.to r ≡ 1) × Keeps M N E (decode (digits M c)) l (labels M c) ρ
  code-decode = to_decoded M N E r l (rooted_tree N E r t h k)

  -- it has a mark for each vertex
  pub code_length : length (rootedₗ M l N E r) ≡ N
  code_length = Right.code-size M N E r l (rooted_tree N E r t h k)

  -- its digits add up to one less
  pub digit-sum : sum (digits M (rootedₗ M l N E r)) + 1 ≡ N
  digit-sum = Right.code_sum M N E r l (rooted_tree N E r t h k)

  -- it ends at its last digit
  pub ends : EndsAt (digits M (rootedₗ M l N E r)) N
  unfolding digits
  ends = subst (EndsAt (digits M (rootedₗ M l N E r))) (length-map (rootedₗ M l N E r) M.arity ∙ code_length) ((ends_iff (digits M (rootedₗ M l N E r))).0 (Right.code_ends M N E r l (rooted_tree N E r t h k)))

  -- no vertex has more neighbours than its label allows exactly when no mark tells of more
  pub degrees : (most : M.Label → ℕ) → Valences M most l N E ↔ Fits M most (rootedₗ M l N E r)
  degrees most = degrees-code M most l N E r (rooted_tree N E r t h k)

  -- it does not depend on the order in which edges, or the ends of an edge, are listed
  pub order_free : (F : List ℕ) → Permᴰ (arcs E) (arcs F) → rootedₗ M l N E r ≡ rootedₗ M l N F r
  order_free F π =
      let s : Rooted N E r = rooted_tree N E r t h k in
      let u : Rooted N F r = record {
        forest = s.forest;
        same = Permᴰ.trans (Permᴰ.symm π) s.same;
        apart = s.apart;
        distinct = s.distinct;
        inside = s.inside;
        all = s.all;
        full = s.full;
      } in
      rooted-join M l N E r s ∙ sym (rooted-join M l N F r u)

  -- it is also that of another tree at q exactly when a renumbering carries the one to the other, root to root and label to label
  pub equal-codes : (F : List ℕ) (q : ℕ) (m : ℕ → M.Label) → IsTree N F → 1 ≤ q → q ≤ N
      → (rootedₗ M l N E r ≡ rootedₗ M m N F q) ↔ ((ρ : Renumbering N E F) × (ρ.to r ≡ q) × Keeps M N E F l m ρ)
  equal-codes F q m u i j =
      let s : Rooted N E r = rooted_tree N E r t h k in
      (same_tree M N E F r q l m s (rooted_tree N F q u i j), λ (ρ, e, p). same_code M N E F r l m s ρ p ∙ ap (rootedₗ M m N F) e)

module _ (M : Marks) where
  -- marks whose digits end decode to a tree
  pub decoded_tree : (c : List ℕ) → Ends 1 (digits M c) → IsTree (length c) (decode (digits M c))
  unfolding digits
  decoded_tree c h = subst (λ n. IsTree n (decode (digits M c))) (length-map c M.arity) (Right.decoded_tree (digits M c) h)

  -- c is a rooted code exactly when its digits end and c is the code at vertex 1 of what it decodes to
  pub decode-code : (c : List ℕ) → IsRootedₗ M c ↔ (Ends 1 (digits M c) × (rootedₗ M (labels M c) (length c) (decode (digits M c)) 1 ≡ c))
  unfolding digits
  decode-code c = (
    λ x.
        let s : Rooted x.number x.edges x.root = rooted_tree x.number x.edges x.root x.tree x.inside.0 x.inside.1 in
        subst (λ c. Ends 1 (digits M c) × (rootedₗ M (labels M c) (length c) (decode (digits M c)) 1 ≡ c)) (sym x.is)
        (Right.code_ends M x.number x.edges x.root x.label s, Right.decode-code M x.number x.edges x.root x.label s),
    λ (h, e). record {
      number = length c;
      edges = decode (digits M c);
      label = labels M c;
      root = 1;
      tree = decoded_tree c h;
      inside = (omega arith, omega (arith, ends_sum 1 (digits M c) h, length-map c M.arity));
      is = sym e;
    },
  )

  -- no rooted code begins another
  pub prefix : (c s : List ℕ) → IsRootedₗ M c → IsRootedₗ M (c ++ s) → s ≡ []
  unfolding digits
  prefix c s x y =
      no_mark s (prefix_free 1 (digits M c) (digits M s) ((decode-code c).0 x).0 (subst (Ends 1) (map-append M.arity c s) ((decode-code (c ++ s)).0 y).0))
    where
      no_mark : (s : List ℕ) → map M.arity s ≡ [] → s ≡ []
      no_mark [] e = refl
      no_mark (m ∷ s) e = absurd (cons≢nil e)
