-- Document 01, "Numbering by code": "The vertex of the i-th digit gets number i." The order of the vertices by any marks and children that read the tree right: its marks
-- are the rooted code, and numbering each vertex by its place in it carries the tree to what its code decodes to (`numbering`).
--
-- In order: what it is to read the tree right; what the order of the vertices is; marks and children on a forest; the theorem. What rests on `insert_by` is in
-- `proofs.Numbering`. Assumes nothing.
use Rattle.std.specs.Prelude.{◌≡◌, get_or}
use Rattle.std.proofs.Math.Path.{refl, ap, sym}
use Rattle.std.proofs.Common.{◌∙◌, subst}
use mathlib.Core.List.Memᴰ
use mathlib.Core.List.{List, ◌∷◌, ◌++◌, map, Memᴰ, Permᴰ}
use Prim.Native.Nat.{ℕ, ◌-◌, ◌≤◌}
use native.Mathlib.Omega.{arith}
use Rattle.std.proofs.Math.ListN.{length}
use Rattle.laws.specs.Perms.{perm_length}
use Rattle.laws.specs.document.Once.{Once}
use Rattle.skeleton.specs.document.Skeleton.{Arc, arcs, neighbours, degree, children}
use Rattle.skeleton.specs.Forest.{Forest, none, tree, vertices, Rooted}
use Rattle.skeleton.specs.document.Label.{Marks, rootedₗ}
use Rattle.skeleton.specs.Codes.{roots, root_in, neighbours_perm, near, Good, good, children-all, children-but}
use Rattle.skeleton.specs.Decoding.{width}
use Rattle.skeleton.specs.Degree.{roots_length}
use Rattle.skeleton.specs.Numbered.{ToldBy}
use Rattle.numbering.specs.Turned.{Follows}

-- m gives the marks and K the children, in any order, of the tree E of N vertices with the root r
pub record Reads (M : Marks) (label : ℕ → M.Label) (N : ℕ) (E : List ℕ) (r : ℕ) (m : ℕ → ℕ) (K : ℕ → ℕ → List ℕ) : Type 0 where
  pub kids : (p v : ℕ) → 1 ≤ v → v ≤ N → Permᴰ (K p v) (children (arcs E) p v)
  pub top : m r ≡ M.mark (degree E r) (label r)
  pub rest : (v : ℕ) → 1 ≤ v → v ≤ N → (v ≡ r → ⊥) → m v ≡ M.mark (degree E v - 1) (label v)

-- o is an order of the vertices, each once, the root first: their marks are the rooted code, and numbered by their places in it they are the
-- tree that the code decodes to
pub record Orders (M : Marks) (label : ℕ → M.Label) (N : ℕ) (E : List ℕ) (r : ℕ) (m : ℕ → ℕ) (o : List ℕ) : Type 0 where
  pub all : length o ≡ N
  pub once : Once o
  pub first : get_or o 0 0 ≡ r
  pub within : (v : ℕ) → Memᴰ v o → (1 ≤ v) × (v ≤ N)
  pub has : (v : ℕ) → 1 ≤ v → v ≤ N → Memᴰ v o
  pub code : map m o ≡ rootedₗ M label N E r
  pub numbers : ToldBy M N E r label o (rootedₗ M label N E r)

-- each of l is a vertex, and not the root
abbrev Under : ℕ → ℕ → List ℕ → Type 0
Under N r l = (v : ℕ) → Memᴰ v l → (1 ≤ v) × (v ≤ N) × (v ≡ r → ⊥)

under_left : (N r v : ℕ) (l k : List ℕ) → Under N r (v ∷ (l ++ k)) → Under N r l
under_left N r v l k u w h = u w (Memᴰ.tail (Memᴰ.append_left k h))

under_right : (N r v : ℕ) (l k : List ℕ) → Under N r (v ∷ (l ++ k)) → Under N r k
under_right N r v l k u w h = u w (Memᴰ.tail (Memᴰ.append_right l h))

module _ (M : Marks) (label : ℕ → M.Label) (m : ℕ → ℕ) where
  -- m gives each vertex of a forest its mark
  abbrev pub Fit : Forest → Type 0
  Fit none = Unit {0}
  Fit (tree v d f) = (m v ≡ M.mark (width d) (label v)) × Fit d × Fit f

module _ (M : Marks) (label : ℕ → M.Label) (N : ℕ) (E : List ℕ) (r : ℕ) (m : ℕ → ℕ) (K : ℕ → ℕ → List ℕ) (ρ : Reads M label N E r m K) where
  abbrev A : List Arc
  A = arcs E

  follows : (p : ℕ) (f : Forest) → Good A p f → Under N r (vertices f) → Follows K p f
  unfolding vertices
  follows p none g u = tt
  follows p (tree v d f) (π, i, g, h) u =
      let (a, b, c) = u v (Memᴰ.head refl) in (
        Permᴰ.trans (ρ.kids p v a b) (children-but A p v (roots d) π i),
        follows v d g (under_left N r v (vertices d) (vertices f) u),
        follows p f h (under_right N r v (vertices d) (vertices f) u),
      )

  fit : (p : ℕ) (f : Forest) → Good A p f → Under N r (vertices f) → Fit M label m f
  unfolding vertices degree
  fit p none g u = tt
  fit p (tree v d f) (π, i, g, h) u =
      let (a, b, c) = u v (Memᴰ.head refl) in
      let e : length (neighbours A v) - 1 ≡ width d = omega (arith, perm_length π, roots_length d) in (
        ρ.rest v a b c ∙ ap (λ k. M.mark k (label v)) e,
        fit v d g (under_left N r v (vertices d) (vertices f) u),
        fit p f h (under_right N r v (vertices d) (vertices f) u),
      )

  -- of the tree as any forest
  module _ (t : Rooted N E r) where
    is_root : (1 ≤ r) × (r ≤ N)
    is_root = t.inside r (Memᴰ.head refl)

    is_under : Under N r (vertices t.forest)
    is_under v h = let (a, b) = t.inside v (Memᴰ.tail h) in (a, b, λ e. t.apart (Memᴰ.cast (sym e) h))

    is_good : Good A r t.forest
    is_good = good A r t.forest t.same t.apart t.distinct

    root_near : Permᴰ (neighbours A r) (roots t.forest)
    root_near = subst (λ l. Permᴰ (neighbours A r) l) (near r t.forest t.apart) (neighbours_perm r t.same)

    pub root-kids : Permᴰ (K 0 r) (roots t.forest)
    root-kids =
        Permᴰ.trans (ρ.kids 0 r is_root.0 is_root.1)
        (children-all A 0 r (roots t.forest) root_near (λ h. let z : ⊥ = omega (arith, t.inside 0 (Memᴰ.tail (root_in t.forest h))) in z))

    pub root-mark : m r ≡ M.mark (width t.forest) (label r)
    unfolding degree
    root-mark = ρ.top ∙ ap (λ k. M.mark k (label r)) (perm_length root_near ∙ roots_length t.forest)

    pub is_followed : Follows K r t.forest
    is_followed = follows r t.forest is_good is_under

    pub is_fit : Fit M label m t.forest
    is_fit = fit r t.forest is_good is_under
