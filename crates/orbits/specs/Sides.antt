-- An edge u - v of a tree, from both ends: what hangs at v, and what hangs at u, and the rooted codes at u and at v made of the two (`edge`).
--
-- In order: a root's tree goes to the front; a tree from its other end; the edge. What is known of such codes is in `Joins`. Assumes nothing.
use Rattle.std.specs.Prelude.{◌≡◌, refl, ℕ, ◌≤◌}
use Rattle.std.proofs.Math.Path.{ap}
use Rattle.std.proofs.Common.{◌∙◌, subst, arith}
use mathlib.Core.List.Permᴰ
use mathlib.Core.List.{List, [], ◌∷◌, ◌++◌, append_assoc, head-eq_of_cons-eq, Memᴰ, Permᴰ}
use Rattle.laws.specs.document.Once.{Once}
use Rattle.laws.specs.Once.{once_perm}
use Rattle.laws.specs.Perms.{perm_in, perm_length, front}
use Rattle.skeleton.specs.document.Skeleton.{arcs, IsTree}
use Rattle.skeleton.specs.Forest.{Forest, none, tree, vertices, hung, Rooted}
use Rattle.skeleton.specs.Forests.{gather, gather-vertices, gather-hung, count-vertices, distinct_once}
use Rattle.skeleton.specs.Grow.{rooted_tree}
use Rattle.skeleton.specs.Walks.{turn, arc_end}
use Rattle.skeleton.specs.Arcs.{arc_near}
use Rattle.skeleton.specs.document.Label.{Marks, joinₗ, codeₗ, rootedₗ}
use Rattle.skeleton.specs.Codes.{roots, near, neighbours_perm, good, branches, codes_of, rooted-join}
use Rattle.orbits.specs.Joins.{Ones, ones_more, join_ends}

-- ---- a root's tree to the front

-- the same forest with the tree of v first
record Out (v : ℕ) (f : Forest) : Type 1 where
  below : Forest
  aside : Forest
  same : {A : Type 0} (x : ℕ → ℕ → List A) (p : ℕ) → Permᴰ (gather x p f) (gather x p (tree v below aside))

take_out : (v : ℕ) (f : Forest) → Memᴰ v (roots f) → Out v f
unfolding roots gather
take_out v none m = absurd (mathlib.Core.List.Memᴰ.not-nil m)
take_out v (tree u e g) (mathlib.Core.List.Memᴰ.head q) = record { below = e; aside = g; same = λ x p. rw q (Permᴰ.refl (x p u ++ (gather x u e ++ gather x p g))) }
take_out v (tree u e g) (mathlib.Core.List.Memᴰ.tail m) =
    let o : Out v g = take_out v g m in
    record { below = o.below; aside = tree u e o.aside; same = λ x p. past x p o.below o.aside (o.same x p) }
  where
    past : {A : Type 0} (x : ℕ → ℕ → List A) (p : ℕ) (d a : Forest) → Permᴰ (gather x p g) (x p v ++ (gather x v d ++ gather x p a))
        → Permᴰ (x p u ++ (gather x u e ++ gather x p g)) (x p v ++ (gather x v d ++ (x p u ++ (gather x u e ++ gather x p a))))
    past x p d a π =
        let q : Permᴰ ((x p u ++ gather x u e) ++ ((x p v ++ gather x v d) ++ gather x p a)) ((x p v ++ gather x v d) ++ ((x p u ++ gather x u e) ++ gather x p a))
        = front (x p u ++ gather x u e) (x p v ++ gather x v d) (gather x p a) in
        Permᴰ.trans (Permᴰ.append_left (x p u) (Permᴰ.append_left (gather x u e) π)) (simp append_assoc at q)

-- ---- a tree from another end

module _ {N : ℕ} {E : List ℕ} {r : ℕ} (t : Rooted N E r) where
  -- the same arcs and vertices, laid out at the root s
  rearranged : (s : ℕ) (g : Forest) → Permᴰ (hung r t.forest) (hung s g) → Permᴰ (r ∷ vertices t.forest) (s ∷ vertices g) → Rooted N E s
  rearranged s g π σ =
      let f : Forest = t.forest in
      let once : Once (s ∷ vertices g) = once_perm σ (t.apart, (distinct_once f).0 t.distinct) in
      record {
        forest = g;
        same = Permᴰ.trans t.same π;
        apart = once.0;
        distinct = (distinct_once g).1 once.1;
        inside = λ v h. t.inside v (perm_in (Permᴰ.symm σ) h);
        all = λ v a b. perm_in σ (t.all v a b);
        full = omega (arith, t.full, perm_length σ, count-vertices f, count-vertices g);
      }

-- ---- an edge

module _ (M : Marks) (label : ℕ → M.Label) where
  -- the code of every tree of a forest is one whole code
  pub branches_ones : (f : Forest) → Ones M (branches M label f)
  unfolding branches
  branches_ones none = λ c h. absurd (mathlib.Core.List.Memᴰ.not-nil h)
  branches_ones (tree v d f) = ones_more M (join_ends M (label v) (branches_ones d)) (branches_ones f)

  -- D: the codes of v's branches but u's; G: those of u's branches but v's
  pub record Edge (N : ℕ) (E : List ℕ) (u v : ℕ) : Type 0 where
    pub D : List (List ℕ)
    pub G : List (List ℕ)
    pub ones : Ones M D
    pub others : Ones M G
    pub side : (n : ℕ) → N ≤ n → codeₗ M label n (arcs E) u v ≡ joinₗ M (label v) D
    pub upper : rootedₗ M label N E u ≡ joinₗ M (label u) (joinₗ M (label v) D ∷ G)
    pub lower : rootedₗ M label N E v ≡ joinₗ M (label v) (joinₗ M (label u) G ∷ D)

  module _ (N : ℕ) (E : List ℕ) (u v : ℕ) (d x : Forest) where
    -- the code at u, where v is its first child
    code-over : (t : Rooted N E u) → t.forest ≡ tree v d x → rootedₗ M label N E u ≡ joinₗ M (label u) (joinₗ M (label v) (branches M label d) ∷ branches M label x)
    unfolding branches
    code-over t e = rooted-join M label N E u t ∙ ap (λ f. joinₗ M (label u) (branches M label f)) e

    -- and the code at v below u
    code-under : (t : Rooted N E u) → t.forest ≡ tree v d x → (n : ℕ) → N ≤ n → codeₗ M label n (arcs E) u v ≡ joinₗ M (label v) (branches M label d)
    unfolding branches roots
    code-under t e n l =
        let m = codes_of M label (arcs E) n u t.forest (omega (arith, t.full)) (good (arcs E) u t.forest t.same t.apart t.distinct) in
        head-eq_of_cons-eq (rw e at m)

pub edge : (M : Marks) (label : ℕ → M.Label) (N : ℕ) (E : List ℕ) → IsTree N E → (u v : ℕ) → Memᴰ (u, v) (arcs E) → Edge M label N E u v
unfolding hung vertices rearranged
edge M label N E t u v m =
    let (a, b) = t.inside u (arc_end E (turn E m)) in
    let s : Rooted N E u = rooted_tree N E u t a b in
    let f : Forest = s.forest in
    let k : Memᴰ v (roots f) = subst (λ l. Memᴰ v l) (near u f s.apart) (perm_in (neighbours_perm u s.same) (arc_near (arcs E) u v m)) in
    let o : Out v f = take_out v f k in
    let d : Forest = o.below in
    let x : Forest = o.aside in
    let top : Rooted N E u = rearranged s u (tree v d x) (arcs_out u f o) (Permᴰ.cons refl (vertices_out u f o)) in
    let end : Rooted N E v = rearranged top v (tree u x d)
    (Permᴰ.trans (Permᴰ.swap refl refl) (Permᴰ.cons refl (Permᴰ.cons refl (Permᴰ.append_comm (hung v d) (hung u x)))))
    (Permᴰ.trans (Permᴰ.swap refl refl) (Permᴰ.cons refl (Permᴰ.cons refl (Permᴰ.append_comm (vertices d) (vertices x))))) in
    record {
      D = branches M label d;
      G = branches M label x;
      ones = branches_ones M label d;
      others = branches_ones M label x;
      side = code-under M label N E u v d x top (refl {a = tree v d x});
      upper = code-over M label N E u v d x top (refl {a = tree v d x});
      lower = code-over M label N E v u x d end (refl {a = tree u x d});
    }
  where
    arcs_out : (p : ℕ) (f : Forest) (o : Out v f) → Permᴰ (hung p f) (hung p (tree v o.below o.aside))
    arcs_out p f o = rw (gather-hung p f, gather-hung p (tree v o.below o.aside)) (o.same (λ u v. (u, v) ∷ (v, u) ∷ []) p)

    vertices_out : (p : ℕ) (f : Forest) (o : Out v f) → Permᴰ (vertices f) (vertices (tree v o.below o.aside))
    vertices_out p f o = rw (gather-vertices p f, gather-vertices p (tree v o.below o.aside)) (o.same (λ u v. v ∷ []) p)
