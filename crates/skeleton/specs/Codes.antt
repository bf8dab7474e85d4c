-- The rooted code of a tree is read off its forest: the codes of a forest's trees, and `rooted-join`, after which no proof about rooted
-- codes speaks of arcs, parents or depth again. In order: whose neighbours are whose in a forest's arcs, then the codes. Assumes nothing.
use Rattle.std.specs.Prelude.{◌≡◌}
use Rattle.std.proofs.Math.Path.{refl, ap, ap₂, subst}
use Rattle.std.proofs.Common.{sym, ◌∙◌}
use Rattle.std.proofs.Math.Logic.{if_pos, if_neg, Dec.not as dec_not}
use mathlib.Core.List.Memᴰ
use mathlib.Core.List.{List, [], ◌∷◌, ◌++◌, map, filter, flatten, append-nil, append_assoc, map-append, filter-append, Memᴰ, Permᴰ}
use Prim.Native.Nat.{ℕ, zero, suc, ◌≤◌, ◌<◌}
use Rattle.std.proofs.Math.Decide.{ℕ_discrete}
use native.Mathlib.Omega.{arith}
use Rattle.laws.specs.Sorting.{sort_perm}
use Rattle.laws.specs.Perms.{perm_length, front}
use Rattle.skeleton.specs.document.Skeleton.{Arc, arcs, neighbours, children}
use Rattle.skeleton.specs.Forest.{Forest, none, tree, vertices, count, hung, Distinct, Rooted}
use Rattle.skeleton.specs.document.Label.{Marks, joinₗ, codeₗ, rootedₗ}

-- the roots of a forest's trees
unfoldable pub roots : Forest → List ℕ
roots none = []
roots (tree v d f) = v ∷ roots f

pub root_in : {v : ℕ} (f : Forest) → Memᴰ v (roots f) → Memᴰ v (vertices f)
unfolding roots vertices
root_in none m = m
root_in (tree u d f) (Memᴰ.head e) = Memᴰ.head e
root_in (tree u d f) (Memᴰ.tail m) = Memᴰ.tail (Memᴰ.append_right (vertices d) (root_in f m))

-- the arcs of A from v
abbrev from : List Arc → ℕ → List Arc
from A v = filter {p = λ e. e.0 ≡ v} (λ e. ℕ_discrete e.0 v) A

pub neighbours_at : (u v w : ℕ) (A : List Arc) → u ≡ v → neighbours ((u, w) ∷ A) v ≡ w ∷ neighbours A v
unfolding neighbours
neighbours_at u v w A e = ap (map (λ a. a.1)) (if_pos (ℕ_discrete u v) e ((u, w) ∷ from A v) (from A v))

pub neighbours_past : (u v w : ℕ) (A : List Arc) → (u ≡ v → ⊥) → neighbours ((u, w) ∷ A) v ≡ neighbours A v
unfolding neighbours
neighbours_past u v w A n = ap (map (λ a. a.1)) (if_neg (ℕ_discrete u v) n ((u, w) ∷ from A v) (from A v))

pub neighbours-append : (A B : List Arc) (v : ℕ) → neighbours (A ++ B) v ≡ neighbours A v ++ neighbours B v
unfolding neighbours
neighbours-append A B v = ap (map (λ a. a.1)) (filter-append (λ (e : Arc). ℕ_discrete e.0 v) A B) ∙ map-append (λ (a : Arc). a.1) (from A v) (from B v)

pub neighbours_perm : {A B : List Arc} (v : ℕ) → Permᴰ A B → Permᴰ (neighbours A v) (neighbours B v)
unfolding neighbours
neighbours_perm v π = mathlib.Core.List.Permᴰ.map (λ (a : Arc). a.1) (mathlib.Core.List.Permᴰ.filter (λ (e : Arc). ℕ_discrete e.0 v) π)

pub neighbours-none : (v : ℕ) → neighbours [] v ≡ []
unfolding neighbours
neighbours-none v = refl

-- a stranger has no neighbour in a forest
pub far : (v p : ℕ) (f : Forest) → (v ≡ p → ⊥) → (Memᴰ v (vertices f) → ⊥) → neighbours (hung p f) v ≡ []
unfolding hung vertices
far v p none n m = neighbours-none v
far v p (tree u d f) n m = cc (
  neighbours_past p v u ((u, p) ∷ (hung u d ++ hung p f)) (λ e. n (sym e)),
  neighbours_past u v p (hung u d ++ hung p f) (λ e. m (Memᴰ.head (sym e))),
  neighbours-append (hung u d) (hung p f) v,
  far v u d (λ e. m (Memᴰ.head e)) (λ h. m (Memᴰ.tail (Memᴰ.append_left (vertices f) h))),
  far v p f n (λ h. m (Memᴰ.tail (Memᴰ.append_right (vertices d) h))),
)

-- the neighbours of a forest's parent are its roots
pub near : (p : ℕ) (f : Forest) → (Memᴰ p (vertices f) → ⊥) → neighbours (hung p f) p ≡ roots f
unfolding hung vertices roots
near p none m = neighbours-none p
near p (tree u d f) m = cc (
  neighbours_at p p u ((u, p) ∷ (hung u d ++ hung p f)) refl,
  neighbours_past u p p (hung u d ++ hung p f) (λ e. m (Memᴰ.head (sym e))),
  neighbours-append (hung u d) (hung p f) p,
  far p u d (λ e. m (Memᴰ.head e)) (λ h. m (Memᴰ.tail (Memᴰ.append_left (vertices f) h))),
  near p f (λ h. m (Memᴰ.tail (Memᴰ.append_right (vertices d) h))),
)

-- the neighbours of a vertex of a forest: its parent and its children
pub full : (p v : ℕ) (d f : Forest) (rest : List Arc) → (v ≡ p → ⊥) → (Memᴰ v (vertices d) → ⊥) → (Memᴰ v (vertices f) → ⊥) → neighbours rest v ≡ []
    → neighbours (hung p (tree v d f) ++ rest) v ≡ p ∷ roots d
unfolding hung
full p v d f rest n m k e = cc (
  neighbours_past p v v ((v, p) ∷ (hung v d ++ hung p f ++ rest)) (λ e. n (sym e)),
  neighbours_at v v p (hung v d ++ hung p f ++ rest) refl,
  neighbours-append (hung v d ++ hung p f) rest v,
  neighbours-append (hung v d) (hung p f) v,
  near v d m,
  far v p f n k,
  append-nil (roots d),
)

-- in the arcs A each vertex of f has its parent and its children for neighbours; p is the parent of the roots
abbrev pub Good : List Arc → ℕ → Forest → Type 0
Good A p none = Unit {0}
Good A p (tree v d f) = Permᴰ (neighbours A v) (p ∷ roots d) × (Memᴰ p (roots d) → ⊥) × Good A v d × Good A p f

module _ (A : List Arc) where
  good_part : (p : ℕ) (f : Forest) (rest : List Arc) → Permᴰ A (hung p f ++ rest) → (Memᴰ p (vertices f) → ⊥) → Distinct f
      → ((w : ℕ) → Memᴰ w (vertices f) → neighbours rest w ≡ []) → Good A p f
  unfolding hung vertices
  good_part p none rest π m t n = tt
  good_part p (tree v d f) rest π m (a, b, c, t, s) n =
      let q : Permᴰ A ((p, v) ∷ (v, p) ∷ (hung v d ++ (hung p f ++ rest))) = subst (λ l. Permᴰ A ((p, v) ∷ (v, p) ∷ l)) (append_assoc (hung v d) (hung p f) rest) π in
      let in-d : (w : ℕ) → Memᴰ w (vertices d) → Memᴰ w (v ∷ (vertices d ++ vertices f)) = λ w h. Memᴰ.tail (Memᴰ.append_left (vertices f) h) in
      let in_f : (w : ℕ) → Memᴰ w (vertices f) → Memᴰ w (v ∷ (vertices d ++ vertices f)) = λ w h. Memᴰ.tail (Memᴰ.append_right (vertices d) h) in (
        subst (λ l. Permᴰ (neighbours A v) l) (full p v d f rest (λ e. m (Memᴰ.head (sym e))) a b (n v (Memᴰ.head refl))) (neighbours_perm v π),
        λ h. m (in-d p (root_in d h)),
        good_part v d ((p, v) ∷ (v, p) ∷ (hung p f ++ rest)) (mathlib.Core.List.Permᴰ.trans q (front ((p, v) ∷ (v, p) ∷ []) (hung v d) (hung p f ++ rest))) a t
            (λ w h. cc (
              neighbours_past p w v ((v, p) ∷ (hung p f ++ rest)) (λ e. m (in-d p (Memᴰ.cast e h))),
              neighbours_past v w p (hung p f ++ rest) (λ e. a (Memᴰ.cast e h)),
              neighbours-append (hung p f) rest w,
              far w p f (λ e. m (in-d p (Memᴰ.cast (sym e) h))) (c w h),
              n w (in-d w h),
            )),
        good_part p f ((p, v) ∷ (v, p) ∷ (hung v d ++ rest)) (mathlib.Core.List.Permᴰ.trans q (front ((p, v) ∷ (v, p) ∷ hung v d) (hung p f) rest)) (λ h. m (in_f p h)) s
            (λ w h. cc (
              neighbours_past p w v ((v, p) ∷ (hung v d ++ rest)) (λ e. m (in_f p (Memᴰ.cast e h))),
              neighbours_past v w p (hung v d ++ rest) (λ e. b (Memᴰ.cast e h)),
              neighbours-append (hung v d) rest w,
              far w v d (λ e. b (Memᴰ.cast (sym e) h)) (λ g. c w g h),
              n w (in_f w h),
            )),
      )

  pub good : (p : ℕ) (f : Forest) → Permᴰ A (hung p f) → (Memᴰ p (vertices f) → ⊥) → Distinct f → Good A p f
  good p f π m t = good_part p f [] (rw append-nil π) m t (λ w h. neighbours-none w)

-- the members of l but p
abbrev pub but : ℕ → List ℕ → List ℕ
but p l = filter {p = λ w. ¬ (w ≡ p)} (λ w. dec_not (ℕ_discrete w p)) l

pub but-none : (p : ℕ) (l : List ℕ) → (Memᴰ p l → ⊥) → but p l ≡ l
but-none p [] n = refl
but-none p (x ∷ l) n =
    if_pos (dec_not (ℕ_discrete x p)) (λ e. n (Memᴰ.head (sym e))) (x ∷ but p l) (but p l) ∙ ap (λ m. x ∷ m) (but-none p l (λ h. n (Memᴰ.tail h)))

pub but_first : (p : ℕ) (l : List ℕ) → (Memᴰ p l → ⊥) → but p (p ∷ l) ≡ l
but_first p l n = if_neg (dec_not (ℕ_discrete p p)) (λ h. h refl) (p ∷ but p l) (but p l) ∙ but-none p l n

-- where the neighbours are l, and the parent is none or besides, the children are l
pub children-all : (A : List Arc) (p v : ℕ) (l : List ℕ) → Permᴰ (neighbours A v) l → (Memᴰ p l → ⊥) → Permᴰ (children A p v) l
unfolding children
children-all A p v l π n = subst (λ m. Permᴰ (children A p v) m) (but-none p l n) (mathlib.Core.List.Permᴰ.filter (λ w. dec_not (ℕ_discrete w p)) π)

pub children-but : (A : List Arc) (p v : ℕ) (l : List ℕ) → Permᴰ (neighbours A v) (p ∷ l) → (Memᴰ p l → ⊥) → Permᴰ (children A p v) l
unfolding children
children-but A p v l π n = subst (λ m. Permᴰ (children A p v) m) (but_first p l n) (mathlib.Core.List.Permᴰ.filter (λ w. dec_not (ℕ_discrete w p)) π)

module _ (M : Marks) where
  pub join_perm : (a : M.Label) {cs ds : List (List ℕ)} → Permᴰ cs ds → joinₗ M a cs ≡ joinₗ M a ds
  unfolding joinₗ
  join_perm a π = ap₂ (λ n l. M.mark n a ∷ flatten l) (perm_length π) (sort_perm π)

  module _ (label : ℕ → M.Label) where
    -- the codes of a forest's trees
    unfoldable pub branches : Forest → List (List ℕ)
    branches none = []
    branches (tree v d f) = joinₗ M (label v) (branches d) ∷ branches f

    -- and by the arcs
    pub codes_of : (A : List Arc) (n p : ℕ) (f : Forest) → count f ≤ n → Good A p f → map (codeₗ M label n A p) (roots f) ≡ branches f
    unfolding roots branches count codeₗ
    codes_of A n p none h g = refl
    codes_of A zero p (tree v d f) h g = let z : ⊥ = omega arith in absurd z
    codes_of A (suc n) p (tree v d f) h (π, m, g, k) = ap₂ (λ x y. x ∷ y)
        (join_perm (label v) (mathlib.Core.List.Permᴰ.map (codeₗ M label n A v) (children-but A p v (roots d) π m)) ∙ ap (joinₗ M (label v)) (codes_of A n v d (omega arith) g))
        (codes_of A (suc n) p f (omega arith) k)

    -- the rooted code, from the forest of the root's children
    code_of_tree : (A : List Arc) (n r : ℕ) (f : Forest) → Permᴰ A (hung r f) → (Memᴰ r (vertices f) → ⊥) → Distinct f → (Memᴰ 0 (vertices f) → ⊥) → count f < n
        → codeₗ M label n A 0 r ≡ joinₗ M (label r) (branches f)
    unfolding codeₗ
    code_of_tree A zero r f π a t z l = let z : ⊥ = omega arith in absurd z
    code_of_tree A (suc n) r f π a t z l =
        let ν : Permᴰ (neighbours A r) (roots f) = subst (λ m. Permᴰ (neighbours A r) m) (near r f a) (neighbours_perm r π) in
        join_perm (label r) (mathlib.Core.List.Permᴰ.map (codeₗ M label n A r) (children-all A 0 r (roots f) ν (λ h. z (root_in f h))))
        ∙ ap (joinₗ M (label r)) (codes_of A n r f (omega arith) (good A r f π a t))

    pub rooted-join : (N : ℕ) (E : List ℕ) (r : ℕ) (t : Rooted N E r) → rootedₗ M label N E r ≡ joinₗ M (label r) (branches t.forest)
    unfolding rootedₗ
    rooted-join N E r t =
        code_of_tree (arcs E) N r t.forest t.same t.apart t.distinct (λ h. let z : ⊥ = omega (arith, t.inside 0 (Memᴰ.tail h)) in z) (omega (arith, t.full))
