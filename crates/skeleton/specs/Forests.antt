-- Laws of forests that know nothing of codes: no vertex twice as a law of the list of vertices, the lists of a forest as one, and other numbers
-- for the vertices. Assumes nothing.
use Rattle.std.specs.Prelude.{◌≡◌, refl, ◌↔◌, ℕ, suc, ◌+◌, length}
use Rattle.std.proofs.Common.{ap, ap₂, sym, ◌∙◌, ⊎_elim, arith, length-append}
use mathlib.Core.List.Memᴰ
use mathlib.Core.List.{List, [], ◌∷◌, ◌++◌, map, map-append, Memᴰ}
use Rattle.laws.specs.Once.{once_left, once_right, once_apart}
use Rattle.laws.specs.document.Once.{Once}
use Rattle.laws.specs.Places.{once_join}
use Rattle.skeleton.specs.document.Skeleton.{Arc}
use Rattle.skeleton.specs.Forest.{Forest, none, tree, vertices, count, hung, Distinct}

pub count-vertices : (f : Forest) → length (vertices f) ≡ count f
unfolding vertices count
count-vertices none = refl
count-vertices (tree v d f) = omega (arith, length-append (vertices d) (vertices f), count-vertices d, count-vertices f)

pub distinct_once : (f : Forest) → Distinct f ↔ Once (vertices f)
unfolding vertices
distinct_once none = (λ t. t, λ t. t)
distinct_once (tree v d f) = (
  λ t. (
    λ h. ⊎_elim t.0 t.1 (Memᴰ.append_cases (vertices d) h),
    once_join (vertices d) (vertices f) ((distinct_once d).0 t.3) ((distinct_once f).0 t.4) t.2,
  ),
  λ o. (
    λ h. o.0 (Memᴰ.append_left (vertices f) h),
    λ h. o.0 (Memᴰ.append_right (vertices d) h),
    λ w h k. once_apart (vertices d) o.1 h k,
    (distinct_once d).1 (once_left (vertices d) (vertices f) o.1),
    (distinct_once f).1 (once_right (vertices d) (vertices f) o.1),
  ),
)

-- the ends of a forest's arcs are the root and its vertices
pub hung_in : (p : ℕ) (f : Forest) (e : Arc) → Memᴰ e (hung p f) → Memᴰ e.0 (p ∷ vertices f) × Memᴰ e.1 (p ∷ vertices f)
unfolding hung vertices
hung_in p none e m = absurd (Memᴰ.not-nil m)
hung_in p (tree v d f) e (Memᴰ.head q) = (Memᴰ.head (ap (λ a. a.0) q), Memᴰ.tail (Memᴰ.head (ap (λ a. a.1) q)))
hung_in p (tree v d f) e (Memᴰ.tail (Memᴰ.head q)) = (Memᴰ.tail (Memᴰ.head (ap (λ a. a.0) q)), Memᴰ.head (ap (λ a. a.1) q))
hung_in p (tree v d f) e (Memᴰ.tail (Memᴰ.tail m)) =
    ⊎_elim (λ k. let (a, b) = hung_in v d e k in (below a, below b)) (λ k. let (a, b) = hung_in p f e k in (beside a, beside b)) (Memᴰ.append_cases (hung v d) m)
  where
    below : {x : ℕ} → Memᴰ x (v ∷ vertices d) → Memᴰ x (p ∷ v ∷ (vertices d ++ vertices f))
    below h = Memᴰ.tail (Memᴰ.append_left (vertices f) h)

    beside : {x : ℕ} → Memᴰ x (p ∷ vertices f) → Memᴰ x (p ∷ v ∷ (vertices d ++ vertices f))
    beside h = ⊎_elim (λ e. Memᴰ.head e) (λ k. Memᴰ.tail (Memᴰ.tail (Memᴰ.append_right (vertices d) k))) (Memᴰ.cases_cons h)

-- what x gives for each vertex under its parent, the first of which is p
unfoldable pub gather : {A : Type 0} → (ℕ → ℕ → List A) → ℕ → Forest → List A
gather x p none = []
gather x p (tree v d f) = x p v ++ (gather x v d ++ gather x p f)

pub gather-vertices : (p : ℕ) (f : Forest) → vertices f ≡ gather (λ u v. v ∷ []) p f
unfolding gather vertices
gather-vertices p none = refl
gather-vertices p (tree v d f) = ap₂ (λ l m. v ∷ (l ++ m)) (gather-vertices v d) (gather-vertices p f)

pub gather-hung : (p : ℕ) (f : Forest) → hung p f ≡ gather (λ u v. (u, v) ∷ (v, u) ∷ []) p f
unfolding gather hung
gather-hung p none = refl
gather-hung p (tree v d f) = ap₂ (λ l m. (p, v) ∷ (v, p) ∷ (l ++ m)) (gather-hung v d) (gather-hung p f)

-- each vertex v numbered g v
unfoldable pub map_f : (ℕ → ℕ) → Forest → Forest
map_f g none = none
map_f g (tree v d f) = tree (g v) (map_f g d) (map_f g f)

pub map_vertices : (g : ℕ → ℕ) (f : Forest) → vertices (map_f g f) ≡ map g (vertices f)
unfolding map_f vertices
map_vertices g none = refl
map_vertices g (tree v d f) = ap (λ l. g v ∷ l) (ap₂ (λ l m. l ++ m) (map_vertices g d) (map_vertices g f) ∙ sym (map-append g (vertices d) (vertices f)))

pub map_count : (g : ℕ → ℕ) (f : Forest) → count (map_f g f) ≡ count f
unfolding map_f count
map_count g none = refl
map_count g (tree v d f) = ap₂ (λ m n. suc (m + n)) (map_count g d) (map_count g f)

pub map_hung : (g : ℕ → ℕ) (p : ℕ) (f : Forest) → hung (g p) (map_f g f) ≡ map (λ e. (g e.0, g e.1)) (hung p f)
unfolding map_f hung
map_hung g p none = refl
map_hung g p (tree v d f) =
    ap (λ l. (g p, g v) ∷ (g v, g p) ∷ l) (ap₂ (λ l m. l ++ m) (map_hung g v d) (map_hung g p f) ∙ sym (map-append (λ (e : Arc). (g e.0, g e.1)) (hung v d) (hung p f)))
