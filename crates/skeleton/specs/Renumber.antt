-- Renumberings: they go back and compose, a tree stays a tree under them, and rooted codes stay what they are (`same_code`). That equal
-- rooted codes come from a renumbering is in `Numbered`. Assumes nothing.
use Rattle.std.specs.Prelude.{◌≡◌, ℕ, ◌≤◌}
use Rattle.std.proofs.Math.Path.{refl, ap₂, sym}
use Rattle.std.proofs.Common.{ap, ◌∙◌, subst, arith}
use mathlib.Core.List.Memᴰ
use mathlib.Core.List.Permᴰ
use mathlib.Core.List.{List, [], ◌∷◌, map, map-map, Memᴰ, Permᴰ}
use Rattle.laws.specs.Perms.{perm_in}
use Rattle.laws.specs.document.Once.{Once}
use Rattle.laws.specs.Places.{once_map}
use Rattle.skeleton.specs.document.Skeleton.{Arc, arcs, Renumbering}
use Rattle.skeleton.specs.Forest.{Forest, none, tree, vertices, Rooted}
use Rattle.skeleton.specs.Forests.{distinct_once, map_f, map_vertices, map_count, map_hung, hung_in}
use Rattle.skeleton.specs.document.Label.{Marks, joinₗ, rootedₗ, Keeps}
use Rattle.skeleton.specs.Codes.{branches, rooted-join}

-- an arc with other numbers
abbrev pub carry : (ℕ → ℕ) → Arc → Arc
carry g e = (g e.0, g e.1)

-- both ends of every arc are among 1 to N
abbrev pub Within : ℕ → List Arc → Type 0
Within N A = (e : Arc) → Memᴰ e A → ((1 ≤ e.0) × (e.0 ≤ N)) × ((1 ≤ e.1) × (e.1 ≤ N))

pub map_on : {A : Type 0} (g : A → A) (l : List A) → ((x : A) → Memᴰ x l → g x ≡ x) → map g l ≡ l
map_on g [] h = refl
map_on g (x ∷ l) h = ap₂ (λ a b. a ∷ b) (h x (Memᴰ.head refl)) (map_on g l (λ y m. h y (Memᴰ.tail m)))

module _ (N : ℕ) (E : List ℕ) where
  pub rooted_within : (r : ℕ) → Rooted N E r → Within N (arcs E)
  rooted_within r t e m = let (a, b) = hung_in r t.forest e (perm_in t.same m) in (t.inside e.0 a, t.inside e.1 b)

  module _ (F : List ℕ) where
    -- the other way round
    unfoldable pub back : Within N (arcs E) → Renumbering N E F → Renumbering N F E
    back w ρ = record {
      to = ρ.from;
      from = ρ.to;
      to_in = ρ.from_in;
      from_in = ρ.to_in;
      from_to = ρ.to_from;
      to_from = ρ.from_to;
      carries = subst (λ l. Permᴰ (map (carry ρ.from) (arcs F)) l)
          (map-map (carry ρ.from) (carry ρ.to) (arcs E)
          ∙ map_on (λ e. carry ρ.from (carry ρ.to e)) (arcs E) (λ e m. let (a, b) = w e m in ap₂ (λ x y. (x, y)) (ρ.from_to e.0 a.0 a.1) (ρ.from_to e.1 b.0 b.1)))
          (Permᴰ.symm (Permᴰ.map (carry ρ.from) ρ.carries));
    }

    -- one behind the other
    unfoldable pub after : (G : List ℕ) → Renumbering N E F → Renumbering N F G → Renumbering N E G
    after G ρ σ = record {
      to = λ v. σ.to (ρ.to v);
      from = λ v. ρ.from (σ.from v);
      to_in = λ v h k. let (a, b) = ρ.to_in v h k in σ.to_in (ρ.to v) a b;
      from_in = λ v h k. let (a, b) = σ.from_in v h k in ρ.from_in (σ.from v) a b;
      from_to = λ v h k. let (a, b) = ρ.to_in v h k in ap ρ.from (σ.from_to (ρ.to v) a b) ∙ ρ.from_to v h k;
      to_from = λ v h k. let (a, b) = σ.from_in v h k in ap σ.to (ρ.to_from (σ.from v) a b) ∙ σ.to_from v h k;
      carries = subst (λ l. Permᴰ l (arcs G)) (map-map (carry σ.to) (carry ρ.to) (arcs E)) (Permᴰ.trans (Permᴰ.map (carry σ.to) ρ.carries) σ.carries);
    }

    pub one_to_one : (ρ : Renumbering N E F) (x y : ℕ) → (1 ≤ x) × (x ≤ N) → (1 ≤ y) × (y ≤ N) → ρ.to x ≡ ρ.to y → x ≡ y
    one_to_one ρ x y a b e = sym (ρ.from_to x a.0 a.1) ∙ ap ρ.from e ∙ ρ.from_to y b.0 b.1

    -- a tree, with the numbers that a renumbering gives
    pub renumbered : (ρ : Renumbering N E F) (r : ℕ) → Rooted N E r → Rooted N F (ρ.to r)
    renumbered ρ r t =
        let f : Forest = t.forest in
        let g : ℕ → ℕ = ρ.to in
        let once : Once (map g (r ∷ vertices f)) = once_map g (r ∷ vertices f) (λ x y m k e. one_to_one ρ x y (t.inside x m) (t.inside y k) e) (t.apart, (distinct_once f).0 t.distinct) in
        record {
          forest = map_f g f;
          same = rw (map_hung g r f) (Permᴰ.trans (Permᴰ.symm ρ.carries) (Permᴰ.map (carry g) t.same));
          apart = rw (map_vertices g f) once.0;
          distinct = (distinct_once (map_f g f)).1 (rw (map_vertices g f) once.1);
          inside = rw (map_vertices g f) (λ v m. let (w, k, e) = Memᴰ.of_map g (r ∷ vertices f) m in let (a, b) = t.inside w k in subst (λ u. (1 ≤ u) × (u ≤ N)) e (ρ.to_in w a b));
          all = rw (map_vertices g f) (λ v a b. let (x, y) = ρ.from_in v a b in Memᴰ.cast (sym (ρ.to_from v a b)) (Memᴰ.map g (t.all (ρ.from v) x y)));
          full = omega (arith, t.full, map_count g f);
        }

module _ (M : Marks) where
  map_branches : (l m : ℕ → M.Label) (g : ℕ → ℕ) (f : Forest) → ((v : ℕ) → Memᴰ v (vertices f) → m (g v) ≡ l v) → branches M m (map_f g f) ≡ branches M l f
  unfolding branches map_f vertices
  map_branches l m g none h = refl
  map_branches l m g (tree v d f) h = ap₂ (λ x y. x ∷ y)
      (ap₂ (joinₗ M) (h v (Memᴰ.head refl)) (map_branches l m g d (λ w k. h w (Memᴰ.tail (Memᴰ.append_left (vertices f) k)))))
      (map_branches l m g f (λ w k. h w (Memᴰ.tail (Memᴰ.append_right (vertices d) k))))

  module _ (N : ℕ) (E F : List ℕ) (r : ℕ) (l m : ℕ → M.Label) (t : Rooted N E r) where
    -- a renumbering that keeps the labels keeps the rooted codes
    pub same_code : (ρ : Renumbering N E F) → Keeps M N E F l m ρ → rootedₗ M l N E r ≡ rootedₗ M m N F (ρ.to r)
    unfolding renumbered
    same_code ρ k =
        let f : Forest = t.forest in
        let in_range : (v : ℕ) → Memᴰ v (r ∷ vertices f) → m (ρ.to v) ≡ l v = λ v h. let (a, b) = t.inside v h in k v a b in
        rooted-join M l N E r t
        ∙ sym (rooted-join M m N F (ρ.to r) (renumbered N E F ρ r t)
        ∙ ap₂ (joinₗ M) (in_range r (Memᴰ.head refl)) (map_branches l m ρ.to f (λ v h. in_range v (Memᴰ.tail h))))
