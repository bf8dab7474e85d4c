-- A map between trees that no row refuses is a renumbering.
--
-- In order: lists in which nothing stands twice; the edges of an arc, and the arcs of a tree, none twice; the map, one-to-one and onto; the renumbering that it
-- is. Assumes nothing.
use Rattle.std.specs.Prelude.{◌≡◌, refl, ◌⊎◌, ℕ, suc, ◌+◌, ◌-◌, ◌*◌, ◌≤◌, ◌<◌, length, get_or}
use Rattle.std.proofs.Common.{sym, ap, ap₂, ◌∙◌, inl, inr, ⊎_elim, arith}
use mathlib.Core.List.Memᴰ
use mathlib.Core.List.Permᴰ
use mathlib.Core.List.{List, [], ◌∷◌, map, Memᴰ, Permᴰ}
use Rattle.std.proofs.Math.Decide.{ℕ_discrete}
use Rattle.std.proofs.lemmas.List.{length-map}
use Rattle.laws.specs.document.Once.{Once}
use Rattle.laws.specs.Once.{pick, fits, up_to, up_to_length, up_to_in}
use Rattle.laws.specs.Perms.{perm_in, perm_length, dec_in}
use Rattle.laws.specs.Places.{once_map, place, place_at, at_place}
use Rattle.refusal.specs.document.Table.{Row, Clear}
use Rattle.refusal.specs.Laws.{never, others}
use Rattle.skeleton.specs.document.Skeleton.{Arc, arcs, neighbours, IsTree, Renumbering}
use Rattle.skeleton.specs.Codes.{neighbours_at, neighbours_past}
use Rattle.skeleton.specs.Arcs.{near_arc, arc_near, neighbours_once}
use Rattle.skeleton.specs.Grow.{rooted_tree}
use Rattle.skeleton.specs.Renumber.{carry, rooted_within}
use Rattle.edge_list.specs.document.Edges.{Edge, first_end, second_end}
use Rattle.renumber.specs.document.Map.{image, EdgeSent, row5_map, map_rows}
use Rattle.renumber.specs.Accepted.{edge_arcs}

-- ---- nothing twice

-- a list that has room for no more than another's members, each once, is that other one rearranged
once_fills : {A : Type 0} (l m : List A) → Once l → ((a : A) → Memᴰ a l → Memᴰ a m) → length l ≡ length m → Permᴰ l m
once_fills [] [] o s e = Permᴰ.nil
once_fills [] (x ∷ m) o s e = absurd (let z : ⊥ = omega arith in z)
once_fills (a ∷ l) m o s e =
    let (r, d) = pick (s a (Memᴰ.head refl)) in
    let rest : (b : _) → Memᴰ b l → Memᴰ b r =
    λ b h. ⊎_elim (λ f. absurd (o.0 (Memᴰ.cast (sym f) h))) (λ k. k) (Memᴰ.cases_cons (perm_in d (s b (Memᴰ.tail h)))) in
    Permᴰ.trans (Permᴰ.cons refl (once_fills l r o.1 rest (omega (arith, perm_length d)))) (Permᴰ.symm d)

-- two places, two entries
once_apart : (w : List ℕ) → ((i j : ℕ) → i < j → j < length w → get_or w i 0 ≡ get_or w j 0 → ⊥) → Once w
once_apart [] f = tt
once_apart (x ∷ w) f = (
  λ m. let (h, e) = place_at x w m in f 0 (suc (place x w)) (omega arith) (omega arith) (sym e),
  once_apart w (λ i j h k e. f (suc i) (suc j) (omega arith) (omega arith) e),
)

-- ---- the arcs

-- e is edge p, from one of its ends
abbrev Lies : Arc → List ℕ → ℕ → Type 0
Lies e E p = Edge E p × ((e ≡ (first_end E p, second_end E p)) ⊎ (e ≡ (second_end E p, first_end E p)))

-- an arc is an edge
arc_edge : (E : List ℕ) (e : Arc) → Memᴰ e (arcs E) → (p : ℕ) × Lies e E p
unfolding arcs
arc_edge [] e m = absurd (Memᴰ.not-nil m)
arc_edge (x ∷ []) e m = absurd (Memᴰ.not-nil m)
arc_edge (x ∷ y ∷ E) e m = step (Memᴰ.cases_cons m) (arc_edge E e)
  where
    later : (p : ℕ) → Lies e E p → Lies e (x ∷ y ∷ E) (p + 1)
    later p ((h, g), f) =
        let s : 2 * (p + 1 - 1) ≡ suc (suc (2 * (p - 1))) = omega arith in
        let t : 2 * (p + 1 - 1) + 1 ≡ suc (suc (2 * (p - 1) + 1)) = omega arith in
        ((omega arith, omega arith), rw (t, s) f)

    step : (e ≡ (x, y)) ⊎ Memᴰ e ((y, x) ∷ arcs E) → (Memᴰ e (arcs E) → (p : ℕ) × Lies e E p) → (p : ℕ) × Lies e (x ∷ y ∷ E) p
    step (inl f) r = (1, ((omega arith, omega arith), inl f))
    step (inr k) r = ⊎_elim (λ f. (1, ((omega arith, omega arith), inr f))) (λ n. let (p, l) = r n in (p + 1, later p l)) (Memᴰ.cases_cons k)

-- from its other end it is one too
arc_back : (E : List ℕ) (a b : ℕ) → Memᴰ (a, b) (arcs E) → Memᴰ (b, a) (arcs E)
arc_back E a b m =
    let (p, (h, d)) = arc_edge E (a, b) m in
    let (x, y) = edge_arcs E p h in
    ⊎_elim (λ e. Memᴰ.cast (ap (λ (f : Arc). (f.1, f.0)) e) y) (λ e. Memᴰ.cast (ap (λ (f : Arc). (f.1, f.0)) e) x) d

arcs_length : (E F : List ℕ) → length E ≡ length F → length (arcs E) ≡ length (arcs F)
unfolding arcs
arcs_length [] [] e = refl
arcs_length [] (x ∷ F) e = absurd (let z : ⊥ = omega arith in z)
arcs_length (x ∷ E) [] e = absurd (let z : ⊥ = omega arith in z)
arcs_length (x ∷ []) (y ∷ []) e = refl
arcs_length (x ∷ []) (y ∷ z ∷ F) e = absurd (let z : ⊥ = omega arith in z)
arcs_length (x ∷ z ∷ E) (y ∷ []) e = absurd (let z : ⊥ = omega arith in z)
arcs_length (x ∷ z ∷ E) (y ∷ u ∷ F) e = ap (λ n. suc (suc n)) (arcs_length E F (omega arith))

-- no arc stands twice where no neighbour does
arcs_once : (P : ℕ → Type 0) (A : List Arc) → ((e : Arc) → Memᴰ e A → P e.0) → ((v : ℕ) → P v → Once (neighbours A v)) → Once A
arcs_once P [] f o = tt
arcs_once P (e ∷ A) f o = (
  λ m. (rw (neighbours_at e.0 e.0 e.1 A refl) at (o e.0 (f e (Memᴰ.head refl)))).0 (arc_near A e.0 e.1 m),
  arcs_once P A (λ g m. f g (Memᴰ.tail m)) (λ v p. step v (ℕ_discrete e.0 v) (o v p)),
)
  where
    step : (v : ℕ) → Dec (e.0 ≡ v) → Once (neighbours (e ∷ A) v) → Once (neighbours A v)
    step v (yes g) h = (rw (neighbours_at e.0 v e.1 A g) at h).1
    step v (no n) h = rw (neighbours_past e.0 v e.1 A n) at h

-- whether an arc is one of those
dec_arc : (A : List Arc) (a b : ℕ) → Dec (Memᴰ (a, b) A)
dec_arc A a b = step (dec_in b (neighbours A a))
  where
    step : Dec (Memᴰ b (neighbours A a)) → Dec (Memᴰ (a, b) A)
    step (yes m) = yes (near_arc A a b m)
    step (no n) = no (λ m. n (arc_near A a b m))

-- ---- the map

-- where 5 does not apply
pub map_sizes : (N P : ℕ) (w : List ℕ) {rs : List Row} → Clear (row5_map N P w ∷ rs) → (N ≡ P) × (length w ≡ N)
map_sizes N P w c = step (ℕ_discrete N P) (ℕ_discrete (length w) N)
  where
    step : Dec (N ≡ P) → Dec (length w ≡ N) → (N ≡ P) × (length w ≡ N)
    step (yes e) (yes f) = (e, f)
    step (no n) d = absurd (never c 0 (refl, λ h. n h.0))
    step (yes e) (no n) = absurd (never c 0 (refl, λ h. n h.1))

module _ {N : ℕ} {E F : List ℕ} (t : IsTree N E) (u : IsTree N F) (w : List ℕ) (c : Clear (map_rows N E N F w)) where
  long : length w ≡ N
  long = (map_sizes N N w c).1

  to_in : (v : ℕ) → 1 ≤ v → v ≤ N → (1 ≤ image w v) × (image w v ≤ N)
  to_in v a b =
      let n : image w v ≡ 0 → ⊥ = λ e. never (others c) v ((a, omega (arith, long)), inl (inl e)) in
      let m : N < image w v → ⊥ = λ l. never (others c) v ((a, omega (arith, long)), inl (inr l)) in
      (omega arith, omega arith)

  once : Once w
  once = once_apart w (λ i j h k e.
      let g : suc i - 1 ≡ i = omega arith in
      let f : suc j - 1 ≡ j = omega arith in
      never (others c) (suc j) ((omega arith, omega arith), inr (suc i, omega arith, omega arith, ap (λ x. get_or w x 0) g ∙ e ∙ ap (λ x. get_or w x 0) (sym f))))

  -- every number is used
  used : (v : ℕ) → 1 ≤ v → v ≤ N → Memᴰ v w
  used v a b = step (dec_in v w)
    where
      inside : (x : ℕ) → Memᴰ x (v ∷ w) → Memᴰ x (up_to N)
      inside x m = ⊎_elim (λ e. rw e (up_to_in N v a b)) (λ k.
          let (h, e) = place_at x w k in
          let i = place x w in
          let g : suc i - 1 ≡ i = omega arith in
          let (l, r) = to_in (suc i) (omega arith) (omega (arith, long)) in
          let f : image w (suc i) ≡ x = ap (λ y. get_or w y 0) g ∙ e in
          up_to_in N x (omega arith) (omega arith)) (Memᴰ.cases_cons m)

      step : Dec (Memᴰ v w) → Memᴰ v w
      step (yes m) = m
      step (no n) = absurd (let z : ⊥ = omega (arith, fits (v ∷ w) (up_to N) (n, once) inside, up_to_length N, long) in z)

  apart : (x y : ℕ) → 1 ≤ x → x ≤ N → 1 ≤ y → y ≤ N → image w x ≡ image w y → x ≡ y
  apart x y a b h k e =
      let f : x - 1 ≡ y - 1 = sym (at_place w (x - 1) once (omega (arith, long))) ∙ ap (λ v. place v w) e ∙ at_place w (y - 1) once (omega (arith, long)) in
      omega arith

  -- every edge is carried
  carried : (p : ℕ) → Edge E p → EdgeSent E F w p
  carried p h = step (dec_arc (arcs F) (image w (first_end E p)) (image w (second_end E p)))
    where
      step : Dec (EdgeSent E F w p) → EdgeSent E F w p
      step (yes m) = m
      step (no n) = absurd (never (others (others c)) p (h, n))

  -- it is a renumbering
  pub map_renumbers : (ρ : Renumbering N E F) × ((v : ℕ) → ρ.to v ≡ image w v)
  map_renumbers = (
    record {
      to = image w;
      from = λ v. suc (place v w);
      to_in = to_in;
      from_in = λ v a b. let (h, e) = place_at v w (used v a b) in (omega arith, omega (arith, long));
      from_to = λ v a b. let e = at_place w (v - 1) once (omega (arith, long)) in omega arith;
      to_from = λ v a b. let g : suc (place v w) - 1 ≡ place v w = omega arith in ap (λ x. get_or w x 0) g ∙ (place_at v w (used v a b)).1;
      carries = once_fills (map (carry (image w)) (arcs E)) (arcs F) all_once all-carried (rw length-map (arcs_length E F (omega (arith, t.edges, u.edges))));
    },
    λ v. refl,
  )
    where
      within : (e : Arc) → Memᴰ e (arcs E) → ((1 ≤ e.0) × (e.0 ≤ N)) × ((1 ≤ e.1) × (e.1 ≤ N))
      within = rooted_within N E 1 (rooted_tree N E 1 t (omega arith) (omega (arith, t.edges)))

      all_once : Once (map (carry (image w)) (arcs E))
      all_once =
          once_map (carry (image w)) (arcs E) (λ x y m k e.
          let (a, b) = within x m in
          let (h, l) = within y k in
          ap₂ (λ (f g : ℕ). (f, g)) (apart x.0 y.0 a.0 a.1 h.0 h.1 (ap (λ (z : Arc). z.0) e)) (apart x.1 y.1 b.0 b.1 l.0 l.1 (ap (λ (z : Arc). z.1) e)))
          (arcs_once (λ v. (1 ≤ v) × (v ≤ N)) (arcs E) (λ e m. (within e m).0) (λ v i. neighbours_once N E v t i.0 i.1))

      all-carried : (e : Arc) → Memᴰ e (map (carry (image w)) (arcs E)) → Memᴰ e (arcs F)
      all-carried e m =
          let (x, k, g) = Memᴰ.of_map (carry (image w)) (arcs E) m in
          let (p, (h, d)) = arc_edge E x k in
          ⊎_elim (λ f. Memᴰ.cast (sym g ∙ ap (carry (image w)) f) (carried p h)) (λ f. Memᴰ.cast (sym g ∙ ap (carry (image w)) f) (arc_back F _ _ (carried p h))) d
