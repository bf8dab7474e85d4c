-- Numbering by code: what a rooted code decodes to is the tree that was coded, numbered in the order of the digits (`to_decoded`). So
-- trees with equal rooted codes are the same (`same_tree`). Assumes nothing.
use Rattle.std.specs.Prelude.{◌≡◌, length}
use Rattle.std.proofs.Math.Path.{refl, ap, sym, subst}
use Rattle.std.proofs.Common.{ap₂, ◌∙◌, add-zero}
use mathlib.Core.List.Memᴰ
use mathlib.Core.List.Permᴰ
use mathlib.Core.List.{List, [], ◌∷◌, ◌++◌, map, Memᴰ, Permᴰ}
use Prim.Native.Nat.{ℕ, zero, suc, ◌+◌, ◌-◌, ◌<◌}
use native.Mathlib.Omega.{arith}
use Rattle.std.proofs.Math.ListN.{get_or, get_or-map}
use Rattle.laws.specs.document.Once.{Once}
use Rattle.laws.specs.Places.{place, place_here, place_past, place_at, at_place, at_in}
use Rattle.digit_code.specs.document.Code.{decode}
use Rattle.skeleton.specs.document.Skeleton.{arcs, Renumbering}
use Rattle.skeleton.specs.Forest.{Forest, none, tree, vertices, count, hung, Rooted}
use Rattle.skeleton.specs.Forests.{count-vertices, distinct_once, map_f, map_hung}
use Rattle.skeleton.specs.document.Label.{Marks, rootedₗ, digits, labels, Keeps}
use Rattle.skeleton.specs.Decoding.{width, shape, number, edges_of_forest, edges-hung, decode_forest, marks-labels}
use Rattle.skeleton.specs.Sorted.{sorted, rooted-marks, rooted-digits}
use Rattle.skeleton.specs.Renumber.{carry, Within, rooted_within, back, after}

-- the vertices l are numbered j, j + 1 and so on
abbrev Counts : (ℕ → ℕ) → ℕ → List ℕ → Type 0
Counts g j [] = Unit {0}
Counts g j (v ∷ l) = (g v ≡ j) × Counts g (suc j) l

counts-append : (g : ℕ → ℕ) (j : ℕ) (l m : List ℕ) → Counts g j (l ++ m) → Counts g j l × Counts g (j + length l) m
counts-append g j [] m c = (tt, rw add-zero c)
counts-append g j (v ∷ l) m c = let (a, b) = counts-append g (suc j) l m c.1 in ((c.0, a), subst (λ n. Counts g n m) (let e : suc j + length l ≡ j + suc (length l) = omega arith in e) b)

counts_shift : (g h : ℕ → ℕ) (j : ℕ) (l : List ℕ) → ((v : ℕ) → Memᴰ v l → h v ≡ suc (g v)) → Counts g j l → Counts h (suc j) l
counts_shift g h j [] s c = tt
counts_shift g h j (v ∷ l) s c = (s v (Memᴰ.head refl) ∙ ap suc c.0, counts_shift g h (suc j) l (λ w m. s w (Memᴰ.tail m)) c.1)

counts-place : (l : List ℕ) → Once l → Counts (λ v. suc (place v l)) 1 l
counts-place [] o = tt
counts-place (x ∷ l) o = (
  ap suc (place_here x x l refl),
  counts_shift (λ v. suc (place v l)) (λ v. suc (place v (x ∷ l))) 1 l (λ v m. ap suc (place_past v x l (λ e. o.0 (Memᴰ.cast (sym e) m)))) (counts-place l o.1),
)

-- vertices that are numbered in the order of their digits
map_number : (g : ℕ → ℕ) (j : ℕ) (f : Forest) → Counts g j (vertices f) → map_f g f ≡ number j f
unfolding map_f number vertices
map_number g j none c = refl
map_number g j (tree v d f) c =
    let (a, b) = counts-append g (suc j) (vertices d) (vertices f) c.1 in
    λ i. tree (c.0 i) (map_number g (suc j) d a i) (map_number g (suc j + count d) f (rw (count-vertices d) at b) i)

pub get_or-map_in : {A B : Type 0} (g : A → B) (l : List A) (i : ℕ) (d : B) (e : A) → i < length l → get_or (map g l) i d ≡ g (get_or l i e)
get_or-map_in g [] i d e h = let z : ⊥ = omega arith in absurd z
get_or-map_in g (x ∷ l) zero d e h = refl
get_or-map_in g (x ∷ l) (suc i) d e h = get_or-map_in g l i d e (omega arith)

module _ (N : ℕ) (E : List ℕ) (r : ℕ) (t : Rooted N E r) where
  -- the vertices in the order of their digits
  abbrev row : List ℕ
  row = r ∷ vertices t.forest

  row_once : Once row
  row_once = (t.apart, (distinct_once t.forest).0 t.distinct)

  row_length : length row ≡ N
  row_length = omega (arith, t.full, count-vertices t.forest)

  arcs-numbered : map (carry (λ v. suc (place v row))) (hung r t.forest) ≡ arcs (edges_of_forest 1 (number 2 t.forest))
  arcs-numbered =
      let f : Forest = t.forest in
      let c : Counts (λ v. suc (place v row)) 1 row = counts-place row row_once in
      sym (map_hung (λ v. suc (place v row)) r f) ∙ ap₂ hung c.0 (map_number (λ v. suc (place v row)) 2 f c.1) ∙ sym (edges-hung 1 (number 2 f))

  -- the tree, numbered in the order of its digits
  numbered : Renumbering N E (edges_of_forest 1 (number 2 t.forest))
  numbered = record {
    to = λ v. suc (place v row);
    from = λ i. get_or row (i - 1) 0;
    to_in = λ v a b. omega (arith, (place_at v row (t.all v a b)).0, row_length);
    from_in = λ i a b. t.inside (get_or row (i - 1) 0) (at_in row (i - 1) 0 (omega (arith, row_length)));
    from_to = λ v a b. let e : suc (place v row) - 1 ≡ place v row = omega arith in ap (λ n. get_or row n 0) e ∙ (place_at v row (t.all v a b)).1;
    to_from = λ i a b. omega (arith, at_place row (i - 1) row_once (omega (arith, row_length)));
    carries = subst (λ l. Permᴰ (map (carry (λ v. suc (place v row))) (arcs E)) l) arcs-numbered (Permᴰ.map (carry (λ v. suc (place v row))) t.same);
  }

module _ (M : Marks) (N : ℕ) (E : List ℕ) (r : ℕ) (l : ℕ → M.Label) where
  -- the tree and its labels, as the code c tells them
  abbrev pub Told : List ℕ → Type 0
  Told c = (ρ : Renumbering N E (decode (digits M c))) × (ρ.to r ≡ 1) × Keeps M N E (decode (digits M c)) l (labels M c) ρ

  -- and the number of a vertex is its place in the list o
  abbrev pub ToldBy : List ℕ → List ℕ → Type 0
  ToldBy o c =
      (ρ : Renumbering N E (decode (digits M c)))
      × (ρ.to r ≡ 1)
      × Keeps M N E (decode (digits M c)) l (labels M c) ρ
      × ((v : ℕ) → ρ.to v ≡ suc (place v o))
      × ((i : ℕ) → ρ.from i ≡ get_or o (i - 1) 0)

  pub told : (t : Rooted N E r) (c : List ℕ) → digits M c ≡ width t.forest ∷ shape t.forest → map M.atom c ≡ map l (r ∷ vertices t.forest) → ToldBy (r ∷ vertices t.forest) c
  unfolding numbered labels
  told t c d a =
      let L : List ℕ = r ∷ vertices t.forest in
      subst (λ D. (ρ : Renumbering N E D) × (ρ.to r ≡ 1) × Keeps M N E D l (labels M c) ρ × ((v : ℕ) → ρ.to v ≡ suc (place v L)) × ((i : ℕ) → ρ.from i ≡ get_or L (i - 1) 0))
      (sym (ap decode d ∙ decode_forest t.forest)) (
        numbered N E r t,
        ap suc (place_here r r (vertices t.forest) refl),
        λ v h k.
            let (i, e) = place_at v L (t.all v h k) in
            let n : suc (place v L) - 1 ≡ place v L = omega arith in
            ap (λ j. M.atom (get_or c j 0)) n
            ∙ sym (get_or-map M.atom c (place v L) 0)
            ∙ ap (λ z. get_or z (place v L) (M.atom 0)) a
            ∙ get_or-map_in l L (place v L) (M.atom 0) 0 i
            ∙ ap l e,
        λ v. refl,
        λ i. refl,
      )

  -- a tree coded and decoded is the same tree under other numbers, with the root 1 and the same labels
  pub to_decoded : Rooted N E r → Told (rootedₗ M l N E r)
  to_decoded t =
      let f : Forest = (sorted M l N E r t).forest in
      let (ρ, a, k, x, y) =
      told (sorted M l N E r t) (rootedₗ M l N E r) (rooted-digits M l N E r t)
      (ap (map M.atom) (rooted-marks M l N E r t) ∙ ap₂ (λ x y. x ∷ y) (M.atom_mark (width f) (l r)) (marks-labels M l f)) in
      (ρ, a, k)

-- trees with equal rooted codes are the same, root for root and label for label
pub same_tree : (M : Marks) (N : ℕ) (E F : List ℕ) (r q : ℕ) (l m : ℕ → M.Label) → Rooted N E r → Rooted N F q → rootedₗ M l N E r ≡ rootedₗ M m N F q
    → (ρ : Renumbering N E F) × (ρ.to r ≡ q) × Keeps M N E F l m ρ
unfolding back after
same_tree M N E F r q l m t u e =
    let c : List ℕ = rootedₗ M l N E r in
    let D : List ℕ = decode (digits M c) in
    let (ρ, a, k) = to_decoded M N E r l t in
    let z : Told M N F q m c = subst (Told M N F q m) (sym e) (to_decoded M N F q m u) in
    let (σ, b, j) = z in
    let within : Within N (arcs F) = rooted_within N F q u in
    let τ : Renumbering N D F = back N F D within σ in
    let (x, y) = u.inside q (Memᴰ.head refl) in (
      after N E D F ρ τ,
      ap σ.from (a ∙ sym b) ∙ σ.from_to q x y,
      λ v g h.
          let (i, n) = ρ.to_in v g h in
          let (i', n') = σ.from_in (ρ.to v) i n in
          sym (j (σ.from (ρ.to v)) i' n') ∙ ap (labels M c) (σ.to_from (ρ.to v) i n) ∙ k v g h,
    )
