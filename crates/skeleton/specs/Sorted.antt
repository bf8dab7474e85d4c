-- A forest with the trees beside one another sorted by their codes, largest first, at every vertex: it is the same tree, and its marks as
-- they stand are its rooted code (`rooted-marks`). Assumes nothing.
use Rattle.std.specs.Prelude.{◌≡◌, length}
use Rattle.std.proofs.Math.Path.{refl, ap, ap₂, sym}
use Rattle.std.proofs.Common.{◌∙◌, arith}
use Rattle.std.proofs.Math.Logic.{ite}
use mathlib.Core.List.{List, [], ◌∷◌, ◌++◌, flatten, append_assoc, Permᴰ}
use Prim.Native.Nat.{ℕ, suc}
use Rattle.laws.specs.document.Order.{◌≽◌, dec≽, insert, sort}
use Rattle.laws.specs.Falling.{Falling}
use Rattle.laws.specs.Sorting.{sort_self, sort_falling, sort_stays}
use Rattle.laws.specs.Perms.{perm_in, perm_length, front}
use Rattle.laws.specs.Once.{once_perm}
use Rattle.skeleton.specs.Forest.{Forest, none, tree, vertices, hung, Rooted}
use Rattle.skeleton.specs.Forests.{gather, gather-vertices, gather-hung, count-vertices, distinct_once}
use Rattle.skeleton.specs.document.Label.{Marks, joinₗ, rootedₗ, digits}
use Rattle.skeleton.specs.Codes.{join_perm, branches, rooted-join}
use Rattle.skeleton.specs.Decoding.{width, shape, marks, marks-digits}

module _ (M : Marks) (label : ℕ → M.Label) where
  pub branches_length : (f : Forest) → length (branches M label f) ≡ width f
  unfolding branches width
  branches_length none = refl
  branches_length (tree v d f) = ap suc (branches_length f)

  -- the trees below each vertex go down in the order of their codes
  abbrev pub Sorted : Forest → Type 0
  Sorted none = Unit {0}
  Sorted (tree v d f) = Falling (branches M label d) × Sorted d × Sorted f

  sorted_marks : (f : Forest) → Sorted f → flatten (branches M label f) ≡ marks M label f
  unfolding branches marks joinₗ flatten
  sorted_marks none s = refl
  sorted_marks (tree v d f) (h, s, t) =
      ap₂ (λ n l. M.mark n (label v) ∷ l) (branches_length d)
      (ap₂ (λ l m. l ++ m) (ap flatten (sort_stays (branches M label d) h) ∙ sorted_marks d s) (sorted_marks f t))

  -- the code of the tree of v over d
  abbrev over : ℕ → Forest → List ℕ
  over v d = joinₗ M (label v) (branches M label d)

  -- the tree of v over d put among those of f
  insert_f : ℕ → Forest → Forest → Forest
  insert_f v d none = tree v d none
  insert_f v d (tree u e g) = ite (dec≽ (over v d) (over u e)) (tree v d (tree u e g)) (tree u e (insert_f v d g))

  sort_f : Forest → Forest
  sort_f none = none
  sort_f (tree v d f) = insert_f v (sort_f d) (sort_f f)

  insert-branches : (v : ℕ) (d f : Forest) → branches M label (insert_f v d f) ≡ insert (over v d) (branches M label f)
  unfolding insert_f insert branches
  insert-branches v d none = refl
  insert-branches v d (tree u e g) = step (dec≽ (over v d) (over u e)) (insert-branches v d g)
    where
      step : (t : Dec (over v d ≽ over u e))
          → branches M label (insert_f v d g) ≡ insert (over v d) (branches M label g)
          → branches M label (ite t (tree v d (tree u e g)) (tree u e (insert_f v d g)))
          ≡ ite t (over v d ∷ over u e ∷ branches M label g) (over u e ∷ insert (over v d) (branches M label g))
      step (yes h) r = refl
      step (no h) r = ap (λ l. over u e ∷ l) r

  sort-branches : (f : Forest) → branches M label (sort_f f) ≡ sort (branches M label f)
  unfolding sort_f sort branches
  sort-branches none = refl
  sort-branches (tree v d f) =
      insert-branches v (sort_f d) (sort_f f)
      ∙ ap₂ insert (ap (joinₗ M (label v)) (sort-branches d) ∙ sym (join_perm M (label v) (sort_self (branches M label d)))) (sort-branches f)

  insert_sorted : (v : ℕ) (d f : Forest) → Falling (branches M label d) → Sorted d → Sorted f → Sorted (insert_f v d f)
  unfolding insert_f
  insert_sorted v d none h s t = (h, s, t)
  insert_sorted v d (tree u e g) h s t = step (dec≽ (over v d) (over u e)) (insert_sorted v d g h s t.2)
    where
      step : (t : Dec (over v d ≽ over u e)) → Sorted (insert_f v d g) → Sorted (ite t (tree v d (tree u e g)) (tree u e (insert_f v d g)))
      step (yes k) r = (h, s, t)
      step (no k) r = (t.0, t.1, r)

  sort_sorted : (f : Forest) → Sorted (sort_f f)
  unfolding sort_f
  sort_sorted none = tt
  sort_sorted (tree v d f) = insert_sorted v (sort_f d) (sort_f f) (rw (sort-branches d) (sort_falling (branches M label d))) (sort_sorted d) (sort_sorted f)

  module _ {A : Type 0} (x : ℕ → ℕ → List A) where
    insert-gather : (p v : ℕ) (d f : Forest) → Permᴰ (gather x p (tree v d f)) (gather x p (insert_f v d f))
    unfolding insert_f gather
    insert-gather p v d none = mathlib.Core.List.Permᴰ.refl (x p v ++ (gather x v d ++ []))
    insert-gather p v d (tree u e g) = step (dec≽ (over v d) (over u e)) (insert-gather p v d g)
      where
        step : (t : Dec (over v d ≽ over u e))
            → Permᴰ (x p v ++ (gather x v d ++ gather x p g)) (gather x p (insert_f v d g))
            → Permᴰ (x p v ++ (gather x v d ++ (x p u ++ (gather x u e ++ gather x p g)))) (gather x p (ite t (tree v d (tree u e g)) (tree u e (insert_f v d g))))
        step (yes h) r = mathlib.Core.List.Permᴰ.refl (x p v ++ (gather x v d ++ (x p u ++ (gather x u e ++ gather x p g))))
        step (no h) r =
            let q : Permᴰ ((x p v ++ gather x v d) ++ ((x p u ++ gather x u e) ++ gather x p g)) ((x p u ++ gather x u e) ++ ((x p v ++ gather x v d) ++ gather x p g))
            = front (x p v ++ gather x v d) (x p u ++ gather x u e) (gather x p g) in
            mathlib.Core.List.Permᴰ.trans (simp append_assoc at q) (mathlib.Core.List.Permᴰ.append_left (x p u) (mathlib.Core.List.Permᴰ.append_left (gather x u e) r))

    sort-gather : (p : ℕ) (f : Forest) → Permᴰ (gather x p f) (gather x p (sort_f f))
    unfolding sort_f gather
    sort-gather p none = mathlib.Core.List.Permᴰ.refl []
    sort-gather p (tree v d f) =
        mathlib.Core.List.Permᴰ.trans
        (mathlib.Core.List.Permᴰ.append_left (x p v) (mathlib.Core.List.Permᴰ.trans (mathlib.Core.List.Permᴰ.append_right (gather x p f) (sort-gather v d)) (mathlib.Core.List.Permᴰ.append_left (gather x v (sort_f d)) (sort-gather p f))))
        (insert-gather p v (sort_f d) (sort_f f))

  sort-vertices : (f : Forest) → Permᴰ (vertices f) (vertices (sort_f f))
  sort-vertices f = rw (gather-vertices 0 f, gather-vertices 0 (sort_f f)) (sort-gather (λ u v. v ∷ []) 0 f)

  sort-hung : (p : ℕ) (f : Forest) → Permᴰ (hung p f) (hung p (sort_f f))
  sort-hung p f = rw (gather-hung p f, gather-hung p (sort_f f)) (sort-gather (λ u v. (u, v) ∷ (v, u) ∷ []) p f)

  module _ (N : ℕ) (E : List ℕ) (r : ℕ) where
    -- the same tree, sorted
    pub sorted : Rooted N E r → Rooted N E r
    sorted t =
        let f : Forest = t.forest in
        let π : Permᴰ (vertices f) (vertices (sort_f f)) = sort-vertices f in
        let σ : Permᴰ (r ∷ vertices f) (r ∷ vertices (sort_f f)) = mathlib.Core.List.Permᴰ.cons refl π in
        record {
          forest = sort_f f;
          same = mathlib.Core.List.Permᴰ.trans t.same (sort-hung r f);
          apart = λ h. t.apart (perm_in (mathlib.Core.List.Permᴰ.symm π) h);
          distinct = (distinct_once (sort_f f)).1 (once_perm π ((distinct_once f).0 t.distinct));
          inside = λ v h. t.inside v (perm_in (mathlib.Core.List.Permᴰ.symm σ) h);
          all = λ v a b. perm_in σ (t.all v a b);
          full = omega (arith, t.full, perm_length π, count-vertices f, count-vertices (sort_f f));
        }

    pub sorted_below : (t : Rooted N E r) → Sorted (sorted t).forest
    unfolding sorted
    sorted_below t = sort_sorted t.forest

    pub sorted_falling : (t : Rooted N E r) → Falling (branches M label (sorted t).forest)
    unfolding sorted
    sorted_falling t = rw (sort-branches t.forest) (sort_falling (branches M label t.forest))

    -- the rooted code is the sorted tree's marks as they stand
    pub rooted-marks : (t : Rooted N E r) → rootedₗ M label N E r ≡ M.mark (width (sorted t).forest) (label r) ∷ marks M label (sorted t).forest
    unfolding joinₗ
    rooted-marks t =
        let f : Forest = (sorted t).forest in
        rooted-join M label N E r (sorted t)
        ∙ ap₂ (λ n l. M.mark n (label r) ∷ l) (branches_length f) (ap flatten (sort_stays (branches M label f) (sorted_falling t)) ∙ sorted_marks f (sorted_below t))

    pub rooted-digits : (t : Rooted N E r) → digits M (rootedₗ M label N E r) ≡ width (sorted t).forest ∷ shape (sorted t).forest
    unfolding digits
    rooted-digits t =
        let f : Forest = (sorted t).forest in
        ap (digits M) (rooted-marks t) ∙ ap₂ (λ n l. n ∷ l) (M.arity_mark (width f) (label r)) (marks-digits M label f)
