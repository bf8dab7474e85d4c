-- The test on the marks of a rooted code says whether the root is in the centre with no larger code there (`middle_iff`); and where a
-- code is the centred one of what it decodes to, the root is such a vertex (`root-iff`). Assumes nothing.
use Rattle.std.specs.Prelude.{◌≡◌, refl, ◌↔◌, ◌⊎◌, List, ◌∷◌, ℕ, suc, ◌≤◌, ◌<◌}
use Rattle.std.proofs.Common.{ap, sym, ◌∙◌, subst, subst₂, inr, ⊎_elim, arith}
use Rattle.std.proofs.Math.Logic.{inl}
use mathlib.Core.List.Permᴰ
use Rattle.std.proofs.Math.Decide.{ℕ_discrete}
use Rattle.laws.specs.document.Order.{◌≽◌}
use Rattle.laws.specs.Falling.{Falling}
use Rattle.laws.specs.Sorting.{refl≽}
use Rattle.skeleton.specs.document.Skeleton.{IsTree, Renumbering}
use Rattle.skeleton.specs.Forest.{Forest, none, tree, Rooted}
use Rattle.skeleton.specs.Grow.{rooted_tree}
use Rattle.skeleton.specs.document.Label.{Marks, rootedₗ, Keeps}
use Rattle.skeleton.specs.Decoding.{width, marks}
use Rattle.skeleton.specs.Sorted.{sorted, sorted_below, sorted_falling}
use Rattle.skeleton.specs.Ordered.{strings, Down, down-branches, sorted_down}
use Rattle.skeleton.specs.General.{equal-codes}
use Rattle.longest_path.specs.document.Path.{IsCentre}
use Rattle.longest_path.specs.Heights.{tall}
use Rattle.longest_path.specs.Balance as Balance
use Rattle.longest_path.specs.Theorems as Paths
use Rattle.form.specs.document.Labelled.{IsCentredₗ}
use Rattle.centred_check.specs.Middle.{peak, second, other, Middle}
use Rattle.centred_check.specs.Lift.{Lifted, talls, top-talls, second_below, lift}
use Rattle.centred_check.specs.Turn.{Falls, moved, turned_round, code_is, code-more, other_is, heights-whole}

-- r is in the centre, and the code at the centre's other vertex is not larger
pub record AtCentre (M : Marks) (label : ℕ → M.Label) (N : ℕ) (E : List ℕ) (r : ℕ) : Type 0 where
  pub twin : ℕ
  pub centre : IsCentre N E r twin ⊎ IsCentre N E twin r
  pub above : rootedₗ M label N E r ≽ rootedₗ M label N E twin

module _ (M : Marks) (label : ℕ → M.Label) (N : ℕ) (E : List ℕ) (t : IsTree N E) where
  alone : (r : ℕ) → IsCentre N E r r → AtCentre M label N E r
  alone r i = record { twin = r; centre = inl i; above = refl≽ (rootedₗ M label N E r) }

  -- beside r the centre has one vertex
  one_twin : (r x y : ℕ) → IsCentre N E r x → IsCentre N E r y ⊎ IsCentre N E y r → y ≡ x
  one_twin r x y i (inl j) = ⊎_elim (λ e. e.1) (λ e. e.1 ∙ e.0) (Paths.one-centre N E t r x r y i j)
  one_twin r x y i (inr j) = ⊎_elim (λ e. e.0 ∙ e.1) (λ e. e.0) (Paths.one-centre N E t r x y r i j)

  module _ (r : ℕ) (s : Rooted N E r) (o : Falls M label s.forest) where
    abbrev f : Forest
    f = s.forest

    abbrev c : List ℕ
    c = M.mark (width f) (label r) ∷ marks M label f

    -- the test by the forest's heights
    abbrev Test : Type 0
    Test = (tall f ≡ second (talls f)) ⊎ ((tall f ≡ suc (second (talls f))) × (c ≽ other M c))

    test_is : Middle M c ≡ Test
    test_is = rw (heights-whole M label f, top-talls f)

    none-at : s.forest ≡ none → AtCentre M label N E r
    none-at is = alone r (Balance.no_branch N E t r s is)

    none_test : s.forest ≡ none → Test
    unfolding tall talls second
    none_test is = inl (rw is)

    module _ (l : Lifted M label s.forest (peak (talls s.forest))) where
      lifted : (u : Rooted N E r) × (u.forest ≡ tree l.root l.below l.others)
      lifted = moved s r (tree l.root l.below l.others) (Permᴰ.cons refl l.names) (l.same r)

      twin_code : rootedₗ M label N E l.root ≡ other M c
      twin_code =
          let (u, is) = lifted in
          let (v, at) = turned_round u l.root l.below l.others is in
          let (a, b, z) = l.down o.1 in
          code-more M label v r l.others l.below at (l.falls o.0, z) (a, b) ∙ sym (other_is M label (label r) f l)

      two : tall f ≡ suc (second (talls f)) → IsCentre N E r l.root
      two e = let (u, is) = lifted in Balance.two-centre N E t r u l.root l.below l.others is (omega (arith, l.first, l.next))

      there : Test → AtCentre M label N E r
      there (inl e) = let (u, is) = lifted in alone r (Balance.one-centre N E t r u l.root l.below l.others is (omega (arith, l.first, l.next)))
      there (inr (e, h)) = record {
        twin = l.root;
        centre = inl (two e);
        above = subst₂ (λ x y. x ≽ y) (sym (code_is M label s o)) (sym twin_code) h;
      }

      back : AtCentre M label N E r → Test
      back a = step (ℕ_discrete (tall f) (second (talls f))) (ℕ_discrete (tall f) (suc (second (talls f))))
        where
          low : (tall f ≡ second (talls f) → ⊥) → (tall f ≡ suc (second (talls f)) → ⊥) → ⊥
          low n m =
              let (u, is) = lifted in
              let k : tall l.others < tall l.below = omega (arith, l.first, l.next, second_below (talls f), top-talls f) in
              ⊎_elim
              (λ i. (Balance.no_centre N E t r u l.root l.below l.others is k i.path i.longest).0 i.first)
              (λ i. (Balance.no_centre N E t r u l.root l.below l.others is k i.path i.longest).1 i.second)
              a.centre

          step : Dec (tall f ≡ second (talls f)) → Dec (tall f ≡ suc (second (talls f))) → Test
          step (yes e) d = inl e
          step (no n) (yes e) =
              let q : a.twin ≡ l.root = one_twin r l.root a.twin (two e) a.centre in
              inr (e, subst₂ (λ x y. x ≽ y) (code_is M label s o) (ap (rootedₗ M label N E) q ∙ twin_code) a.above)
          step (no n) (no m) = absurd (low n m)

  -- the test on the marks of a rooted code
  pub middle_iff : (r : ℕ) → 1 ≤ r → r ≤ N → Middle M (rootedₗ M label N E r) ↔ AtCentre M label N E r
  middle_iff r h k =
      let u : Rooted N E r = rooted_tree N E r t h k in
      let s : Rooted N E r = sorted M label N E r u in
      let o : Down M label s.forest = sorted_down M label s.forest (sorted_below M label N E r u) in
      let g : Falling (strings M label s.forest) = rw (down-branches M label s.forest o) at (sorted_falling M label N E r u) in
      rw (code_is M label s (g, o), test_is r s (g, o)) (cases r s (g, o) s.forest refl)
    where
      cases : (r : ℕ) (s : Rooted N E r) (o : Falls M label s.forest) (g : Forest) → s.forest ≡ g → Test r s o ↔ AtCentre M label N E r
      cases r s o none is = (λ m. none-at r s o is, λ a. none_test r s o is)
      cases r s o (tree x d g) is =
          let l : Lifted M label s.forest (peak (talls s.forest)) = lift M label s.forest (some r s x d g is) in
          (there r s o l, back r s o l)
        where
          some : (r : ℕ) (s : Rooted N E r) (x : ℕ) (d g : Forest) → s.forest ≡ tree x d g → 0 < tall s.forest
          some r s x d g is = unfold tall in rw is (omega arith)

  -- a code at a vertex is the centred one exactly when the code at a vertex in the centre is it, with none larger
  pub centred-at : (r : ℕ) → 1 ≤ r → r ≤ N → AtCentre M label N E r → IsCentredₗ M N E label (rootedₗ M label N E r)
  centred-at r h k a = ⊎_elim
      (λ i. record { first = r; second = a.twin; centre = i; either = inl refl; above-first = refl≽ (rootedₗ M label N E r); above-second = a.above })
      (λ i. record { first = a.twin; second = r; centre = i; either = inr refl; above-first = a.above; above-second = refl≽ (rootedₗ M label N E r) })
      a.centre

  pub at-centred : (r : ℕ) → 1 ≤ r → r ≤ N → IsCentredₗ M N E label (rootedₗ M label N E r) → AtCentre M label N E r
  at-centred r h k m =
      let (a, b) = Paths.centre_inside N E t m.first m.second m.centre in
      ⊎_elim
      (λ e. let (ρ, q, l) = (equal-codes M N E m.first label t a.0 a.1 E r label t h k).0 (sym e) in record {
        twin = ρ.to m.second;
        centre = inl (subst (λ v. IsCentre N E v (ρ.to m.second)) q (carried ρ));
        above = rw (kept ρ l m.second b) m.above-second;
      })
      (λ e. let (ρ, q, l) = (equal-codes M N E m.second label t b.0 b.1 E r label t h k).0 (sym e) in record {
        twin = ρ.to m.first;
        centre = inr (subst (λ v. IsCentre N E (ρ.to m.first) v) q (carried ρ));
        above = rw (kept ρ l m.first a) m.above-first;
      })
      m.either
    where
      carried : (ρ : Renumbering N E E) → IsCentre N E (ρ.to m.first) (ρ.to m.second)
      carried ρ = Paths.centre-carried N E t E ρ m.first m.second m.centre

      kept : (ρ : Renumbering N E E) → Keeps M N E E label label ρ → (v : ℕ) → (1 ≤ v) × (v ≤ N) → rootedₗ M label N E (ρ.to v) ≡ rootedₗ M label N E v
      kept ρ l v i = let j = ρ.to_in v i.0 i.1 in sym ((equal-codes M N E v label t i.0 i.1 E (ρ.to v) label t j.0 j.1).1 (ρ, refl, l))
