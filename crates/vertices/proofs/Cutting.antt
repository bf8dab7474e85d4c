-- A vertex's part of the code held against the rest of the code, both cut where they are compared.
--
-- In order: the root's mark; the two, cut; what each difference denies, and what is left to be compared. Assumes nothing.
use mathlib.Core.Path.{◌≡◌, sym, ap, ap₂, ◌∙◌}
use mathlib.Core.Bool.{Bool, false}
use mathlib.Core.List.{List, [], ◌∷◌, ◌++◌, head-eq_of_cons-eq, tail-eq_of_cons-eq}
use Prim.Native.Nat.{ℕ, zero, suc, ◌+◌, ◌-◌, ◌/◌, ◌%◌, ◌≤◌}
use native.Mathlib.Numerals.{add-one}
use native.Mathlib.Omega.{arith}
use lib.ListN.{length, get_or, take, drop, length-append, length-drop}
use lib.Seq.{take_at, drop_at, take_all}
use Rattle.laws.specs.Part.{part, part_cons, part_length, part_join}
use Rattle.laws.specs.Tells.{Tells, holds, denies}
use Rattle.digit_code.specs.Ends.{Ends}
use Rattle.digit_code.specs.Parts.{Ending}
use Rattle.skeleton.specs.document.Label.{digits}
use Rattle.skeleton.specs.document.AtomMarks.{atoms}
use Rattle.skeleton.specs.Label.{fewer}
use Rattle.skeleton.specs.Atoms.{rank-named}
use Rattle.orbits.specs.Parents.{subtreeₗ}
use Rattle.orbits.specs.Half.{restₗ}
use Rattle.vertices.proofs.Parts.{subtree_part, subtree_long}

-- the root of marks with one behind its own has a child, so that its mark is 3 or more
root_some : (c : List ℕ) → Ends 1 (digits atoms c) → 2 ≤ length c → 3 ≤ get_or c 0 0
unfolding digits
root_some [] w h = let z : ⊥ = omega arith in absurd z
root_some (m ∷ []) w h = let z : ⊥ = omega arith in absurd z
root_some (m ∷ d ∷ ms) w h = omega (arith, some (m / 3) w)
  where
    some : (k : ℕ) → Ends (k + 0) (digits atoms (d ∷ ms)) → 1 ≤ k
    some zero w = absurd w
    some (suc k) w = omega arith

-- a mark with one child fewer
fewer-less : (m : ℕ) → 3 ≤ m → fewer atoms m ≡ m - 3
fewer-less m h = omega (arith, rank-named (m % 3) (omega arith))

module _ {c : List ℕ} {v b : ℕ} (x : Ends 1 (digits atoms c)) (o : 1 ≤ v) (e : Ending atoms.arity c v b) where
  abbrev n : ℕ
  n = length c

  pub root_large : 3 ≤ get_or c 0 0
  root_large = root_some c x (omega (arith, e.after, e.within))

  rest_cut : restₗ atoms c (suc v) ≡ (get_or c 0 0 - 3) ∷ (part 1 v c ++ part b n c)
  rest_cut =
      let i : suc v - 2 ≡ v - 1 = omega arith in
      let j : suc v - 1 + length (subtreeₗ atoms c (suc v)) ≡ b = omega (arith, subtree_long e, e.after) in
      ap (λ (m : ℕ). m ∷ (take (suc v - 2) (drop 1 c) ++ drop (suc v - 1 + length (subtreeₗ atoms c (suc v))) c)) (fewer-less (get_or c 0 0) root_large)
      ∙ ap₂ (λ (x y : List ℕ). (get_or c 0 0 - 3) ∷ (x ++ y)) (ap (λ (m : ℕ). take m (drop 1 c)) i)
      (ap (λ (m : ℕ). drop m c) j ∙ sym (take_all (n - b) (drop b c) (omega (arith, length-drop b c))))

  rest_long : length (restₗ atoms c (suc v)) ≡ n - (b - v)
  rest_long =
      ap length rest_cut
      ∙ (let h = length-append (part 1 v c) (part b n c) in
      omega (arith, h, part_length 1 v c (omega (arith, e.after, e.within)), part_length b n c (omega arith), e.after, e.within))

  pub lengths_apart : (b - v ≡ n - (b - v) → ⊥) → Tells (subtreeₗ atoms c (suc v) ≡ restₗ atoms c (suc v)) false
  lengths_apart d = denies (λ h. d (sym (subtree_long e) ∙ ap length h ∙ rest_long))

  -- where the lengths agree
  module _ (s : b - v ≡ n - (b - v)) where
    pub fits : v + v ≤ b
    fits = omega (arith, e.after, e.within)

    part_cut : subtreeₗ atoms c (suc v) ≡ get_or c v 0 ∷ (part (v + 1) (v + v) c ++ part (v + v) b c)
    part_cut =
        subtree_part e
        ∙ part_cons v b c 0 e.after (omega (arith, e.after, e.within))
        ∙ ap (λ (l : List ℕ). get_or c v 0 ∷ l) (ap (λ (m : ℕ). part m b c) (sym (add-one v)) ∙ sym (part_join (v + 1) (v + v) b c (omega arith) fits))

    -- the two, in pieces
    apart : subtreeₗ atoms c (suc v) ≡ restₗ atoms c (suc v) → get_or c v 0 ∷ (part (v + 1) (v + v) c ++ part (v + v) b c) ≡ (get_or c 0 0 - 3) ∷ (part 1 v c ++ part b n c)
    apart h = sym part_cut ∙ h ∙ rest_cut

    pub roots_apart : (get_or c v 0 ≡ get_or c 0 0 - 3 → ⊥) → Tells (subtreeₗ atoms c (suc v) ≡ restₗ atoms c (suc v)) false
    roots_apart d = denies (λ h. d (head-eq_of_cons-eq (apart h)))

    first_long : length (part (v + 1) (v + v) c) ≡ v - 1
    first_long = part_length (v + 1) (v + v) c (omega (arith, fits, e.within)) ∙ omega arith

    before_long : length (part 1 v c) ≡ v - 1
    before_long = part_length 1 v c (omega (arith, e.after, e.within))

    first-same : subtreeₗ atoms c (suc v) ≡ restₗ atoms c (suc v) → part (v + 1) (v + v) c ≡ part 1 v c
    first-same h =
        sym (take_at (part (v + 1) (v + v) c) (part (v + v) b c) (v - 1) first_long)
        ∙ ap (take (v - 1)) (tail-eq_of_cons-eq (apart h))
        ∙ take_at (part 1 v c) (part b n c) (v - 1) before_long

    last-same : subtreeₗ atoms c (suc v) ≡ restₗ atoms c (suc v) → part (v + v) b c ≡ part b n c
    last-same h =
        sym (drop_at (part (v + 1) (v + v) c) (part (v + v) b c) (v - 1) first_long)
        ∙ ap (drop (v - 1)) (tail-eq_of_cons-eq (apart h))
        ∙ drop_at (part 1 v c) (part b n c) (v - 1) before_long

    pub first_apart : (part (v + 1) (v + v) c ≡ part 1 v c → ⊥) → Tells (subtreeₗ atoms c (suc v) ≡ restₗ atoms c (suc v)) false
    first_apart d = denies (λ h. d (first-same h))

    -- the last marks decide
    pub last_decide : {r : Bool} → get_or c v 0 ≡ get_or c 0 0 - 3 → part (v + 1) (v + v) c ≡ part 1 v c → Tells (part (v + v) b c ≡ part b n c) r
        → Tells (subtreeₗ atoms c (suc v) ≡ restₗ atoms c (suc v)) r
    last_decide x y (holds z) = holds (part_cut ∙ ap₂ ◌∷◌ x (ap₂ ◌++◌ y z) ∙ sym rest_cut)
    last_decide x y (denies d) = denies (λ h. d (last-same h))
