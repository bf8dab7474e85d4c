-- The middles of a path read from its other end, which are the same, the other way round: so the two of a centre may be exchanged. Assumes nothing.
use Rattle.std.specs.Prelude.{◌≡◌, refl, ℕ, suc, ◌+◌, ◌-◌, ◌/◌, ◌<◌, length, get_or}
use Rattle.std.proofs.Common.{sym, ap, ◌∙◌, arith, get_or-append-add}
use mathlib.Core.List.{List, [], ◌∷◌, ◌++◌, reverse, reverse-cons}
use Rattle.std.proofs.Math.Decide.{dec_lt}
use Rattle.std.proofs.lemmas.List.{length-reverse}
use Rattle.std.proofs.Math.ListN.{get_or-append}
use Rattle.longest_path.specs.document.Path.{middle₁, middle₂, IsLongest, IsCentre}
use Rattle.longest_path.specs.Paths.{path_reverse}

-- what stands at a place, counted from the other end
at-other-end : (p : List ℕ) (i : ℕ) → i < length p → get_or (reverse p) i 0 ≡ get_or p (length p - 1 - i) 0
at-other-end [] i h = absurd (let n : ⊥ = omega arith in n)
at-other-end (x ∷ p) i h = rw reverse-cons (step (dec_lt i (length p)) (at-other-end p i))
  where
    step : Dec (i < length p) → (i < length p → get_or (reverse p) i 0 ≡ get_or p (length p - 1 - i) 0) → get_or (reverse p ++ (x ∷ [])) i 0 ≡ get_or (x ∷ p) (suc (length p) - 1 - i) 0
    step (yes l) r =
        let e : suc (length p) - 1 - i ≡ suc (length p - 1 - i) = omega arith in
        get_or-append (reverse p) (x ∷ []) 0 i (omega (arith, length-reverse p)) ∙ r l ∙ ap (λ k. get_or (x ∷ p) k 0) (sym e)
    step (no n) r =
        let e : suc (length p) - 1 - i ≡ 0 = omega arith in
        let f : i ≡ length (reverse p) + 0 = omega (arith, length-reverse p) in
        ap (λ k. get_or (reverse p ++ (x ∷ [])) k 0) f ∙ get_or-append-add (reverse p) (x ∷ []) 0 0 ∙ ap (λ k. get_or (x ∷ p) k 0) (sym e)

module _ (N : ℕ) (E : List ℕ) where
  -- a longest path from its other end
  longest_reverse : (p : List ℕ) → IsLongest N E p → IsLongest N E (reverse p)
  longest_reverse p h = record { path = path_reverse N E p h.path; longest = λ q i. omega (arith, h.longest q i, length-reverse p) }

-- the middles change places
turned₁ : (p : List ℕ) → middle₁ (reverse p) ≡ middle₂ p
unfolding middle₁ middle₂
turned₁ [] = refl
turned₁ (x ∷ p) =
    let i : ℕ = length p / 2 in
    let e : (length (reverse (x ∷ p)) - 1) / 2 ≡ i = omega (arith, length-reverse (x ∷ p)) in
    let f : suc (length p) - 1 - i ≡ suc (length p) / 2 = omega arith in
    ap (λ k. get_or (reverse (x ∷ p)) k 0) e ∙ at-other-end (x ∷ p) i (omega arith) ∙ ap (λ k. get_or (x ∷ p) k 0) f

turned₂ : (p : List ℕ) → middle₂ (reverse p) ≡ middle₁ p
unfolding middle₁ middle₂
turned₂ [] = refl
turned₂ (x ∷ p) =
    let i : ℕ = suc (length p) / 2 in
    let e : length (reverse (x ∷ p)) / 2 ≡ i = omega (arith, length-reverse (x ∷ p)) in
    let f : suc (length p) - 1 - i ≡ (suc (length p) - 1) / 2 = omega arith in
    ap (λ k. get_or (reverse (x ∷ p)) k 0) e ∙ at-other-end (x ∷ p) i (omega arith) ∙ ap (λ k. get_or (x ∷ p) k 0) f

-- the two of a centre, exchanged
pub turned : {N : ℕ} {E : List ℕ} {u v : ℕ} → IsCentre N E u v → IsCentre N E v u
turned {N} {E} c =
    record {
      path = reverse c.path;
      longest = longest_reverse N E c.path c.longest;
      first = turned₁ c.path ∙ c.second;
      second = turned₂ c.path ∙ c.first;
    }
