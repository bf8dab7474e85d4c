-- Where, among the children of the branch at x, what is left of the code is put; and the code at x as the pieces that it then is.
-- Assumes nothing.
use Rattle.std.specs.Prelude.{◌≡◌, refl, length, get_or, drop}
use Rattle.std.proofs.Math.Path.{sym, ap, subst}
use Rattle.std.proofs.Common.{ap₂, ◌∙◌, length-drop}
use mathlib.Core.List.{List, [], ◌∷◌, ◌++◌, append_assoc, flatten}
use Prim.Native.Nat.{ℕ, suc, ◌+◌, ◌-◌, ◌≤◌, ◌<◌}
use Rattle.std.proofs.Math.Numerals.{add-one}
use native.Mathlib.Omega.{arith}
use Rattle.std.proofs.Math.ListN.{take}
use Rattle.laws.specs.document.Order.{◌≽◌, insert}
use Rattle.laws.specs.Sorting.{insert-at, insert_past}
use Rattle.laws.specs.Part.{part, part_none, part_join}
use Rattle.digit_code.specs.document.Code.{codes}
use Rattle.digit_code.specs.Digits.{digits}
use Rattle.digit_code.specs.Ends.{Ends}
use Rattle.digit_code.specs.Parts.{enough}
use Rattle.skeleton.specs.document.Label.{Marks}
use Rattle.centred_check.specs.Middle.{rest}
use Rattle.centred_check.specs.Skip.{codes_few, Skips, skips_after, skips_passed, skips_on, skips_left, one-part, one-children}

-- what is left of the code stands before the child that begins at y, or behind the last
pub record Spot (M : Marks) (c : List ℕ) (x e y : ℕ) : Type 0 where
  pub after : x < y
  pub within : y ≤ e
  pub pieces : flatten (insert (rest M c x e) (take (M.arity (get_or c x 0)) (codes M.arity (drop (suc x) c)))) ≡ part (suc x) y c ++ (rest M c x e ++ part y e c)

-- m children are passed, before none of which it stands, and the next begins at y
pub record Seeking (M : Marks) (c : List ℕ) (x e y m : ℕ) : Type 0 where
  pub few : m ≤ M.arity (get_or c x 0)
  pub passed : Skips M.arity c (suc x) m y
  pub so_far : flatten (insert (rest M c x e) (take (M.arity (get_or c x 0)) (codes M.arity (drop (suc x) c))))
      ≡ part (suc x) y c ++ flatten (insert (rest M c x e) (take (M.arity (get_or c x 0) - m) (codes M.arity (drop y c))))

pub seek_start : {M : Marks} {c : List ℕ} {x e : ℕ} → x < length c → Seeking M c x e (x + 1) 0
seek_start {M} {c} {x} {e} h = rw add-one (record {
  few = omega arith;
  passed = record { from = h; within = h; rest = refl };
  so_far =
      let n : M.arity (get_or c x 0) ≡ M.arity (get_or c x 0) - 0 = omega arith in
      ap (λ (a : ℕ). flatten (insert (rest M c x e) (take a (codes M.arity (drop (suc x) c))))) n
      ∙ sym (ap (λ (l : List ℕ). l ++ flatten (insert (rest M c x e) (take (M.arity (get_or c x 0) - 0) (codes M.arity (drop (suc x) c))))) (part_none (suc x) c));
})

module _ {M : Marks} {c : List ℕ} {x e y m : ℕ} (s : Seeking M c x e y m) (whole : Ends 1 (digits M.arity c)) (h : x < length c) where
  abbrev R : List ℕ
  R = rest M c x e

  abbrev k : ℕ
  k = M.arity (get_or c x 0)

  -- a child is left
  pub seek_some : m < M.arity (get_or c x 0) → 1 ≤ length (codes M.arity (drop y c))
  seek_some l = omega (arith, ap length s.passed.rest ∙ length-drop m (codes M.arity (drop (suc x) c)), enough M.arity c whole x h)

  pub seek_inside : m < M.arity (get_or c x 0) → y < length c
  seek_inside l = omega (arith, seek_some l, codes_few M.arity (drop y c), length-drop y c)

  module _ (l : m < M.arity (get_or c x 0)) {z : ℕ} (q : Skips M.arity c y 1 z) (g : y < length c) where
    next : take (k - m) (codes M.arity (drop y c)) ≡ part y z c ∷ take (k - suc m) (codes M.arity (drop z c))
    next =
        let n : k - m ≡ suc (k - suc m) = omega arith in
        ap₂ (λ (a : ℕ) (b : List (List ℕ)). take a b) n (one-part q g)

    pub seek-next : (rest M c x e ≽ part y z c → ⊥) → Seeking M c x e z (m + 1)
    unfolding flatten
    seek-next n = rw add-one (record {
      few = l;
      passed = subst (λ (a : ℕ). Skips M.arity c (suc x) a z) (add-one m) (skips_on s.passed q);
      so_far =
          s.so_far
          ∙ ap (λ (a : List (List ℕ)). part (suc x) y c ++ flatten a) (ap (insert R) next ∙ insert_past R (part y z c) (take (k - suc m) (codes M.arity (drop z c))) n)
          ∙ sym (append_assoc (part (suc x) y c) (part y z c) (flatten (insert R (take (k - suc m) (codes M.arity (drop z c))))))
          ∙ ap (λ (a : List ℕ). a ++ flatten (insert R (take (k - suc m) (codes M.arity (drop z c))))) (part_join (suc x) y z c (skips_after s.passed) (skips_after q));
    })

  module _ (b : Skips M.arity c x 1 e) where
    left : Skips M.arity c y (k - m) e
    left = skips_left s.passed s.few (one-children b h)

    found : flatten (insert R (take (k - m) (codes M.arity (drop y c)))) ≡ R ++ flatten (take (k - m) (codes M.arity (drop y c))) → Spot M c x e y
    found f = record {
      after = skips_after s.passed;
      within = skips_after left;
      pieces = s.so_far ∙ ap (λ (a : List ℕ). part (suc x) y c ++ a) (f ∙ ap (λ (a : List ℕ). R ++ a) (sym (skips_passed left)));
    }

    pub seek_stop : m < M.arity (get_or c x 0) → {z : ℕ} → Skips M.arity c y 1 z → y < length c → rest M c x e ≽ part y z c → Spot M c x e y
    unfolding flatten
    seek_stop l {z} q g f =
        found (ap (λ (a : List (List ℕ)). flatten (insert R a)) (next l q g)
        ∙ ap flatten (insert-at R (part y z c) (take (k - suc m) (codes M.arity (drop z c))) f)
        ∙ ap (λ (a : List (List ℕ)). R ++ flatten a) (sym (next l q g)))

    pub seek-last : M.arity (get_or c x 0) ≤ m → Spot M c x e y
    unfolding flatten insert
    seek-last l =
        let n : k - m ≡ 0 = omega arith in
        let z : take (k - m) (codes M.arity (drop y c)) ≡ [] = ap (λ (a : ℕ). take a (codes M.arity (drop y c))) n in
        found (rw z refl)
