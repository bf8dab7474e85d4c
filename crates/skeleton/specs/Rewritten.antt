-- Marks written by other numbers in the same order (`Rewritten`): rooted codes are rewritten number by number, and tell the same digits.
-- Assumes nothing.
use Rattle.std.specs.Prelude.{◌≡◌, length}
use Rattle.std.proofs.Math.Path.{refl, ap, ap₂, sym}
use Rattle.std.proofs.Common.{◌∙◌}
use mathlib.Core.List.{List, ◌∷◌, map, flatten, map-map}
use Prim.Native.Nat.{ℕ, zero, suc}
use Rattle.std.proofs.lemmas.List.{length-map}
use Rattle.laws.specs.document.Order.{sort}
use Rattle.laws.specs.Rising.{Rising, sort_risen}
use Rattle.digit_code.specs.Two.{map_flatten}
use Rattle.skeleton.specs.document.Skeleton.{Arc, arcs, children}
use Rattle.skeleton.specs.document.Label.{Marks, joinₗ, codeₗ, rootedₗ, digits}

-- φ writes the marks of M with the labels l as those of P with the labels k, in the same order, and keeps their digits
pub record Rewritten (M P : Marks) (l : ℕ → M.Label) (k : ℕ → P.Label) (φ : ℕ → ℕ) : Type 0 where
  pub rising : Rising φ
  pub marks : (n v : ℕ) → P.mark n (k v) ≡ φ (M.mark n (l v))
  pub arity : (m : ℕ) → P.arity (φ m) ≡ M.arity m

module _ (M P : Marks) {l : ℕ → M.Label} {k : ℕ → P.Label} {φ : ℕ → ℕ} (w : Rewritten M P l k φ) where
  join_rewritten : (v : ℕ) (cs : List (List ℕ)) → joinₗ P (k v) (map (map φ) cs) ≡ map φ (joinₗ M (l v) cs)
  unfolding joinₗ
  join_rewritten v cs = ap₂ (λ m x. m ∷ x)
      (ap (λ n. P.mark n (k v)) (length-map cs (map φ)) ∙ w.marks (length cs) v)
      (ap flatten (sort_risen φ w.rising cs) ∙ sym (map_flatten φ (sort cs)))

  pub code_rewritten : (n : ℕ) (A : List Arc) (p v : ℕ) → codeₗ P k n A p v ≡ map φ (codeₗ M l n A p v)
  unfolding codeₗ
  code_rewritten zero A p v = refl
  code_rewritten (suc n) A p v =
      let e : map (codeₗ P k n A v) (children A p v) ≡ map (λ u. map φ (codeₗ M l n A v u)) (children A p v) = λ i. map (λ u. code_rewritten n A v u i) (children A p v) in
      ap (joinₗ P (k v)) (e ∙ sym (map-map (map φ) (codeₗ M l n A v) (children A p v))) ∙ join_rewritten v (map (codeₗ M l n A v) (children A p v))

  pub rooted_rewritten : (N : ℕ) (E : List ℕ) (r : ℕ) → rootedₗ P k N E r ≡ map φ (rootedₗ M l N E r)
  unfolding rootedₗ
  rooted_rewritten N E r = code_rewritten N (arcs E) 0 r

  pub digits_rewritten : (c : List ℕ) → digits P (map φ c) ≡ digits M c
  unfolding digits
  digits_rewritten c = map-map P.arity φ c ∙ (λ i. map (λ m. w.arity m i) c)
