-- The theorems of document 01's rooted codes, each under a plain sentence and proved by a name from elsewhere. `General` has them for
-- vertices with labels, `Ordered` a test of a code on its digits alone, and `Accepted` what the refusal table lets pass. A section's
-- first line names what its theorems speak of. Assumes nothing.
use Rattle.std.specs.Prelude.{◌≡◌, refl, ◌↔◌, ℕ, ◌+◌, ◌≤◌, length}
use Rattle.std.proofs.Math.Logic.{Iff.trans as iff_trans}
use mathlib.Core.List.{List, [], ◌++◌, Permᴰ}
use Rattle.digit_code.specs.document.Code.{digit, sum, EndsAt, decode, cap}
use Rattle.digit_code.specs.Ends.{Ends}
use Rattle.skeleton.specs.document.Skeleton.{arcs, IsTree, Degrees, rooted, Renumbering}
use Rattle.skeleton.specs.IsRooted.{IsRooted}
use Rattle.skeleton.specs.document.Label.{rootedₗ, digits}
use Rattle.skeleton.specs.Label.{Valences}
use Rattle.skeleton.specs.Base.{base, rooted-base, digits-base, is_rooted, caps}
use Rattle.skeleton.specs.Right as Right
use Rattle.skeleton.specs.General as General

-- c is a rooted code exactly when its digits end and c is the code at vertex 1 of what it decodes to
pub decode-code : (c : List ℕ) → IsRooted c ↔ (Ends 1 c × (rooted (length c) (decode c) 1 ≡ c))
decode-code c = iff_trans (is_rooted c) (rw (digits-base, rooted-base) at (General.decode-code base c))

-- digits that end decode to a tree
pub decoded_tree : (c : List ℕ) → Ends 1 c → IsTree (length c) (decode c)
decoded_tree = Right.decoded_tree

-- no rooted code begins another
pub prefix : (c s : List ℕ) → IsRooted c → IsRooted (c ++ s) → s ≡ []
prefix c s x y = General.prefix base c s ((is_rooted c).0 x) ((is_rooted (c ++ s)).0 y)

-- the rooted code at the vertex r of a tree
module _ (N : ℕ) (E : List ℕ) (r : ℕ) (t : IsTree N E) (h : 1 ≤ r) (k : r ≤ N) where
  -- it is one
  pub right : IsRooted (rooted N E r)
  right = record { number = N; edges = E; root = r; tree = t; inside = (h, k); is = refl }

  -- decoded, it is the same tree under other numbers, with the root 1
  pub code-decode : (ρ : Renumbering N E (decode (rooted N E r))) × (ρ.to r ≡ 1)
  code-decode =
      let (ρ, e, s) = General.code-decode base N E r (λ v. tt) t h k in
      let z : (ρ : Renumbering N E (decode (digits base (rootedₗ base (λ v. tt) N E r)))) × (ρ.to r ≡ 1) = (ρ, e) in
      rw (digits-base, rooted-base) at z

  -- it is also that of another tree at q exactly when a renumbering carries the one to the other, root to root
  pub equal-codes : (F : List ℕ) (q : ℕ) → IsTree N F → 1 ≤ q → q ≤ N → (rooted N E r ≡ rooted N F q) ↔ ((ρ : Renumbering N E F) × (ρ.to r ≡ q))
  equal-codes F q u i j =
      iff_trans (simp rooted-base at (General.equal-codes base N E r (λ v. tt) t h k F q (λ v. tt) u i j)) (λ (ρ, e, s). (ρ, e), λ (ρ, e). (ρ, e, λ v a b. refl))

  -- it does not depend on the order in which edges, or the ends of an edge, are listed
  pub order_free : (F : List ℕ) → Permᴰ (arcs E) (arcs F) → rooted N E r ≡ rooted N F r
  order_free F π = simp rooted-base at (General.order_free base N E r (λ v. tt) t h k F π)

  -- it has a digit for each vertex
  pub code_length : length (rooted N E r) ≡ N
  code_length = rw rooted-base at (General.code_length base N E r (λ v. tt) t h k)

  -- its digits add up to one less
  pub digit-sum : sum (rooted N E r) + 1 ≡ N
  digit-sum = rw (digits-base, rooted-base) at (General.digit-sum base N E r (λ v. tt) t h k)

  -- it ends at its last digit
  pub ends : EndsAt (rooted N E r) N
  ends = rw (digits-base, rooted-base) at (General.ends base N E r (λ v. tt) t h k)

  -- no vertex has more than R neighbours exactly when the root's digit is at most R and every other at most R - 1
  pub degrees : (R : ℕ) → Degrees R N E ↔ ((p : ℕ) → 1 ≤ p → p ≤ length (rooted N E r) → digit (rooted N E r) p ≤ cap R p)
  unfolding Degrees Valences
  degrees R =
      iff_trans (rw rooted-base at (General.degrees base N E r (λ v. tt) t h k (λ a. R))) (caps R (rooted N E r) ((decode-code (rooted N E r)).0 right).0)
