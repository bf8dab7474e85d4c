-- Document 01, "Codes": "its children's codes, largest first in dictionary order", on the marks alone; and that it is this which row 13
-- asks for. That marks whose digits end and which are so ordered are a rooted code is `code-ordered` of the crate `skeleton`. Assumes nothing.
use Rattle.std.specs.Prelude.{refl, ◌↔◌, ℕ, zero, suc, ◌+◌, ◌≤◌, ◌<◌, length, get_or, take, drop}
use mathlib.Core.List.{List, [], ◌∷◌, flatten}
use Rattle.std.proofs.Math.Decide.{dec_lt}
use Rattle.std.proofs.Common.{arith}
use Rattle.std.proofs.Math.Seq.{take-nil}
use Rattle.laws.specs.document.Order.{◌≽◌, dec≽}
use Rattle.laws.specs.Falling.{Falling}
use Rattle.laws.specs.Sorting.{falling_iff}
use Rattle.digit_code.specs.document.Code.{codes, child_codes, Larger}
use Rattle.digit_code.specs.Parts.{codes_past}
use Rattle.digit_code.specs.Siblings.{child-codes}

module _ (arity : ℕ → ℕ) where
  -- at no mark is a child's code larger than that of the sibling before it
  abbrev pub Ordered : List ℕ → Type 0
  Ordered [] = Unit {0}
  Ordered (m ∷ ms) = Falling (take (arity m) (codes arity ms)) × Ordered ms

  -- mark by mark
  pub by_places : (c : List ℕ) → Ordered c ↔ ((i : ℕ) → i < length c → Falling (take (arity (get_or c i 0)) (codes arity (drop (suc i) c))))
  by_places [] = (λ o i h. let z : ⊥ = omega arith in absurd z, λ g. tt)
  by_places (m ∷ ms) = (λ o. at o ((by_places ms).0 o.1), λ g. (g 0 (omega arith), (by_places ms).1 (λ i h. g (suc i) (omega arith))))
    where
      at : Ordered (m ∷ ms) → ((i : ℕ) → i < length ms → Falling (take (arity (get_or ms i 0)) (codes arity (drop (suc i) ms)))) → (i : ℕ) → i < suc (length ms)
          → Falling (take (arity (get_or (m ∷ ms) i 0)) (codes arity (drop i ms)))
      at o r zero h = o.0
      at o r (suc i) h = r i (omega arith)

  children_fall : (c : List ℕ) → Ordered c → (v : ℕ) → 1 ≤ v → Falling (child_codes arity c v)
  children_fall c o zero h = let z : ⊥ = omega arith in absurd z
  children_fall c o (suc i) h = rw (child-codes arity c i) (inside (dec_lt i (length c)))
    where
      inside : Dec (i < length c) → Falling (take (arity (get_or c i 0)) (codes arity (drop (suc i) c)))
      inside (yes l) = (by_places c).0 o i l
      inside (no n) = rw (codes_past arity c (suc i) (omega arith), take-nil) tt

  -- marks are ordered exactly when row 13 applies nowhere
  pub never_larger : (c : List ℕ) → Ordered c ↔ ((p : ℕ) → Larger arity c p → ⊥)
  never_larger c = (
    λ o p x. x.child.larger ((falling_iff (child_codes arity c x.parent)).0 (children_fall c o x.parent x.some) x.child.before x.child.siblings),
    λ g. (by_places c).1 (λ i h. rw (← child-codes arity c i) ((falling_iff (child_codes arity c (suc i))).1 (λ j l. step g i j l (dec≽ (get_or (child_codes arity c (suc i)) j []) (get_or (child_codes arity c (suc i)) (suc j) []))))),
  )
    where
      step : ((p : ℕ) → Larger arity c p → ⊥) → (i j : ℕ) → suc j < length (child_codes arity c (suc i)) → Dec (get_or (child_codes arity c (suc i)) j [] ≽ get_or (child_codes arity c (suc i)) (suc j) [])
          → get_or (child_codes arity c (suc i)) j [] ≽ get_or (child_codes arity c (suc i)) (suc j) []
      step g i j l (yes h) = h
      step g i j l (no n) =
          absurd (g (suc i + 1 + length (flatten (take (suc j) (child_codes arity c (suc i)))))
          (record { parent = suc i; some = omega arith; child = record { before = j; siblings = l; larger = n; begins = refl } }))
