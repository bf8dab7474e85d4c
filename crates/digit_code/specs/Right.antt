-- A right rooted code, on its digits alone: what it is, the same over marks, and that this is what no row refuses. Assumes nothing.
use Rattle.std.specs.Prelude.{◌≡◌, ◌↔◌, List, [], ◌∷◌, ℕ, ◌≤◌, ◌<◌, length}
use Rattle.std.proofs.Common.{subst, ⊎_elim, arith}
use Rattle.refusal.specs.document.Table.{Clear, row3}
use Rattle.refusal.specs.Laws.{clear_one, clear_both, clear_left, never, others, at_most, at_least}
use Rattle.digit_code.specs.document.Code.{plain, digit, cap, row10, row11, row12, row13, code_rows}
use Rattle.digit_code.specs.Digits.{digits}
use Rattle.digit_code.specs.Ends.{Ends, digits-plain, plain_ends, ends_iff}
use Rattle.digit_code.specs.Ordered.{Ordered, never_larger}
use Rattle.digit_code.specs.Counting.{clear_ends, ends_whole}

-- a right rooted code of at most `most` digits, the root's at most R and every other at most R - 1
pub record RightCode (most R : ℕ) (c : List ℕ) : Type 0 where
  pub some : 1 ≤ length c
  pub few : length c ≤ most
  pub small : (p : ℕ) → 1 ≤ p → p ≤ length c → digit c p ≤ cap R p
  pub ends : Ends 1 c
  pub ordered : Ordered plain c

-- the same over marks; `limit` tells of a mark how many neighbours its vertex may have
pub record Rightₗ (arity limit : ℕ → ℕ) (most : ℕ) (c : List ℕ) : Type 0 where
  pub some : 1 ≤ length c
  pub few : length c ≤ most
  pub small : (p : ℕ) → 1 ≤ p → p ≤ length c → arity (digit c p) ≤ cap (limit (digit c p)) p
  pub ends : Ends 1 (digits arity c)
  pub ordered : Ordered arity c

-- a right code is one whose marks are its digits
pub right_plain : (most R : ℕ) (c : List ℕ) → Rightₗ plain (λ m. R) most c ↔ RightCode most R c
right_plain most R c = (
  λ r. record { some = r.some; few = r.few; small = r.small; ends = subst (Ends 1) (digits-plain c) r.ends; ordered = r.ordered },
  λ r. record { some = r.some; few = r.few; small = r.small; ends = plain_ends 1 c r.ends; ordered = r.ordered },
)

-- ---- row 10

pub small_clear : (R : ℕ) (c : List ℕ) → ((p : ℕ) → (row10 R c).applies p → ⊥) ↔ ((p : ℕ) → 1 ≤ p → p ≤ length c → digit c p ≤ cap R p)
small_clear R c = (
  λ f p h k. let n : cap R p < digit c p → ⊥ = λ l. f p (h, k, l) in omega arith,
  λ s p a. (let z : ⊥ = omega (arith, s p a.0 a.1, a.2) in z),
)

-- ---- no row refuses it, and what no row refuses is one

module _ (most R : ℕ) (c : List ℕ) where
  pub right_clear : RightCode most R c → Clear (code_rows most R c)
  right_clear r =
      clear_both {xs = row3 most (length c) ∷ []} (clear_one (λ p a. ⊎_elim outside above a.1))
      (clear_both {xs = row10 R c ∷ []} (clear_one ((small_clear R c).1 r.small))
      (clear_both {xs = row11 c ∷ row12 c ∷ []} (ends_whole ((ends_iff c).0 r.ends) (omega arith)) (clear_one {r = row13 plain c} ((never_larger plain c).0 r.ordered))))
    where
      outside : length c ≡ 0 → ⊥
      outside z = let n : ⊥ = omega (arith, r.some) in n

      above : most < length c → ⊥
      above g = let n : ⊥ = omega (arith, r.few) in n

  pub clear_right : Clear (code_rows most R c) → RightCode most R c
  clear_right k =
      record {
        some = at_least k;
        few = at_most k;
        small = (small_clear R c).0 (never (others k));
        ends = (ends_iff c).1 (clear_ends (clear_left (row11 c ∷ row12 c ∷ []) (row13 plain c ∷ []) (others (others k))));
        ordered = (never_larger plain c).1 (never (others (others (others (others k)))));
      }
