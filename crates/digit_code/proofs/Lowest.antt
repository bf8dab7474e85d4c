-- The lowest place of row 13 over all marks, kept while the marks are gone through. Assumes nothing.
use Rattle.std.specs.Prelude.{Ok, Err}
use mathlib.Core.Path.{◌≡◌, sym, ap, ◌∙◌, subst}
use mathlib.Core.List.{List, [], ◌∷◌}
use Prim.Native.Nat.{ℕ, suc, ◌+◌, ◌-◌, ◌≤◌, ◌<◌}
use Rattle.std.proofs.Common.{Option, None, Some, min}
use Rattle.std.proofs.Math.Nat.{min-le_left, min-le_right, min-eq_left, min-eq_right}
use Rattle.std.specs.Option.{unwrap_or}
use native.Mathlib.Decide.{dec_lt, ℕ_discrete}
use native.Mathlib.Omega.{arith}
use lib.ListN.{length, get_or, take, drop}
use lib.Seq.{take-nil}
use Rattle.refusal.specs.Checks.{Answers, passes, fails}
use Rattle.refusal.specs.Laws.{clear_one}
use Rattle.refusal.proofs.Laws.{first-place}
use Rattle.digit_code.specs.document.Code.{codes, child_codes, LargerOf, Larger, row13}
use Rattle.digit_code.specs.Parts.{codes_past}
use Rattle.digit_code.specs.Search.{FirstOf}

-- best is the lowest place of a larger child of the first i marks, if there is one
abbrev pub Best : (arity : ℕ → ℕ) (c : List ℕ) (i : ℕ) → Option ℕ → Type 0
Best arity c i None = (v p : ℕ) → 1 ≤ v → v ≤ i → LargerOf arity c v p → ⊥
Best arity c i (Some b) = Larger arity c b × ((v p : ℕ) → 1 ≤ v → v ≤ i → LargerOf arity c v p → b ≤ p)

pub best_none : {arity : ℕ → ℕ} (c : List ℕ) → Best arity c 0 None
best_none c v p h k g = absurd (let z : ⊥ = omega arith in z)

-- the marks passed, and the next one
either : {i : ℕ} (P : ℕ → Type 0) → ((v : ℕ) → 1 ≤ v → v ≤ i → P v) → P (suc i) → (v : ℕ) → 1 ≤ v → v ≤ i + 1 → P v
either {i} P old new v h k = split (ℕ_discrete (suc i) v)
  where
    split : Dec (suc i ≡ v) → P v
    split (yes e) = subst P e new
    split (no n) = old v h (omega arith)

module _ {arity : ℕ → ℕ} {c : List ℕ} {i : ℕ} where
  -- the next mark has no larger child
  pub best_same : (best : Option ℕ) → Best arity c i best → FirstOf arity c (suc i) None → Best arity c (i + 1) best
  best_same None b f = λ v p h k g. either (λ w. LargerOf arity c w p → ⊥) (λ w m n. b w p m n) (f p) v h k g
  best_same (Some q) (l, b) f = (l, λ v p h k g. either (λ w. LargerOf arity c w p → q ≤ p) (λ w m n. b w p m n) (λ x. absurd (f p x)) v h k g)

  -- it has one at r
  pub best_lower : (best : Option ℕ) {r : ℕ} → Best arity c i best → FirstOf arity c (suc i) (Some r) → Best arity c (i + 1) (Some (min (unwrap_or best r) r))
  best_lower None {r} b (l, f) =
      let e : r ≡ min r r = sym (min-eq_left (omega arith)) in (
        subst (Larger arity c) e (record { parent = suc i; some = omega arith; child = l }),
        λ v p h k g. either (λ w. LargerOf arity c w p → min r r ≤ p) (λ w m n x. absurd (b w p m n x)) (λ x. omega (arith, e, f p x)) v h k g,
      )
  best_lower (Some q) {r} (l, b) (m, f) = (
    split (dec_lt q r),
    λ v p h k g. either (λ w. LargerOf arity c w p → min q r ≤ p)
        (λ w a o x. omega (arith, min-le_left q r, b w p a o x))
        (λ x. omega (arith, min-le_right q r, f p x)) v h k g,
  )
    where
      split : Dec (q < r) → Larger arity c (min q r)
      split (yes s) = subst (Larger arity c) (sym (min-eq_left (omega arith))) l
      split (no n) = subst (Larger arity c) (sym (min-eq_right (omega arith))) (record { parent = suc i; some = omega arith; child = m })

-- a mark that has children is one of the code's
parent_inside : {arity : ℕ → ℕ} {c : List ℕ} {v p : ℕ} → LargerOf arity c v p → 1 ≤ v → v ≤ length c
unfolding child_codes
parent_inside {arity} {c} {v} g h = split (dec_lt (length c) v)
  where
    split : Dec (length c < v) → v ≤ length c
    split (yes s) =
        let e : length (take (arity (get_or c (v - 1) 0)) (codes arity (drop v c))) ≡ 0 =
        ap (λ (l : List (List ℕ)). length (take (arity (get_or c (v - 1) 0)) l)) (codes_past arity c v (omega arith)) ∙ ap length (take-nil (arity (get_or c (v - 1) 0))) in
        absurd (let z : ⊥ = omega (arith, g.siblings) in z)
    split (no n) = omega arith

module _ {arity : ℕ → ℕ} {c : List ℕ} {i : ℕ} (all : length c ≤ i) where
  -- no place, or the lowest
  pub all_fall : Best arity c i None → Answers (row13 arity c ∷ []) (Ok tt)
  all_fall b = passes (clear_one {r = row13 arity c} (λ p g. b g.parent p g.some (omega (arith, parent_inside g.child g.some)) g.child))

  pub one-rises : {best : ℕ} → Best arity c i (Some best) → Answers (row13 arity c ∷ []) (Err (record { row = 13; place = best }))
  one-rises (l, b) =
      fails
      (first-place {r = row13 arity c} l (λ q h g. let z : ⊥ = omega (arith, b g.parent q g.some (omega (arith, parent_inside g.child g.some)) g.child) in z))
