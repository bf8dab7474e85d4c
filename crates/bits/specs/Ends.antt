-- Where a digit code ends, by a part of the digits: digits behind the end do not move it, and digits that end nothing are open.
--
-- That a code ends in one place is in the crate `digit_code`. Assumes nothing.
use Rattle.std.specs.Prelude.{◌≡◌, List, [], ◌∷◌, ◌++◌, ℕ, zero, suc, ◌+◌, ◌≤◌, ◌<◌, length, take, drop}
use Rattle.std.proofs.Math.Decide.{dec_lt}
use Rattle.std.proofs.Common.{le_refl, arith, length-append, take-append-drop, length-take-le}
use Rattle.std.proofs.lemmas.List.{take-append-le}
use Rattle.refusal.specs.document.Table.{Clear}
use Rattle.refusal.specs.Laws.{clear_left, others}
use Rattle.digit_code.specs.document.Code.{plain, sum, EndsAt, row11, row12, row13, digit_rows}
use Rattle.digit_code.specs.Counting.{clear_ends}

-- the first n digits end no code: their sum is never less than the position
pub record Open (c : List ℕ) (n : ℕ) : Type 0 where
  pub holds : (i : ℕ) → i ≤ n → i ≤ sum (take i c)

sum_step : (i : ℕ) (c : List ℕ) → sum (take i c) ≤ sum (take (suc i) c)
unfolding sum
sum_step zero c = omega arith
sum_step (suc i) [] = omega arith
sum_step (suc i) (k ∷ c) = omega (arith, sum_step i c)

-- where a code ends, its digits add up to one less than their number
pub end-sum : (c : List ℕ) (e : ℕ) → EndsAt c e → sum (take e c) + 1 ≡ e
end-sum c zero h = omega (arith, h.less)
end-sum c (suc i) h = omega (arith, h.less, h.not_before i (le_refl _), sum_step i c)

-- digits behind the end do not move it
pub ends_more : {c : List ℕ} {e : ℕ} (ds : List ℕ) → EndsAt c e → EndsAt (c ++ ds) e
ends_more {c} {e} ds h =
    record {
      within = simp length-append (omega (arith, h.within));
      less = rw (take-append-le e c ds h.within) h.less;
      not_before = λ i l. let j : i ≤ length c = omega (arith, h.within) in rw (take-append-le i c ds j) (h.not_before i l);
    }

ends_part : (c ds : List ℕ) {e : ℕ} → e ≤ length c → EndsAt (c ++ ds) e → EndsAt c e
ends_part c ds {e} w h =
    record {
      within = w;
      less = rw take-append-le at h.less;
      not_before = λ i l. let j : i ≤ length c = omega arith in rw (take-append-le i c ds j) at (h.not_before i l);
    }

-- the digits up to the end
pub first-end : {c : List ℕ} {e : ℕ} → EndsAt c e → EndsAt (take e c) (length (take e c))
first-end {c} {e} h =
    let n : length (take e c) ≡ e = length-take-le e c h.within in
    rw n (ends_part (take e c) (drop e c) (rw n (le_refl e)) (rw take-append-drop h))

-- digits that are open have no end among them
pub open_none : {c : List ℕ} {n : ℕ} → Open c n → (e : ℕ) → EndsAt c e → n < e
open_none {c} {n} o e h = go (dec_lt n e)
  where
    go : Dec (n < e) → n < e
    go (yes l) = l
    go (no l) = omega (arith, o.holds e (omega arith), h.less)

-- a right digit code ends with its last digit
pub right_ends : {R : ℕ} (c : List ℕ) → Clear (digit_rows R c) → EndsAt c (length c)
right_ends c r = clear_ends (clear_left (row11 c ∷ row12 c ∷ []) (row13 plain c ∷ []) (others r))
