-- Rows 11 and 12 by counting the places that are open: a code ends in one place at most, and where it does or does not, which row applies.
-- Assumes nothing.
use Rattle.std.specs.Prelude.{◌≡◌, refl, ◌⊎◌, List, [], ◌∷◌, ◌++◌, ℕ, zero, suc, ◌+◌, ◌-◌, ◌≤◌, ◌<◌, length, get_or, take}
use Rattle.std.proofs.Common.{inl, inr, add-zero, add-one, arith, take-suc}
use Rattle.std.proofs.Math.Decide.{dec_lt, ℕ_discrete}
use Rattle.refusal.specs.document.Table.{Clear, FirstRefusal}
use Rattle.refusal.specs.Laws.{clear_one, clear_both, refusal_front, never, others}
use Rattle.refusal.proofs.Laws.{first-place, refusal_back}
use Rattle.digit_code.specs.document.Code.{sum, EndsAt, row11, row12}

pub sum-append : (x y : List ℕ) → sum (x ++ y) ≡ sum x + sum y
unfolding sum
sum-append [] y = omega arith
sum-append (k ∷ x) y = omega (arith, sum-append x y)

pub sum_more : (c : List ℕ) (i : ℕ) → i < length c → sum (take (i + 1) c) ≡ sum (take i c) + get_or c i 0
unfolding sum
sum_more c i h = rw (add-one, take-suc c i 0, sum-append, add-zero)

-- a code ends in one place
pub one_end : {c : List ℕ} {e f : ℕ} → EndsAt c e → EndsAt c f → e ≡ f
one_end {c} {e} {f} a b =
    let n : e < f → ⊥ = λ l. (let z : ⊥ = omega (arith, a.less, b.not_before e l) in z) in
    let m : f < e → ⊥ = λ l. (let z : ⊥ = omega (arith, b.less, a.not_before f l) in z) in
    omega arith

-- the code has not ended with its first i digits, and so many places are open
pub record Open (c : List ℕ) (places i : ℕ) : Type 0 where
  pub within : i ≤ length c
  pub some : 1 ≤ places
  pub tally : places + i ≡ sum (take i c) + 1
  pub not_yet : (j : ℕ) → j ≤ i → j ≤ sum (take j c)

pub open_first : (c : List ℕ) → Open c 1 0
unfolding sum
open_first c = record { within = omega arith; some = omega arith; tally = refl; not_yet = λ j h. omega arith }

module _ {c : List ℕ} {places i : ℕ} (o : Open c places i) (h : i < length c) where
  -- the next digit fills a place and opens others, some of which are left
  pub open_next : {n : ℕ} → n ≡ places - 1 + get_or c i 0 → (n ≡ 0 → ⊥) → Open c n (i + 1)
  open_next {n} e z =
      let t : n + (i + 1) ≡ sum (take (i + 1) c) + 1 = omega (arith, sum_more c i h, o.tally, o.some) in
      record {
        within = omega arith;
        some = omega arith;
        tally = t;
        not_yet = λ j l. reached j l (dec_lt j (i + 1));
      }
    where
      reached : (j : ℕ) → j ≤ i + 1 → Dec (j < i + 1) → j ≤ sum (take j c)
      reached j l (yes s) = o.not_yet j (omega arith)
      reached j l (no s) =
          let q : j ≡ i + 1 = omega arith in
          rw q (omega (arith, sum_more c i h, o.tally, o.some))

  -- or it fills the last
  pub open_last : places - 1 + get_or c i 0 ≡ 0 → EndsAt c (i + 1)
  open_last z =
      record { within = omega arith; less = omega (arith, sum_more c i h, o.tally, o.some); not_before = λ j l. o.not_yet j (omega arith) }

module _ {c : List ℕ} where
  at-end : (p e : ℕ) → EndsAt c e → EndsAt c (p - 1) → p ≡ e + 1
  at-end p e a b = omega (arith, one_end a b, a.less)

  -- it ends where the digits do: neither row
  pub ends_whole : {e : ℕ} → EndsAt c e → length c ≤ e → Clear (row11 c ∷ row12 c ∷ [])
  ends_whole {e} a l =
      clear_both (clear_one (λ p h. let z : ⊥ = omega (arith, h.0, at-end p e a h.1) in z)) (clear_one (λ p h. h.1 e a))

  -- it ends before
  pub ends_early : {e : ℕ} → EndsAt c e → e < length c → FirstRefusal (row11 c ∷ row12 c ∷ []) 11 (e + 1)
  ends_early {e} a h =
      let n : (e + 1) - 1 ≡ e = omega arith in
      refusal_front (row12 c ∷ []) (first-place {r = row11 c} (omega arith, rw n a) (λ q l k. let z : ⊥ = omega (arith, at-end q e a k.1) in z))

  -- it does not end
  pub ends_not : {places i : ℕ} → Open c places i → length c ≤ i → FirstRefusal (row11 c ∷ row12 c ∷ []) 12 i
  ends_not {i = i} o l =
      refusal_back
      (clear_one {r = row11 c} (λ p h. none (p - 1) h.1))
      (first-place {r = row12 c} (omega (arith, o.within), none) (λ q g k. let z : ⊥ = omega (arith, k.0, o.within) in z))
    where
      none : (e : ℕ) → EndsAt c e → ⊥
      none e a = let z : ⊥ = omega (arith, a.less, o.not_yet e (omega (arith, a.within))) in z

-- a code ends somewhere, or nowhere
pub some_end : (c : List ℕ) → ((e : ℕ) × EndsAt c e) ⊎ ((e : ℕ) → EndsAt c e → ⊥)
some_end c = go (length c) 1 0 (open_first c) (omega arith)
  where
    go : (n places i : ℕ) → Open c places i → i + n ≡ length c → ((e : ℕ) × EndsAt c e) ⊎ ((e : ℕ) → EndsAt c e → ⊥)
    go zero places i o h = inr (λ e a. (let z : ⊥ = omega (arith, a.less, o.not_yet e (omega (arith, a.within))) in z))
    go (suc n) places i o h = turn (ℕ_discrete (places - 1 + get_or c i 0) 0) (λ p q r. go n p (i + 1) q r)
      where
        turn :
            Dec (places - 1 + get_or c i 0 ≡ 0)
            → ((p : ℕ) → Open c p (i + 1) → i + 1 + n ≡ length c → ((e : ℕ) × EndsAt c e) ⊎ ((e : ℕ) → EndsAt c e → ⊥))
            → ((e : ℕ) × EndsAt c e) ⊎ ((e : ℕ) → EndsAt c e → ⊥)
        turn (yes z) on = inl (i + 1, open_last o (omega arith) z)
        turn (no z) on = on (places - 1 + get_or c i 0) (open_next o (omega arith) refl z) (omega arith)

-- where neither row applies, the code ends where the digits do
pub clear_ends : {c : List ℕ} → Clear (row11 c ∷ row12 c ∷ []) → EndsAt c (length c)
clear_ends {c} k = found (some_end c)
  where
    found : ((e : ℕ) × EndsAt c e) ⊎ ((e : ℕ) → EndsAt c e → ⊥) → EndsAt c (length c)
    found (inl (e, a)) =
        let n : (e + 1) - 1 ≡ e = omega arith in
        let l : e + 1 ≤ length c → ⊥ = λ h. never k (e + 1) (h, rw n a) in
        let q : e ≡ length c = omega (arith, a.within) in
        rw q at a
    found (inr no_end) = absurd (never (others k) (length c) (refl, no_end))
