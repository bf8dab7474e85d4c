-- An accepted input carries a right digit code, and no other input does; what is refused of the bits is what is refused of the digits
-- and of what follows them. For every form: May says what may follow.
--
-- In order: the rows of bits that carry a code; both ways between a clear table and a reading; one code.
-- Assumes nothing.
use Rattle.std.specs.Prelude.{◌≡◌, refl, ◌⊎◌, Bool, List, [], ◌∷◌, ◌++◌, ℕ, suc, ◌+◌, ◌-◌, ◌≤◌, ◌<◌, length, take}
use Rattle.std.proofs.Common.{sym, ◌∙◌, inl, inr, arith, length-append}
use Rattle.std.proofs.Math.ListN.{get_or-append}
use Rattle.refusal.specs.document.Table.{Clear, FirstRefusal}
use Rattle.refusal.specs.Laws.{clear_one, refusal_front, Alike, alike_clear}
use Rattle.refusal.proofs.Laws.{first-place, refusal_back}
use Rattle.digit_code.specs.document.Code.{EndsAt, plain, Larger, digit, row12, digit_rows}
use Rattle.digit_code.specs.document.Code as code
use Rattle.digit_code.specs.Counting.{one_end, some_end}
use Rattle.bits.specs.document.Bits.{bits, whole_digits, runs, after, row10-bits, row11-bits, row13-bits, end_rows, bit_rows, Carries, Reads}
use Rattle.bits.specs.Ends.{first-end, right_ends}
use Rattle.bits.specs.Laws.{read-bits, after-end, after-code, code_ends, code_read, one_code}

-- the bits of a code that ends, and anything behind them
module _ (c : List ℕ) (fs : List Bool) (h : EndsAt c (length c)) where
  end_is : (e : ℕ) → EndsAt (whole_digits (bits c ++ fs)) e → e ≡ length c
  end_is e w = one_end w (code_ends fs h)

  digit_is : (p : ℕ) → 1 ≤ p → p ≤ length c → digit (runs (bits c ++ fs)) p ≡ digit c p
  digit_is p l g =
      let k : p - 1 < length (whole_digits (bits c ++ fs)) = rw read-bits (simp length-append (omega arith)) in
      get_or-append (whole_digits (bits c ++ fs)) _ 0 (p - 1) k ∙ rw read-bits (get_or-append c (whole_digits fs) 0 (p - 1) (omega arith))

  ten_digits : (R p : ℕ) → (row10-bits R (bits c ++ fs)).applies p → (code.row10 R c).applies p
  ten_digits R p a =
      let g : p ≤ length c = a.2 (length c) (code_ends fs h) in
      (a.0, g, rw (digit_is p a.0 g) at a.3)

  ten_bits : (R p : ℕ) → (code.row10 R c).applies p → (row10-bits R (bits c ++ fs)).applies p
  ten_bits R p a =
      let n : p ≤ length (runs (bits c ++ fs)) = simp length-append (rw read-bits (simp length-append (omega (arith, a.1)))) in
      (a.0, n, (λ e w. rw (end_is e w) a.1), rw (digit_is p a.0 a.1) a.2)

  thirteen_digits : (p : ℕ) → (row13-bits (bits c ++ fs)).applies p → Larger plain c p
  thirteen_digits p a =
      let z : take a.0 (whole_digits (bits c ++ fs)) ≡ c = rw (end_is a.0 a.1) (code_read c fs) in
      rw z at a.2

  thirteen_bits : (p : ℕ) → Larger plain c p → (row13-bits (bits c ++ fs)).applies p
  thirteen_bits p a = (length c, code_ends fs h, rw code_read a)

  never_eleven : (p : ℕ) → (code.row11 c).applies p → ⊥
  never_eleven p a = go p a.0 a.1
    where
      go : (q : ℕ) → q ≤ length c → EndsAt c (q - 1) → ⊥
      go q l w = let z : q - 1 ≡ length c = one_end w h in omega (arith, w.less)

  never_twelve : (p : ℕ) → (row12 c).applies p → ⊥
  never_twelve p a = a.1 (length c) h

  never_cut : (p : ℕ) → (row12 (whole_digits (bits c ++ fs))).applies p → ⊥
  never_cut p a = a.1 (length c) (code_ends fs h)

  -- where what follows may follow, no more follows
  never_more : (May : List Bool → Type 0) → May fs → (p : ℕ) → (row11-bits May (bits c ++ fs)).applies p → ⊥
  never_more May m p a = a.1 (rw (end_is (p - 1) a.0, after-code c fs h) m)

  -- the bits are refused as the digits are
  rows_alike : (R : ℕ) (May : List Bool → Type 0) → May fs → Alike (digit_rows R c) (bit_rows R May (bits c ++ fs))
  rows_alike R May m =
      record {
        rows = (
          refl,
          (λ p. (ten_bits R p, ten_digits R p)),
          (
            refl,
            (λ p. ((λ a. absurd (never_eleven p a)), (λ a. absurd (never_more May m p a)))),
            (
              refl,
              (λ p. ((λ a. absurd (never_twelve p a)), (λ a. absurd (never_cut p a)))),
              (refl, (λ p. (thirteen_bits p, thirteen_digits p)), tt),
            ),
          ),
        );
      }

  -- 13 of the bits is 13 of the digits
  pub siblings-alike : Alike (code.row13 plain c ∷ []) (row13-bits (bits c ++ fs) ∷ [])
  siblings-alike = record { rows = (refl, (λ p. (thirteen_bits p, thirteen_digits p)), tt) }

-- where more follows the end than may, and no digit is above its cap, 11 is given at the next digit's number
pub end_refused :
    (R : ℕ) (May : List Bool → Type 0) (bs : List Bool) {n : ℕ} → Clear (row10-bits R bs ∷ []) → EndsAt (whole_digits bs) n → (May (after bs n) → ⊥)
    → FirstRefusal (end_rows R May bs) 11 (n + 1)
end_refused R May bs {n} c w m =
    let z : n + 1 - 1 ≡ n = omega arith in
    refusal_front (row12 (whole_digits bs) ∷ [])
    (refusal_back c (first-place {r = row11-bits May bs} {p = n + 1} (rw z w, rw z m) (λ q l a. omega (arith, one_end a.0 w, w.less))))

-- up to its end, what is read is carried, and what follows it may follow
pub carries_end : {May : List Bool → Type 0} {bs : List Bool} {e : ℕ} → EndsAt (whole_digits bs) e → May (after bs e) → Carries May bs (take e (whole_digits bs))
carries_end {bs = bs} {e} w m = record { fill = after bs e; same = after-end w; may = m }

-- what carries a code that ends is refused as the code is
pub carried-alike
    : {May : List Bool → Type 0} {bs : List Bool} {c : List ℕ} (R : ℕ) → Carries May bs c → EndsAt c (length c)
    → Alike (digit_rows R c) (bit_rows R May bs)
carried-alike {May} {bs} {c} R k h = rw k.same (rows_alike c k.fill h R May k.may)

-- what carries a right code is clear
pub reading_clear : {R : ℕ} {May : List Bool → Type 0} {bs : List Bool} {c : List ℕ} → Reads R May bs c → Clear (bit_rows R May bs)
reading_clear {R} {c = c} r = (alike_clear (carried-alike R r.carries (right_ends c r.right))).0 r.right

-- and what is clear carries one
pub clear-reading
    : {R : ℕ} {May : List Bool → Type 0} → ((fs : List Bool) → Dec (May fs)) → (bs : List Bool) → Clear (bit_rows R May bs)
    → (c : List ℕ) × Reads R May bs c
clear-reading {R} {May} dec bs t = go (some_end (whole_digits bs))
  where
    may : (e : ℕ) → EndsAt (whole_digits bs) e → Dec (May (after bs e)) → (c : List ℕ) × Reads R May bs c
    may e w (yes m) =
        let k = carries_end w m in
        (take e (whole_digits bs), record { carries = k; right = (alike_clear (carried-alike R k (first-end w))).1 t })
    may e w (no m) =
        let z : suc e - 1 ≡ e = omega arith in
        absurd (t.nowhere 11 (suc e) (inr (inl (refl, (rw z w, rw z m)))))

    go : ((e : ℕ) × EndsAt (whole_digits bs) e) ⊎ ((e : ℕ) → EndsAt (whole_digits bs) e → ⊥) → (c : List ℕ) × Reads R May bs c
    go (inl a) = may a.0 a.1 (dec (after bs a.0))
    go (inr none) = absurd (t.nowhere 12 (length (whole_digits bs)) (inr (inr (inl (refl, (refl, none))))))

-- the bits carry one right code, whatever may follow
pub one_reading : {R : ℕ} {May : List Bool → Type 0} {bs : List Bool} {c d : List ℕ} → Reads R May bs c → Reads R May bs d → c ≡ d
one_reading {c = c} {d} r q =
    let a = r.carries in
    let b = q.carries in
    one_code c d a.fill b.fill (right_ends c r.right) (right_ends d q.right) (sym a.same ∙ b.same)

-- bits that begin with a code whose digits are within their caps, and go on as May does not allow, are refused 11 behind it
pub more-refused :
    (R : ℕ) (May : List Bool → Type 0) (c : List ℕ) (fs : List Bool) → EndsAt c (length c) → ((p : ℕ) → (code.row10 R c).applies p → ⊥)
    → (May fs → ⊥) → FirstRefusal (bit_rows R May (bits c ++ fs)) 11 (length c + 1)
more-refused R May c fs h s m =
    refusal_front (row13-bits (bits c ++ fs) ∷ [])
    (end_refused R May (bits c ++ fs) (clear_one (λ p a. s p (ten_digits c fs h R p a))) (code_ends fs h) (rw (after-code c fs h) m))
