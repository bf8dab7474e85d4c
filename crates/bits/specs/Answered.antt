-- What a reader of one form answers, rows 10 to 12: from what was found of the digits, and from what follows the code's end.
--
-- In order: the contract; what was found, as a caller learns it; the three answers. How the code tests what follows is in `Follow`.
-- Row 13 is judged of the digits that were read: `answer-digits`. Assumes nothing.
use Rattle.std.specs.Prelude.{◌≡◌, refl, Bool, List, [], ◌∷◌, ℕ, ◌+◌, ◌-◌, ◌*◌, ◌≤◌, length, take, Ok, Err, Result}
use Rattle.refusal.specs.declared.Refusal.{Refusal}
use Rattle.std.proofs.Common.{ap, ⊎_elim, arith, length-append, length-take, length-take-le}
use Rattle.refusal.specs.document.Table.{Clear, FirstRefusal}
use Rattle.refusal.specs.Checks.{Check, Answers, passes}
use Rattle.refusal.specs.Laws.{applied, clear_one, clear_both, refusal_front}
use Rattle.refusal.proofs.Laws.{refusal_back, refusal_either, goes_on, alike-answers}
use Rattle.limits.specs.document.Limits.{size}
use Rattle.digit_code.specs.document.Code.{EndsAt, row12, digit_rows}
use Rattle.digit_code.specs.document.Code as code
use Rattle.digit_code.specs.Counting.{one_end}
use Rattle.bits.specs.document.Bits.{whole_digits, after, row10-bits, row11-bits, end_rows, bit_rows, Carries}
use Rattle.bits.specs.Ends.{end-sum, first-end}
use Rattle.bits.specs.Laws.{length_bits, after-end}
use Rattle.bits.specs.Found.{Scanned}
use Rattle.bits.specs.Reading.{end_refused, carries_end, carried-alike, siblings-alike}

-- the n digits in out end a code, the bits carry it, and none of rows 10 to 12 applies
pub record Accepted (R : ℕ) (May : List Bool → Type 0) (bs : List Bool) (out : List ℕ) (n : ℕ) : Type 0 where
  pub clear : Clear (end_rows R May bs)
  pub carries : Carries May bs (take n out)
  pub ends : EndsAt (take n out) (length (take n out))
  pub count : length (take n out) ≡ n
  pub room : n ≤ length out

-- the answer, with out what the reader has written
pub data Judged (R : ℕ) (May : List Bool → Type 0) (bs : List Bool) (out : List ℕ) : Result ℕ Refusal → Type 0 where
  accepted : {n : ℕ} → Accepted R May bs out n → Judged R May bs out (Ok n)
  refused : {r : Refusal} → FirstRefusal (end_rows R May bs) r.row r.place → Judged R May bs out (Err r)

-- and the output keeps its length
pub record Reading (R : ℕ) (May : List Bool → Type 0) (bs : List Bool) (out : List ℕ) (r : Result ℕ Refusal) : Type 0 where
  pub answer : Judged R May bs out r
  pub long : length out ≡ size

-- what is then refused of the digits is what is refused of the bits
pub answer-digits
    : {R n : ℕ} {May : List Bool → Type 0} {bs : List Bool} {out : List ℕ} {a : Check} → Accepted R May bs out n
    → Answers (digit_rows R (take n out)) a → Answers (bit_rows R May bs) a
answer-digits {R} t h = alike-answers (carried-alike R t.carries t.ends) h

-- and where only the order of siblings is still to be judged, what is refused of that
pub answer-ordered
    : {R n : ℕ} {May : List Bool → Type 0} {bs : List Bool} {out : List ℕ} {a : Check} → Accepted R May bs out n
    → Answers (code.row13 code.plain (take n out) ∷ []) a → Answers (bit_rows R May bs) a
answer-ordered {n = n} {out = out} t h =
    let k = t.carries in
    goes_on (passes t.clear) refl (rw k.same (alike-answers (siblings-alike (take n out) k.fill t.ends) h))

-- ---- what was found, as a caller learns it

-- a code that ends has a digit, and its bits are among the len that there are
pub record Within (n len : ℕ) : Type 0 where
  pub some : 1 ≤ n
  pub long : 2 * n ≤ len + 1

pub end_within : {R n m : ℕ} {bs : List Bool} {out : List ℕ} → length bs ≡ m → Scanned R bs out (Ok n) → Within n m
end_within {n = n} {bs = bs} e s =
    let w = s.finds.ends in
    let l = simp (length-append, length_bits) at (ap length (after-end w)) in
    omega (arith, e, l, w.less, end-sum (whole_digits bs) n w, length-take-le n (whole_digits bs) w.within)

-- ---- the three answers

-- 11 applies to no bits that 12 applies to
never_more : (May : List Bool → Type 0) (bs : List Bool) {k p : ℕ} → FirstRefusal (row12 (whole_digits bs) ∷ []) k p → Clear (row11-bits May bs ∷ [])
never_more May bs l = ⊎_elim (λ a. clear_one (λ p h. a.1.1 (p - 1) h.0)) (λ z. absurd z) (applied l)

-- no end was found
pub answer-refused : {R : ℕ} (May : List Bool → Type 0) {bs : List Bool} {out : List ℕ} {r : Refusal} → Scanned R bs out (Err r) → Reading R May bs out (Err r)
answer-refused {R} May {bs} s =
    let ten = row10-bits R bs ∷ [] in
    let rest = row12 (whole_digits bs) ∷ [] in
    record {
      answer =
          refused
          (⊎_elim (λ a. refusal_front (row11-bits May bs ∷ rest) a) (λ b. refusal_back (clear_both b.0 (never_more May bs b.1)) b.1)
          (refusal_either ten rest s.finds));
      long = s.long;
    }

module _ {R n : ℕ} (May : List Bool → Type 0) {bs : List Bool} {out : List ℕ} (s : Scanned R bs out (Ok n)) where
  eleven : (p : ℕ) → (row11-bits May bs).applies p → p ≡ n + 1
  eleven p a = let z : p - 1 ≡ n = one_end a.0 s.finds.ends in omega (arith, s.finds.ends.less)

  -- more follows than may
  pub answer-more : (May (after bs n) → ⊥) → Reading R May bs out (Err (record { row = 11; place = (n + 1) }))
  answer-more m = record { answer = refused (end_refused R May bs s.finds.low s.finds.ends m); long = s.long }

  -- what follows may follow
  pub answer-read : May (after bs n) → Reading R May bs out (Ok n)
  answer-read m =
      let t = s.finds in
      let z : n + 1 - 1 ≡ n = omega arith in
      let count : length (take n out) ≡ n = rw t.same (length-take-le n (whole_digits bs) t.ends.within) in
      let more : Clear (row11-bits May bs ∷ []) = clear_one (λ p a. rw (eleven p a, z) at a.1 m) in
      let cut : Clear (row12 (whole_digits bs) ∷ []) = clear_one (λ p a. a.1 n t.ends) in
      record {
        answer =
            accepted {n = n}
            (record {
              clear = clear_both t.low (clear_both more cut);
              carries = rw t.same (carries_end t.ends m);
              ends = rw t.same (first-end t.ends);
              count = count;
              room = omega (arith, length-take n out);
            });
        long = s.long;
      }
