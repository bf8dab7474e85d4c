-- A reader's steps over bits, whatever carries them: what it knows when it has read some digits, and what each way on tells.
--
-- In order: the run at a place of the bits; what is known of the digits read; the next digit is above its cap; the bits give out;
-- one digit more; the code ends. Assumes nothing.
use Rattle.std.specs.Prelude.{◌≡◌, refl, Bool, true, false, List, [], ◌∷◌, ◌++◌, ℕ, zero, suc, ◌+◌, ◌-◌, ◌*◌, ◌≤◌, ◌<◌, length, take, drop, get_or, replicate}
use Rattle.std.proofs.Common.{sym, ap, ◌∙◌, append_assoc, append-nil, zero-add, add-zero, suc-add, add-suc, le_refl, add-one, arith, length-append, length-drop, get_or-append-add, drop-drop}
use Rattle.std.proofs.Math.Decide.{dec_le}
use Rattle.std.proofs.Math.ListN.{get_or-append}
use Rattle.std.proofs.Math.Seq.{get_or-append_seam, take-append_seam, take-length}
use Rattle.std.proofs.lemmas.List.{take-append-le}
use Rattle.refusal.specs.document.Table.{Clear, FirstRefusal}
use Rattle.refusal.specs.Laws.{clear_one}
use Rattle.refusal.proofs.Laws.{first-place}
use Rattle.digit_code.specs.document.Code.{sum, EndsAt, digit, cap, row12}
use Rattle.digit_code.specs.Counting.{sum-append}
use Rattle.bits.specs.document.Bits.{bits, digits_from, cut_from, whole_digits, runs, row10-bits}
use Rattle.bits.specs.Ends.{Open, ends_more, open_none}
use Rattle.bits.specs.Laws.{no_digit, read-bits, cut_bits, bits-append}
use Rattle.bits.specs.Words.{lead}
use Rattle.bits.specs.Digit.{Near}

-- a run that a zero ends
run_zero : (bs : List Bool) → lead bs < length bs → bs ≡ replicate (lead bs) true ++ (false ∷ drop (suc (lead bs)) bs)
unfolding lead
run_zero [] h = absurd (omega arith)
run_zero (true ∷ bs) h = ap {B = List Bool} (λ l. true ∷ l) (run_zero bs (omega arith))
run_zero (false ∷ bs) h = refl

-- a run that the end of the bits ends
run-all : (bs : List Bool) → length bs ≤ lead bs → bs ≡ replicate (lead bs) true
unfolding lead
run-all [] h = refl
run-all (true ∷ bs) h = ap {B = List Bool} (λ l. true ∷ l) (run-all bs (omega arith))
run-all (false ∷ bs) h = absurd (omega arith)

first_run : (n : ℕ) (bs : List Bool) → get_or (digits_from n bs ++ (cut_from n bs ∷ [])) 0 0 ≡ n + lead bs
unfolding lead digits_from cut_from
first_run n [] = sym (add-zero n)
first_run n (true ∷ bs) = first_run (suc n) bs ∙ rw (suc-add, add-suc)
first_run n (false ∷ bs) = sym (add-zero n)

pub cap_le : (R p : ℕ) → cap R p ≤ R
cap_le R zero = le_refl R
cap_le R (suc zero) = le_refl R
cap_le R (suc (suc p)) = omega arith

-- the digits ds are read, each within its cap, and b is the place behind their bits
pub record Front (R : ℕ) (bs : List Bool) (ds : List ℕ) (b : ℕ) : Type 0 where
  pub same : bs ≡ bits ds ++ drop b bs
  pub place : b ≡ length ds + sum ds
  pub small : (p : ℕ) → 1 ≤ p → p ≤ length ds → digit ds p ≤ cap R p

pub front-none : (R : ℕ) (bs : List Bool) → Front R bs [] 0
unfolding bits sum
front-none R bs = record { same = refl; place = refl; small = λ p l h. absurd (omega arith) }

-- one digit more in front of what follows
bits-more : (ds : List ℕ) (k : ℕ) (fs : List Bool) → bits (ds ++ (k ∷ [])) ++ fs ≡ bits ds ++ (replicate k true ++ (false ∷ fs))
unfolding bits
bits-more ds k fs = rw (bits-append ds (k ∷ []), append_assoc, append_assoc)

place-more : (ds : List ℕ) (k : ℕ) → length (ds ++ (k ∷ [])) + sum (ds ++ (k ∷ [])) ≡ length ds + sum ds + (k + 1)
unfolding sum
place-more ds k = simp (length-append, sum-append) (omega arith)

small-more
    : (R k : ℕ) (ds : List ℕ) → ((p : ℕ) → 1 ≤ p → p ≤ length ds → digit ds p ≤ cap R p) → k ≤ cap R (length ds + 1)
    → (p : ℕ) → 1 ≤ p → p ≤ length (ds ++ (k ∷ [])) → digit (ds ++ (k ∷ [])) p ≤ cap R p
small-more R k ds f l p o h = go (dec_le p (length ds))
  where
    go : Dec (p ≤ length ds) → digit (ds ++ (k ∷ [])) p ≤ cap R p
    go (yes g) = rw (get_or-append ds (k ∷ []) 0 (p - 1) (omega arith)) (f p o g)
    go (no g) =
        let z : p ≡ length ds + 1 = omega (arith, simp length-append at h) in
        let y : length ds + 1 - 1 ≡ length ds = omega arith in
        rw (z, y, get_or-append_seam) l

module _ {R : ℕ} {bs : List Bool} {ds : List ℕ} {b : ℕ} (f : Front R bs ds b) where
  whole_is : whole_digits bs ≡ ds ++ whole_digits (drop b bs)
  whole_is = ap whole_digits f.same ∙ read-bits ds (drop b bs)

  runs_is : runs bs ≡ ds ++ runs (drop b bs)
  runs_is = rw (whole_is, append_assoc) (ap (λ (n : ℕ). ds ++ (whole_digits (drop b bs) ++ (n ∷ []))) (ap (cut_from 0) f.same ∙ cut_bits ds (drop b bs)))

  -- the digits read, and the run behind them, among the runs
  digit-read : (p : ℕ) → 1 ≤ p → p ≤ length ds → digit (runs bs) p ≡ digit ds p
  digit-read p l h = rw runs_is (get_or-append ds (runs (drop b bs)) 0 (p - 1) (omega arith))

  digit-next : digit (runs bs) (length ds + 1) ≡ lead (drop b bs)
  digit-next =
      let z : length ds + 1 - 1 ≡ length ds + 0 = omega arith in
      rw (runs_is, z, get_or-append-add ds (runs (drop b bs)) 0 0, first_run 0 (drop b bs), zero-add)

  -- 10 applies at no digit read
  read_small : (p : ℕ) → (row10-bits R bs).applies p → length ds < p
  read_small p a = go (dec_le p (length ds))
    where
      go : Dec (p ≤ length ds) → length ds < p
      go (yes l) = omega (arith, f.small p a.0 l, a.3, digit-read p a.0 l)
      go (no l) = omega arith

  open_whole : Open ds (length ds) → Open (whole_digits bs) (length ds)
  open_whole o =
      record
      { holds = λ i l. rw (whole_is, take-append-le i ds (whole_digits (drop b bs)) l) (o.holds i l) }

  next_within : length ds + 1 ≤ length (runs bs)
  next_within = rw (runs_is) (simp length-append (omega arith))

  -- the next digit is above its cap
  pub step-over
      : (m k : ℕ) → Open ds (length ds) → Near m k (drop b bs) → cap R (length ds + 1) < k → FirstRefusal (row10-bits R bs ∷ []) 10 (length ds + 1)
  step-over m k o n l =
      first-place
      (omega arith, next_within, (λ e h. omega (arith, open_none (open_whole o) e h)), rw digit-next (omega (arith, n.low)))
      (λ q h a. omega (arith, read_small q a))

  -- 10 applies nowhere, where it could apply to no digit behind the next and the next is within its cap
  next_small
      : ((q : ℕ) → (row10-bits R bs).applies q → q ≤ length ds + 1) → lead (drop b bs) ≤ cap R (length ds + 1) → Clear (row10-bits R bs ∷ [])
  next_small u l =
      clear_one (λ q a.
      let z : q ≡ length ds + 1 = omega (arith, read_small q a, u q a) in
      let d : cap R (length ds + 1) < digit (runs bs) (length ds + 1) = rw z at a.3 in
      omega (arith, digit-next))

  -- the run that is next is not above its cap, so it is counted to its end
  next_is : (m k : ℕ) → R < m → Near m k (drop b bs) → k ≤ cap R (length ds + 1) → k ≡ lead (drop b bs)
  next_is m k r n l = n.exact (omega (arith, cap_le R (length ds + 1)))

  -- the bits give out
  pub step-short
      : (m k : ℕ) → R < m → Open ds (length ds) → Near m k (drop b bs) → k ≤ cap R (length ds + 1) → length bs ≤ b + k
      → Clear (row10-bits R bs ∷ []) × (row12 (whole_digits bs)).applies (length ds)
  step-short m k r o n l g =
      let z = next_is m k r n l in
      let t : drop b bs ≡ replicate k true = rw z (run-all (drop b bs) (rw length-drop (omega arith))) in
      let w : whole_digits bs ≡ ds = whole_is ∙ rw (t, no_digit 0 k, append-nil) in
      let c : length (runs bs) ≡ length ds + 1 = rw w (simp length-append) in (
        next_small (λ q a. omega (arith, a.1, c)) (rw z at l),
        (rw w, λ e h. omega (arith, open_none (open_whole o) e h, ap length w, h.within)),
      )

  -- one digit more
  pub step-on
      : (m k : ℕ) → R < m → Near m k (drop b bs) → k ≤ cap R (length ds + 1) → b + k < length bs → Front R bs (ds ++ (k ∷ [])) (b + (k + 1))
  step-on m k r n l g =
      let z = next_is m k r n l in
      let h : lead (drop b bs) < length (drop b bs) = rw (← z, length-drop) (omega arith) in
      let t : drop b bs ≡ replicate k true ++ (false ∷ drop (b + (k + 1)) bs) =
      rw (z, add-one, ← drop-drop (suc (lead (drop b bs))) b bs) (run_zero (drop b bs) h) in
      record {
        same = f.same ∙ ap (λ l. bits ds ++ l) t ∙ sym (bits-more ds k (drop (b + (k + 1)) bs));
        place = rw f.place (sym (place-more ds k));
        small = small-more R k ds f.small l;
      }

  -- the code ends
  pub step_end : EndsAt ds (length ds) → Clear (row10-bits R bs ∷ []) × EndsAt (whole_digits bs) (length ds) × (take (length ds) (whole_digits bs) ≡ ds)
  step_end h =
      let w : EndsAt (whole_digits bs) (length ds) = rw whole_is (ends_more (whole_digits (drop b bs)) h) in (
        clear_one (λ q a. omega (arith, read_small q a, a.2 (length ds) w)),
        w,
        rw (whole_is, take-append_seam),
      )

module _ {R : ℕ} {bs : List Bool} {ds : List ℕ} {b : ℕ} (k : ℕ) (f : Front R bs (ds ++ (k ∷ [])) b) (o : Open ds (length ds)) where
  sum-read : b ≡ length ds + 1 + sum (ds ++ (k ∷ []))
  sum-read = f.place ∙ simp length-append

  before_last : (i : ℕ) → i ≤ length ds → i ≤ sum (take i (ds ++ (k ∷ [])))
  before_last i l = rw (take-append-le i ds (k ∷ []) l) (o.holds i l)

  -- the sum is less than the position
  pub last_ends : b < 2 * (length ds + 1) → EndsAt (ds ++ (k ∷ [])) (length (ds ++ (k ∷ [])))
  last_ends l =
      record {
        within = le_refl _;
        less = rw take-length (simp length-append (omega (arith, sum-read)));
        not_before = λ i h. before_last i (omega (arith, simp length-append at h));
      }

  -- it is not
  pub last_open : 2 * (length ds + 1) ≤ b → Open (ds ++ (k ∷ [])) (length (ds ++ (k ∷ [])))
  last_open l = record { holds = λ i h. go i h (dec_le i (length ds)) }
    where
      go : (i : ℕ) → i ≤ length (ds ++ (k ∷ [])) → Dec (i ≤ length ds) → i ≤ sum (take i (ds ++ (k ∷ [])))
      go i h (yes g) = before_last i g
      go i h (no g) =
          let z : i ≡ length (ds ++ (k ∷ [])) = simp length-append (omega (arith, simp length-append at h)) in
          rw (z, take-length) (simp length-append (omega (arith, sum-read)))
