-- What a reader of digits has found: a code's end, or a refusal by row 10 or 12; and how it comes to it.
--
-- In order: the contract; what a reader knows when it has n digits in its output; one turn; what each way on tells. Assumes nothing.
use Rattle.std.specs.Prelude.{◌≡◌, refl, Result, MatchResult, Ok, Err, Bool, List, [], ◌∷◌, ◌++◌, ℕ, suc, ◌+◌, ◌*◌, ◌≤◌, ◌<◌, length, take, drop, set}
use Rattle.std.proofs.Common.{sym, ap, add-one, le_refl, arith, length-append, length-set, drop_of_length-le, take-suc-set, take-take}
use Rattle.std.specs.declared.ops.ControlFlow.{ControlFlow}
use Rattle.std.specs.ControlFlow.{MatchControlFlow}
use Rattle.refusal.specs.document.Table.{Clear, FirstRefusal}
use Rattle.refusal.specs.Laws.{refusal_front}
use Rattle.refusal.proofs.Laws.{first-place, refusal_back}
use Rattle.refusal.specs.declared.Refusal.{Refusal}
use Rattle.limits.specs.document.Limits.{size}
use Rattle.digit_code.specs.document.Code.{sum, EndsAt, cap, row12}
use Rattle.bits.specs.document.Bits.{whole_digits, row10-bits}
use Rattle.bits.specs.Ends.{Open}
use Rattle.bits.specs.Words.{lead}
use Rattle.bits.specs.Digit.{Near, near_exact}
use Rattle.bits.specs.Steps.{Front, front-none, step-over, step-short, step-on, step_end, last_ends, last_open}

-- the code that the bits begin with ends with its digit n, and out has its digits; 10 does not apply
pub record Ending (R : ℕ) (bs : List Bool) (out : List ℕ) (n : ℕ) : Type 0 where
  pub low : Clear (row10-bits R bs ∷ [])
  pub ends : EndsAt (whole_digits bs) n
  pub same : take n out ≡ take n (whole_digits bs)

-- what was found of the bits, with out what the reader has written: where the code ends, or 10 or 12
abbrev pub Finds : ℕ → List Bool → List ℕ → Result ℕ Refusal → Type 0
Finds R bs out r = MatchResult r (λ n. Ending R bs out n) (λ e. FirstRefusal (row10-bits R bs ∷ row12 (whole_digits bs) ∷ []) e.row e.place)

-- and the output keeps its length
pub record Scanned (R : ℕ) (bs : List Bool) (out : List ℕ) (r : Result ℕ Refusal) : Type 0 where
  pub finds : Finds R bs out r
  pub long : length out ≡ size

-- n digits are read into out, and their code goes on at the bit b
pub record Sofar (R : ℕ) (bs : List Bool) (out : List ℕ) (n b : ℕ) : Type 0 where
  pub front : Front R bs (take n out) b
  pub goes_on : Open (take n out) n
  pub count : length (take n out) ≡ n
  pub long : length out ≡ size

-- ---- one turn

-- a reader of m bits stands before its next digit: two bits at least are read for each of the n before
pub record Stands (m n b : ℕ) (out : List ℕ) : Type 0 where
  pub few : m ≤ 2 * size
  pub within : b < m
  pub twice : 2 * n ≤ b
  pub long : length out ≡ size

-- what a turn came to, with out what is written then: one digit more, and the next begins at the bit e; or what was found
abbrev pub Turns : ℕ → List Bool → List ℕ → ℕ → ℕ → ControlFlow (Result ℕ Refusal) ℕ → Type 0
Turns R bs out n b r = MatchControlFlow r (λ e. (b < e) × Sofar R bs out (n + 1) e) (λ f. Scanned R bs out f)

-- the same of any m bits in which k ones were seen from the bit b on
abbrev pub Turned : ℕ → ℕ → ℕ → ℕ → ℕ → List ℕ → List ℕ → ControlFlow (Result ℕ Refusal) ℕ → Type 0
Turned R m k n b old new r = (bs : List Bool) → length bs ≡ m → Sofar R bs old n b → Near (suc R) k (drop b bs) → Turns R bs new n b r

-- ---- what each way on tells

pub sofar_none : (R : ℕ) (bs : List Bool) (out : List ℕ) → length out ≡ size → Sofar R bs out 0 0
sofar_none R bs out h =
    record { front = front-none R bs; goes_on = record { holds = λ i l. omega arith }; count = refl; long = h }

module _ {R : ℕ} {bs : List Bool} {out : List ℕ} {n b : ℕ} (s : Sofar R bs out n b) where
  open_all : Open (take n out) (length (take n out))
  open_all = rw s.count s.goes_on

  -- two bits at least for each digit
  pub twice : 2 * n ≤ b
  twice = omega (arith, s.front.place, s.count, s.goes_on.holds n (le_refl n), ap (λ (l : List ℕ). sum l) (take_same))
    where
      take_same : take n (take n out) ≡ take n out
      take_same = take-take n n out (le_refl n)

  pub sofar_over : (m k : ℕ) → Near m k (drop b bs) → cap R (n + 1) < k → Scanned R bs out (Err (record { row = 10; place = n + 1 }))
  sofar_over m k h l =
      record {
        finds = refusal_front (row12 (whole_digits bs) ∷ []) (rw s.count at (step-over s.front m k open_all h (rw s.count l)));
        long = s.long;
      }

  pub sofar_short : (m k : ℕ) → R < m → Near m k (drop b bs) → k ≤ cap R (n + 1) → length bs ≤ b + k → Scanned R bs out (Err (record { row = 12; place = n }))
  sofar_short m k r h l g =
      let t = step-short s.front m k r open_all h (rw s.count l) g in
      let a : (row12 (whole_digits bs)).applies n = rw s.count at t.1 in
      record { finds = refusal_back t.0 (first-place a (λ q l b. omega (arith, a.0, b.0))); long = s.long }

  -- behind the last bit there is no run
  pub sofar_out : length bs ≤ b → Scanned R bs out (Err (record { row = 12; place = n }))
  unfolding lead
  sofar_out g =
      let h : Near (R + 1) 0 (drop b bs) = rw (drop_of_length-le bs g) (near_exact (R + 1) refl) in
      sofar_short (R + 1) 0 (omega arith) h (omega arith) (omega arith)

  module _ (m k : ℕ) (r : R < m) (h : Near m k (drop b bs)) (l : k ≤ cap R (n + 1)) (g : b + k < length bs) (w : n < size) where
    written : take (n + 1) (set out n k) ≡ take n out ++ (k ∷ [])
    written = rw (add-one, take-suc-set out n k (omega (arith, s.long)))

    counted : length (take n out ++ (k ∷ [])) ≡ n + 1
    counted = simp length-append (omega (arith, s.count))

    next : Front R bs (take n out ++ (k ∷ [])) (b + (k + 1))
    next = step-on s.front m k r h (rw s.count l) g

    pub sofar_end : b + (k + 1) < 2 * (n + 1) → Scanned R bs (set out n k) (Ok (n + 1))
    sofar_end e =
        let t = step_end next (last_ends k next open_all (rw s.count e)) in
        record {
          finds = record { low = t.0; ends = rw counted at t.1; same = rw written (rw counted at (sym t.2)) };
          long = rw length-set s.long;
        }

    pub sofar_on : 2 * (n + 1) ≤ b + (k + 1) → Sofar R bs (set out n k) (n + 1) (b + (k + 1))
    sofar_on e =
        record {
          front = rw written next;
          goes_on = rw written (rw counted at (last_open k next open_all (rw s.count e)));
          count = rw written counted;
          long = rw length-set s.long;
        }
