-- What a form gives once all its rows are judged: a right digit code, or the table's refusal.
--
-- In order: the contracts; the order of siblings behind rows 10 to 12; the rows that stand before them. Assumes nothing.
use Rattle.std.specs.Prelude.{◌≡◌, refl, Bool, List, [], ◌∷◌, ◌++◌, ℕ, ◌≤◌, length, take, Ok, Err, Result}
use Rattle.refusal.specs.declared.Refusal.{Refusal}
use Rattle.std.proofs.Common.{arith}
use Rattle.refusal.specs.document.Table.{Row, Clear, FirstRefusal, row3}
use Rattle.refusal.specs.Checks.{passes, fails}
use Rattle.refusal.specs.Laws.{clear_both, size_clear, refusal_front, was_clear, was_refused, alike_clear}
use Rattle.refusal.proofs.Laws.{refusal_back}
use Rattle.limits.specs.document.Limits.{size}
use Rattle.digit_code.specs.document.Code.{plain, code_rows, row13}
use Rattle.digit_code.specs.Ends.{Ends, ends_iff}
use Rattle.bits.specs.document.Bits.{bit_rows, Reads}
use Rattle.bits.specs.document.Bits as bits
use Rattle.bits.specs.Reading.{carried-alike}
use Rattle.bits.specs.Answered.{Accepted, Judged, accepted, refused, Reading, answer-ordered}

-- the n digits in out are a right code, and the bits carry it
pub record Right (R : ℕ) (May : List Bool → Type 0) (bs : List Bool) (out : List ℕ) (n : ℕ) : Type 0 where
  pub reads : Reads R May bs (take n out)
  pub clear : Clear (code_rows size R (take n out))
  pub count : length (take n out) ≡ n
  pub some : 1 ≤ n
  pub most : n ≤ size

-- the answer of a table, with out what the reader has written
pub data Decided (rs : List Row) (R : ℕ) (May : List Bool → Type 0) (bs : List Bool) (out : List ℕ) : Result ℕ Refusal → Type 0 where
  gives : {n : ℕ} → Clear rs → Right R May bs out n → Decided rs R May bs out (Ok n)
  refuses : {r : Refusal} → FirstRefusal rs r.row r.place → Decided rs R May bs out (Err r)

-- and the output keeps its length
pub record Decision (rs : List Row) (R : ℕ) (May : List Bool → Type 0) (bs : List Bool) (out : List ℕ) (r : Result ℕ Refusal) : Type 0 where
  pub answer : Decided rs R May bs out r
  pub long : length out ≡ size

-- what was read ends a code, if it was not refused
abbrev pub Ended : List ℕ → Result ℕ Refusal → Type 0
Ended out (Ok n) = Ends 1 (take n out) × (n ≤ size)
Ended out (Err e) = Unit {0}

-- what the order of siblings in the code c of n digits answers
pub data Falling (c : List ℕ) (n : ℕ) : Result ℕ Refusal → Type 0 where
  falling : Clear (row13 plain c ∷ []) → Falling c n (Ok n)
  larger : {r : Refusal} → FirstRefusal (row13 plain c ∷ []) r.row r.place → Falling c n (Err r)

-- and what it makes of the answer before it: a refusal stays
abbrev pub Ordered : List ℕ → Result ℕ Refusal → Result ℕ Refusal → Type 0
Ordered out (Ok n) r = Falling (take n out) n r
Ordered out (Err e) r = r ≡ Err e

-- what the check of siblings requires
judged-ended : {R : ℕ} {May : List Bool → Type 0} {bs : List Bool} {out : List ℕ} {r : Result ℕ Refusal} → Judged R May bs out r → length out ≡ size → Ended out r
judged-ended {out = out} (accepted {n} t) l = ((ends_iff (take n out)).1 t.ends, omega (arith, t.room))
judged-ended (refused l) h = tt

pub reading_ended : {R : ℕ} {May : List Bool → Type 0} {bs : List Bool} {out : List ℕ} {r : Result ℕ Refusal} → Reading R May bs out r → Ended out r
reading_ended s = judged-ended s.answer s.long

-- ---- the whole table

-- the rows fs stand before the bits' own, and are clear
module _ {R : ℕ} {May : List Bool → Type 0} {bs : List Bool} {out : List ℕ} {fs : List Row} (f : Clear fs) where
  decided : {n : ℕ} {a : Result ℕ Refusal} → Accepted R May bs out n → n ≤ size → Falling (take n out) n a → Decided (fs ++ bit_rows R May bs) R May bs out a
  decided {n} t m (falling c) =
      let all = was_clear (answer-ordered t (passes c)) refl in
      let right = (alike_clear (carried-alike R t.carries t.ends)).1 all in
      let some : 1 ≤ n = omega (arith, t.ends.less, t.count) in
      gives (clear_both f all)
      (record {
        reads = record { carries = t.carries; right = right };
        clear = clear_both {xs = row3 size (length (take n out)) ∷ []} (rw t.count (size_clear some m)) right;
        count = t.count;
        some = some;
        most = m;
      })
  decided t m (larger l) = refuses (refusal_back f (was_refused (answer-ordered t (fails l)) refl))

  judged : {r a : Result ℕ Refusal} → Judged R May bs out r → length out ≡ size → Ordered out r a → Decided (fs ++ bit_rows R May bs) R May bs out a
  judged (accepted t) h o = decided t (omega (arith, t.room)) o
  judged (refused l) h e = rw e (refuses (refusal_back f (refusal_front (bits.row13-bits bs ∷ []) l)))

  pub decide_ordered : {r a : Result ℕ Refusal} → Reading R May bs out r → Ordered out r a → Decision (fs ++ bit_rows R May bs) R May bs out a
  decide_ordered s o = record { answer = judged s.answer s.long o; long = s.long }

-- a row before them applies
pub decide_front :
    {R : ℕ} {May : List Bool → Type 0} {bs : List Bool} {out : List ℕ} {xs : List Row} {r : Refusal} (ys : List Row)
    → FirstRefusal xs r.row r.place → length out ≡ size → Decision (xs ++ ys) R May bs out (Err r)
decide_front ys l h = record { answer = refuses (refusal_front ys l); long = h }
