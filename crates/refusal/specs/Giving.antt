-- Laws of the calls that write into a lent output, once for every call.
--
-- In order: what is written, as a caller learns it; that it is one; the promise kept; what a call gave, and what the next must give. What rests on `First` is in
-- `proofs.Giving`. Assumes nothing.
use Rattle.std.specs.Prelude.{◌≡◌, refl, List, [], ◌∷◌, ◌++◌, ℕ, ◌≤◌, length, take, drop}
use Rattle.std.proofs.Common.{sym, ap, ◌∙◌, subst, arith, length-append}
use Rattle.laws.specs.document.Laid.{laid_over, Laid}
use Rattle.laws.specs.Laying.{laid-front}
use Rattle.refusal.specs.document.Table.{Row, Clear, FirstRefusal, gives, refuses, Promise, Answered, kept, left, Writes, short, Gives}
use Rattle.refusal.specs.Laws.{clear_one, clear_both, clear_left, refusal_front}

-- ---- what is written

-- a result that lies at the start of the output is what was to be written
pub laid_writes : {c old new : List ℕ} {n : ℕ} → Laid c old new n → Writes (λ d. d ≡ c) old n new
laid_writes {c} l = record { result = c; right = refl; count = l.count; lies = l.lies }

-- what is written from the start is not longer than what it is written over then
covers : (c old new : List ℕ) → new ≡ laid_over c old → length c ≤ length new
unfolding laid_over
covers c old new e = omega (arith, ap length e, length-append c (drop (length c) old))

-- as a caller learns it: n bytes at the start
module _ {Right : List ℕ → Type 0} {old new : List ℕ} {n : ℕ} (w : Writes Right old n new) where
  pub written : take n new ≡ w.result
  written = laid-front w.result old new n w.lies (sym w.count)

  pub written-room : n ≤ length new
  written-room = omega (arith, covers w.result old new w.lies, w.count)

  pub written_length : n ≡ length (take n new)
  written_length = w.count ∙ sym (ap length written)

-- ---- it is one

-- what is written is one, where the right result is one
pub one_written :
    {Right : List ℕ → Type 0} {old s t : List ℕ} → ((c d : List ℕ) → Right c → Right d → c ≡ d) → (n m : ℕ) → Writes Right old n s → Writes Right old m t
    → (n ≡ m) × (s ≡ t)
one_written {old = old} one n m v w =
    let e = one v.result w.result v.right w.right in
    (v.count ∙ ap length e ∙ sym w.count, v.lies ∙ ap (λ c. laid_over c old) e ∙ sym w.lies)

-- ---- the promise kept

module _ {rs : List Row} {Right : List ℕ → Type 0} {old : List ℕ} where
  -- a refusal by one of rs
  pub refused-first : {new : List ℕ} {k p : ℕ} → FirstRefusal rs k p → new ≡ old → Gives rs Right old new (refuses k p)
  refused-first l e = record { promise = left (refusal_front (short Right (length old) ∷ []) l) e }

  module _ (clear : Clear rs) {n : ℕ} (sized : (c : List ℕ) → Right c → length c ≡ n) where
    -- one that does
    pub given : {new : List ℕ} → n ≤ length old → Writes Right old n new → Gives rs Right old new (gives n)
    given h w = record { promise = kept (clear_both clear (clear_one {r = short Right (length old)} room_there)) w }
      where
        room_there : (p : ℕ) → (short Right (length old)).applies p → ⊥
        room_there p a = let z : ⊥ = omega (arith, a.2.0, a.2.1, sized a.0 a.1) in z

-- a result that lies at the start of the output, where it is the one right one
pub given-laid : {rs : List Row} {c old new : List ℕ} {n : ℕ} → Clear rs → length c ≤ length old → Laid c old new n → Gives rs (λ d. d ≡ c) old new (gives n)
given-laid k h l = given k (λ d e. ap length e ∙ sym l.count) (omega (arith, l.count)) (laid_writes l)

-- ---- two calls in a row

-- what a call gave: no row refused, what stands at the start of the output is right, and its length was told
pub gave :
    {rs : List Row} {Right : List ℕ → Type 0} {old new : List ℕ} {n : ℕ} → Gives rs Right old new (gives n)
    → Clear rs × Right (take n new) × (length (take n new) ≡ n)
gave {rs} {Right} {old} {new} {n} g = by_cases g.promise
  where
    by_cases :
        Promise (rs ++ (short Right (length old) ∷ [])) (Writes Right old) old new (gives n) → Clear rs × Right (take n new) × (length (take n new) ≡ n)
    by_cases (kept k w) = (clear_left rs _ k, subst Right (sym (written w)) w.right, sym (written_length w))

-- the same of a value
pub gave_value : {A : Type 0} {rs : List Row} {Right : A → Type 0} {a : A} → Answered rs Right (gives a) → Clear rs × Right a
gave_value (kept k r) = (k, r)
