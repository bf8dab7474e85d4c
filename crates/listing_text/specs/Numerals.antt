-- Laws of numerals. In order: one digit; a digit more; how long they are. Assumes nothing.
use Rattle.std.specs.Prelude.{◌≡◌, List, [], ◌∷◌, ◌++◌, ℕ, zero, suc, ◌+◌, ◌*◌, ◌/◌, ◌%◌, ◌^◌, ◌≤◌, ◌<◌, length}
use Rattle.std.proofs.Common.{sym, ap, ◌∙◌, arith, length-append}
use Rattle.std.proofs.Math.Logic.{if_pos, if_neg}
use Rattle.std.proofs.Math.Decide.{dec_lt}
use Rattle.listing_text.specs.document.Listing.{numeral_in, numeral}

short_in : (k n : ℕ) → n < 10 → numeral_in (suc k) n ≡ (48 + n) ∷ []
unfolding numeral_in
short_in k n h = if_pos (dec_lt n 10) h _ _

longer_in : (k n : ℕ) → 10 ≤ n → numeral_in (suc k) n ≡ numeral_in k (n / 10) ++ ((48 + n % 10) ∷ [])
unfolding numeral_in
longer_in k n h = if_neg (dec_lt n 10) (λ l. omega arith) _ _

-- any number of digits that is enough gives the same
enough : (j k n : ℕ) → n < j → n < k → numeral_in j n ≡ numeral_in k n
enough zero k n h l = absurd (omega arith)
enough (suc j) zero n h l = absurd (omega arith)
enough (suc j) (suc k) n h l = go (dec_lt n 10) (λ s. enough j k (n / 10) (omega arith) (omega arith))
  where
    go : Dec (n < 10) → (10 ≤ n → numeral_in j (n / 10) ≡ numeral_in k (n / 10)) → numeral_in (suc j) n ≡ numeral_in (suc k) n
    go (yes s) e = short_in j n s ∙ sym (short_in k n s)
    go (no s) e =
        longer_in j n (omega arith) ∙ ap (λ (i : List ℕ). i ++ ((48 + n % 10) ∷ [])) (e (omega arith)) ∙ sym (longer_in k n (omega arith))

pub numeral-short : (n : ℕ) → n < 10 → numeral n ≡ (48 + n) ∷ []
unfolding numeral
numeral-short n h = short_in n n h

pub numeral_longer : (n : ℕ) → 10 ≤ n → numeral n ≡ numeral (n / 10) ++ ((48 + n % 10) ∷ [])
unfolding numeral
numeral_longer n h =
    longer_in n n h ∙ ap (λ (l : List ℕ). l ++ ((48 + n % 10) ∷ [])) (enough n (suc (n / 10)) (n / 10) (omega arith) (omega arith))

pub numeral_some : (n : ℕ) → 1 ≤ length (numeral n)
numeral_some n = go (dec_lt n 10)
  where
    go : Dec (n < 10) → 1 ≤ length (numeral n)
    go (yes s) = rw (numeral-short n s) (omega arith)
    go (no s) = rw (numeral_longer n (omega arith)) (simp length-append (omega arith))

-- below 10 to the power k + 1, there are at most k + 1
pub numeral_length : (k n : ℕ) → n < 10 * 10 ^ k → length (numeral n) ≤ suc k
numeral_length zero n h = rw (numeral-short n (omega arith)) (omega arith)
numeral_length (suc k) n h = go (dec_lt n 10) (numeral_length k (n / 10) (omega arith))
  where
    go : Dec (n < 10) → length (numeral (n / 10)) ≤ suc k → length (numeral n) ≤ suc (suc k)
    go (yes s) i = rw (numeral-short n s) (omega arith)
    go (no s) i = rw (numeral_longer n (omega arith)) (simp length-append (omega arith))
