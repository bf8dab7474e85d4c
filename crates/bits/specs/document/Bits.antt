-- Document 01, "Bit-tuple": a rooted code as bits, in packed bytes, a whole number or a fraction; then rows 3, 4 and 10 to 13 of
-- "Refusal numbers" for these three forms.
--
-- In order: digits to bits, bits to digits; the bits that each form carries, and what may follow a code's end in it; the rows; what
-- an accepted input carries. What the rooted code of a skeleton is, is in the crate `skeleton`; which 53 bits an f64 has, in the crate
-- `fraction`. Assumes nothing.
use Rattle.std.specs.Prelude.{◌≡◌, Bool, true, false, List, [], ◌∷◌, ◌++◌, ℕ, zero, suc, ◌-◌, ◌*◌, ◌/◌, ◌%◌, ◌^◌, ◌≤◌, ◌<◌, length, take, drop, replicate}
use Rattle.refusal.specs.document.Table.{Row, Clear, row3}
use Rattle.digit_code.specs.document.Code.{EndsAt, plain, Larger, digit, cap, row12, digit_rows}

-- "Digit k becomes k ones and a zero"
unfoldable pub bits : List ℕ → List Bool
bits [] = []
bits (k ∷ ds) = replicate k true ++ (false ∷ bits ds)

-- "a digit is the run of ones before the next zero": the digits from here on, n ones of the first being passed
unfoldable pub digits_from : ℕ → List Bool → List ℕ
digits_from n [] = []
digits_from n (true ∷ bs) = digits_from (suc n) bs
digits_from n (false ∷ bs) = n ∷ digits_from 0 bs

-- the run of ones that no zero ends, 0 where there is none
unfoldable pub cut_from : ℕ → List Bool → ℕ
cut_from n [] = n
cut_from n (true ∷ bs) = cut_from (suc n) bs
cut_from n (false ∷ bs) = cut_from 0 bs

-- the whole digits of the bits
abbrev pub whole_digits : List Bool → List ℕ
whole_digits bs = digits_from 0 bs

-- the runs of ones: the whole digits, and behind them the run that no zero ends
abbrev pub runs : List Bool → List ℕ
runs bs = whole_digits bs ++ (cut_from 0 bs ∷ [])

-- what follows a code of e digits, which takes 2e - 1 bits
abbrev pub after : List Bool → ℕ → List Bool
after bs e = drop (2 * e - 1) bs

-- a remainder by 2 as a bit
unfoldable pub bit : ℕ → Bool
bit zero = false
bit (suc n) = true

-- the k lowest bits of n, "most significant bit first"
unfoldable pub word : ℕ → ℕ → List Bool
word zero n = []
word (suc k) n = bit (n / 2 ^ k % 2) ∷ word k n

-- the bits of a packed code
unfoldable pub bytes : List ℕ → List Bool
bytes [] = []
bytes (b ∷ s) = word 8 b ++ bytes s

-- "A fraction is read for 53 bits; a rest other than zero behind them counts as a one bit": x has the 53 bits, and `rest` says
-- whether there is such a rest
unfoldable pub fraction_bits : ℕ → Bool → List Bool
fraction_bits x false = word 53 x
fraction_bits x true = word 53 x ++ (true ∷ [])

-- After the code's end "a fraction only zeros",
abbrev pub Zeros : List Bool → Type 0
Zeros fs = fs ≡ replicate (length fs) false

-- "a packed code only the zeros that fill its byte",
abbrev pub Fill : List Bool → Type 0
Fill fs = Zeros fs × (length fs < 8)

-- "a whole number may have no further bit"
abbrev pub Nothing : List Bool → Type 0
Nothing fs = fs ≡ []

-- 4: a whole number is outside its form's range
abbrev pub row4_whole : ℕ → ℕ → Row
row4_whole n x = record { number = 4; applies = λ p. (p ≡ 0) × (2 ^ (2 * n - 1) ≤ x) }

-- 10: a digit is above its cap, "judged on digits up to the code's end; a run longer than its cap is 10 even if the bits give out"
abbrev pub row10-bits : ℕ → List Bool → Row
row10-bits R bs =
    record {
      number = 10;
      applies =
          λ p.
          (1 ≤ p) × (p ≤ length (runs bs)) × ((e : ℕ) → EndsAt (whole_digits bs) e → p ≤ e) × (cap R p < digit (runs bs) p);
    }

-- 11: the code has ended, and what follows is not what May allows; the place is the first digit number after the end
abbrev pub row11-bits : (List Bool → Type 0) → List Bool → Row
row11-bits May bs = record { number = 11; applies = λ p. EndsAt (whole_digits bs) (p - 1) × (May (after bs (p - 1)) → ⊥) }

-- 13: in the digits up to the code's end, a child's code is larger than that of the sibling before it
abbrev pub row13-bits : List Bool → Row
row13-bits bs = record { number = 13; applies = λ p. (e : ℕ) × EndsAt (whole_digits bs) e × Larger plain (take e (whole_digits bs)) p }

-- what is refused of bits before the order of siblings is looked at; 12 is the digit codes' own, of the whole digits
abbrev pub end_rows : ℕ → (List Bool → Type 0) → List Bool → List Row
end_rows R May bs = row10-bits R bs ∷ row11-bits May bs ∷ row12 (whole_digits bs) ∷ []

-- what is refused of bits, whatever carries them
abbrev pub bit_rows : ℕ → (List Bool → Type 0) → List Bool → List Row
bit_rows R May bs = end_rows R May bs ++ (row13-bits bs ∷ [])

-- what is refused of a packed code of at most `most` bytes
abbrev pub packed_rows : ℕ → ℕ → List ℕ → List Row
packed_rows most R s = row3 most (length s) ∷ bit_rows R Fill (bytes s)

-- what is refused of a whole number x with N = n beside it
abbrev pub whole_rows : ℕ → ℕ → ℕ → ℕ → List Row
whole_rows most R n x = row3 most n ∷ row4_whole n x ∷ bit_rows R Nothing (word (2 * n - 1) x)

-- the bits are those of c and then what May allows
pub record Carries (May : List Bool → Type 0) (bs : List Bool) (c : List ℕ) : Type 0 where
  pub fill : List Bool
  pub same : bs ≡ bits c ++ fill
  pub may : May fill

-- an accepted input: the bits carry c, a right digit code
pub record Reads (R : ℕ) (May : List Bool → Type 0) (bs : List Bool) (c : List ℕ) : Type 0 where
  pub carries : Carries May bs c
  pub right : Clear (digit_rows R c)
