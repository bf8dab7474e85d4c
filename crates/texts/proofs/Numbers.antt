-- Numbers of any length, without leading zeros. Here stands what rests on `count-decimal`, `number-count` or `count-number`; the rest is in `specs.Numbers`. Assumes
-- nothing.
use Rattle.std.specs.Prelude.{◌≡◌, List, ℕ, ◌≤◌}
use Rattle.texts.specs.document.Numerals.{decimal, IsNumber}
use Rattle.texts.specs.Numerals.{decimal-counts, count-decimal}
use Rattle.texts.specs.Numbers.{number-count, count-number}

-- up to 99 it is written as a count is
pub number-decimal : {b : List ℕ} {n : ℕ} → IsNumber b n → n ≤ 99 → b ≡ decimal n
number-decimal h l = (count-decimal (number-count h l)).0

pub decimal-number : (n : ℕ) → n ≤ 99 → IsNumber (decimal n) n
decimal-number n l = count-number (decimal-counts n l)
