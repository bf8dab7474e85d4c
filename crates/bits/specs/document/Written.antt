-- Document 01, "Bit-tuple": the packed form and the whole-number form of a code. That each is one, and is read back, is in the crate's
-- `Written`. Assumes nothing.
use Rattle.std.specs.Prelude.{List, ℕ, ◌-◌, ◌*◌, ◌^◌, ◌<◌, length, get_or}
use Rattle.bits.specs.document.Bits.{word, bytes, Fill, Nothing, Carries}

-- bytes
pub record Bytes (s : List ℕ) : Type 0 where
  pub below : (i : ℕ) → get_or s i 0 < 256

-- "most significant bit first, the last byte filled with zeros, exactly as many bytes as needed"
pub record Packs (c s : List ℕ) : Type 0 where
  pub carries : Carries Fill (bytes s) c
  pub are_bytes : Bytes s

-- "the 2N-1 bits read in base 2, so below 2^(2N-1)"
pub record Numbers (c : List ℕ) (x : ℕ) : Type 0 where
  pub carries : Carries Nothing (word (2 * length c - 1) x) c
  pub below : x < 2 ^ (2 * length c - 1)
