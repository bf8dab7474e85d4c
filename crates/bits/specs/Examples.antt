-- The definitions, run on document 01's own figures. Its whole numbers are in the P table, `Figures` of the crate `zurkhovel`. Assumes nothing.
use Rattle.std.specs.Prelude.{◌≡◌, refl, Bool, true, false, List, [], ◌∷◌, ◌++◌, ℕ, zero, suc, ◌*◌, ◌^◌, ◌<◌, length, get_or}
use Rattle.std.proofs.Common.{ap, ⊎_elim, true≢false, arith, length-append}
use Rattle.refusal.specs.document.Table.{FirstRefusal, row3}
use Rattle.refusal.specs.Laws.{clear_one, clear_both, refusal_front, size_clear}
use Rattle.refusal.proofs.Laws.{first-place, refusal_back}
use Rattle.limits.specs.document.Limits.{valence, packed_bytes, whole_size}
use Rattle.digit_code.specs.document.Code as code
use Rattle.digit_code.specs.Ends.{ends_iff}
use Rattle.bits.specs.document.Bits.{bits, bit, word, bytes, digits_from, cut_from, runs, fraction_bits, Zeros, Nothing, row4_whole, row10-bits, bit_rows, packed_rows, whole_rows}
use Rattle.bits.specs.Reading.{more-refused}
use Rattle.bits.specs.document.Written.{Packs}

-- 002's example, packed into two bytes, and as the fraction 30344/32768 at 53 bits
pub packed : Packs (3 ∷ 2 ∷ 1 ∷ 0 ∷ 0 ∷ 1 ∷ 0 ∷ 0 ∷ []) (237 ∷ 16 ∷ [])
unfolding word bit bits bytes
packed = record { carries = record { fill = false ∷ []; same = refl; may = (refl, omega arith) }; are_bytes = record { below = small_bytes } }
  where
    small_bytes : (i : ℕ) → get_or (237 ∷ 16 ∷ []) i 0 < 256
    small_bytes zero = omega arith
    small_bytes (suc zero) = omega arith
    small_bytes (suc (suc i)) = omega arith

-- nine neighbours: the star of ten, whose root is a run of nine ones; ten ones are above the cap
pub star : Packs (9 ∷ 0 ∷ 0 ∷ 0 ∷ 0 ∷ 0 ∷ 0 ∷ 0 ∷ 0 ∷ 0 ∷ []) (255 ∷ 128 ∷ 0 ∷ [])
unfolding word bit bits bytes
star =
    record {
      carries = record { fill = false ∷ false ∷ false ∷ false ∷ false ∷ []; same = refl; may = (refl, omega arith) };
      are_bytes = record { below = small_bytes };
    }
  where
    small_bytes : (i : ℕ) → get_or (255 ∷ 128 ∷ 0 ∷ []) i 0 < 256
    small_bytes zero = omega arith
    small_bytes (suc zero) = omega arith
    small_bytes (suc (suc zero)) = omega arith
    small_bytes (suc (suc (suc i))) = omega arith

ten_ones : code.digit (runs (bytes (255 ∷ 192 ∷ []))) 1 ≡ 10
unfolding word bit bytes digits_from cut_from
ten_ones = refl

pub refused_ten : FirstRefusal (packed_rows packed_bytes 9 (255 ∷ 192 ∷ [])) 10 1
refused_ten =
    refusal_back (size_clear {most = packed_bytes} {n = 2} (omega arith) (omega arith))
    (refusal_front _
    (first-place {r = row10-bits 9 (bytes (255 ∷ 192 ∷ []))}
    (omega arith, simp length-append (omega arith), (λ e h. omega (arith, h.less)), rw ten_ones (omega arith)) (λ q l a. omega (arith, a.0))))

pub fraction : fraction_bits (30344 * 2 ^ 38) false ≡ bits (3 ∷ 2 ∷ 1 ∷ 0 ∷ 0 ∷ 1 ∷ 0 ∷ 0 ∷ []) ++ word 38 0
unfolding word bit bits fraction_bits
fraction = refl

-- a lone vertex, and the code 10, have no digit above its cap
none_over : (p : ℕ) → (code.row10 valence (0 ∷ [])).applies p → ⊥
none_over zero a = omega (arith, a.0)
none_over (suc zero) a = omega (arith, a.2)
none_over (suc (suc p)) a = omega (arith, a.1)

none-over_10 : (p : ℕ) → (code.row10 valence (1 ∷ 0 ∷ [])).applies p → ⊥
none-over_10 zero a = omega (arith, a.0)
none-over_10 (suc zero) a = omega (arith, a.2)
none-over_10 (suc (suc zero)) a = omega (arith, a.2)
none-over_10 (suc (suc (suc p))) a = omega (arith, a.1)

-- "0.25 is refused 11 at 2, and so is 2^-60", which has 53 zero bits and a rest
quarter : fraction_bits (2 ^ 51) false ≡ bits (0 ∷ []) ++ (true ∷ word 51 0)
unfolding word bit bits fraction_bits
quarter = refl

pub refused_quarter : FirstRefusal (bit_rows valence Zeros (fraction_bits (2 ^ 51) false)) 11 2
refused_quarter =
    rw quarter (more-refused valence Zeros (0 ∷ []) (true ∷ word 51 0) ((ends_iff (0 ∷ [])).0 tt) none_over first_bit)
  where
    first_bit : Zeros (true ∷ word 51 0) → ⊥
    first_bit z = true≢false (ap (λ (l : List Bool). get_or l 0 false) z)

small : fraction_bits 0 true ≡ bits (0 ∷ []) ++ (word 52 0 ++ (true ∷ []))
unfolding word bit bits fraction_bits
small = refl

last_bit : Zeros (word 52 0 ++ (true ∷ [])) → ⊥
unfolding word bit
last_bit z = true≢false (ap (λ (l : List Bool). get_or l 52 false) z)

pub refused-small : FirstRefusal (bit_rows valence Zeros (fraction_bits 0 true)) 11 2
refused-small =
    rw small (more-refused valence Zeros (0 ∷ []) (word 52 0 ++ (true ∷ [])) ((ends_iff (0 ∷ [])).0 tt) none_over last_bit)

-- "The whole number 16 with N = 3 is refused 11 at 3."
sixteen : word 5 16 ≡ bits (1 ∷ 0 ∷ []) ++ (false ∷ false ∷ [])
unfolding word bit bits
sixteen = refl

pub refused_sixteen : FirstRefusal (whole_rows whole_size valence 3 16) 11 3
refused_sixteen =
    refusal_back
    (clear_both (clear_one {r = row3 32 3} in_range) (clear_one {r = row4_whole 3 16} (λ p a. omega (arith, a.1))))
    (rw sixteen
    (more-refused valence Nothing (1 ∷ 0 ∷ []) (false ∷ false ∷ []) ((ends_iff (1 ∷ 0 ∷ [])).0 tt) none-over_10 more))
  where
    in_range : (p : ℕ) → (row3 32 3).applies p → ⊥
    in_range p a = ⊎_elim (λ h. omega (arith, h)) (λ h. omega (arith, h)) a.1

    more : Nothing (false ∷ false ∷ []) → ⊥
    more z = omega (arith, ap length z)
