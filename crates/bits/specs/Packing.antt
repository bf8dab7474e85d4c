-- What the writer of a packed code knows as it goes: the bytes that are out, and the bits that are still in its word.
--
-- Assumes nothing.
use Rattle.std.specs.Prelude.{◌≡◌, refl, Bool, ℕ, zero, suc, ◌+◌, ◌-◌, ◌*◌, ◌/◌, ◌%◌, ◌^◌, ◌≤◌, ◌<◌, drop, get_or, set}
use Rattle.std.proofs.Math.Path.{sym}
use Rattle.std.proofs.Common.{ap, ◌∙◌, mod-lt, lt_of_lt_of_le, add-one, arith, lit<, pow_mono, length-append, length-set, take-append-drop, take-suc-set, drop-set-lt, drop-drop, length-take-le}
use Rattle.std.proofs.Math.Bool.{false}
use mathlib.Core.List.{List, [], ◌∷◌, ◌++◌, append_assoc, append-nil}
use Rattle.std.proofs.Math.ListN.{length, take, replicate, length-replicate}
use Rattle.std.proofs.Math.Seq.{take_all, take-length}
use Rattle.laws.specs.document.Laid.{laid_over}
use Rattle.refusal.specs.document.Table.{Writes}
use Rattle.limits.specs.document.Limits.{size}
use Rattle.digit_code.specs.document.Code.{sum}
use Rattle.digit_code.specs.Counting.{sum_more}
use Rattle.bits.specs.document.Bits.{bits, word, bytes}
use Rattle.bits.specs.Ends.{end-sum}
use Rattle.bits.specs.Laws.{length_bits}
use Rattle.bits.specs.Words.{length_word, word_shift, bytes-append, length_bytes}
use Rattle.bits.specs.Written.{Coded}
use Rattle.bits.specs.document.Written.{Bytes, Packs}
use Rattle.bits.specs.Writing.{Room, word-append, word-less, word_byte, bits_take, sum_within}

more-below : (s : List ℕ) (v : ℕ) → ((i : ℕ) → get_or s i 0 < 256) → v < 256 → (i : ℕ) → get_or (s ++ (v ∷ [])) i 0 < 256
more-below [] v b l zero = l
more-below [] v b l (suc i) = lit< tt
more-below (x ∷ s) v b l zero = b zero
more-below (x ∷ s) v b l (suc i) = more-below s v (λ j. b (suc j)) l i

-- the bits bs are stored: they are in m bytes of `out`, and in the c lowest bits of a
-- behind these bytes `out` is as it was, old
pub record Stored (bs : List Bool) (old out : List ℕ) (m c a : ℕ) : Type 0 where
  pub same : bs ≡ bytes (take m out) ++ word c a
  pub count : length (take m out) ≡ m
  pub size : length out ≡ length old
  pub kept : drop m out ≡ drop m old
  pub are_bytes : Bytes (take m out)

-- the whole bytes of the c lowest bits of a are put out, from m on: whatever was stored is stored still, with fewer than eight bits in a
pub record PutOut (a c m : ℕ) (out new : List ℕ) (r : ℕ) : Type 0 where
  pub many : r ≡ m + c / 8
  pub stored : (bs : List Bool) (old : List ℕ) → Stored bs old out m c a → Stored bs old new r (c % 8) a

-- i digits of d are read
pub record Packing (d old out : List ℕ) (i m c a : ℕ) : Type 0 where
  pub stored : Stored (bits (take i d)) old out m c a
  pub few : c < 8
  pub read : i ≤ length d

pub pack-none : (d old : List ℕ) → Packing d old old 0 0 0 0
unfolding bits bytes word
pack-none d old =
    record {
      stored = record { same = refl; count = refl; size = refl; kept = refl; are_bytes = record { below = λ i. lit< tt } };
      few = lit< tt;
      read = omega arith;
    }

bytes_one : (v : ℕ) → bytes (v ∷ []) ≡ word 8 v
unfolding bytes
bytes_one v = append-nil (word 8 v)

-- a byte more is out
record Out (old out new : List ℕ) (m v : ℕ) : Type 0 where
  taken : take (m + 1) new ≡ take m out ++ (v ∷ [])
  count : length (take (m + 1) new) ≡ m + 1
  size : length new ≡ length old
  kept : drop (m + 1) new ≡ drop (m + 1) old
  are_bytes : Bytes (take (m + 1) new)

module _ {bs : List Bool} {old out : List ℕ} {m c a : ℕ} (s : Stored bs old out m c a) where
  -- how many bits are stored
  stored_bits : length bs ≡ 8 * m + c
  stored_bits =
      let l = simp (length-append, length_bytes, length_word) at (ap length s.same) in
      omega (arith, l, s.count)

  put : (v : ℕ) → m < length out → v < 256 → Out old out (set out m v) m v
  put v l b =
      let t : take (m + 1) (set out m v) ≡ take m out ++ (v ∷ []) = rw (add-one, take-suc-set out m v l) in
      record {
        taken = t;
        count = rw t (simp length-append (omega (arith, s.count)));
        size = rw length-set s.size;
        kept = drop-set-lt (m + 1) out m v (omega arith) ∙ sym (drop-drop 1 m out) ∙ ap (drop 1) s.kept ∙ drop-drop 1 m old;
        are_bytes = rw t (record { below = more-below (take m out) v s.are_bytes.below b });
      }

  -- the highest eight of the bits are put out as a byte
  pub stored_byte : 8 ≤ c → m < length out → Stored bs old (set out m (a / 2 ^ (c - 8) % 256)) (m + 1) (c - 8) a
  stored_byte g l =
      let z : 8 + (c - 8) ≡ c = omega arith in
      let t : word c a ≡ word 8 (a / 2 ^ (c - 8) % 256) ++ word (c - 8) a = rw z at (word_byte (c - 8) a) in
      let o = put (a / 2 ^ (c - 8) % 256) l (mod-lt _ (lit< tt)) in
      record {
        same = s.same ∙ rw (t, o.taken, bytes-append, bytes_one) (sym (append_assoc (bytes (take m out)) _ _));
        count = o.count;
        size = o.size;
        kept = o.kept;
        are_bytes = o.are_bytes;
      }

-- none is whole, one is, or two are
module _ (a c m : ℕ) (out : List ℕ) where
  pub put-none : c < 8 → PutOut a c m out out m
  put-none g = let z : c ≡ c % 8 = omega arith in record { many = omega arith; stored = λ bs old s. rw (← z) s }

  module _ (g : 8 ≤ c) (l : m < length out) where
    -- the first byte is there
    abbrev first : List ℕ
    first = set out m (a / 2 ^ (c - 8) % 256)

    pub put_one : c - 8 < 8 → PutOut a c m out first (m + 1)
    put_one h = let z : c - 8 ≡ c % 8 = omega arith in record { many = omega arith; stored = λ bs old s. rw (← z) (stored_byte s g l) }

    pub put_two : 8 ≤ c - 8 → c < 24 → m + 1 < length out → PutOut a c m out (set first (m + 1) (a / 2 ^ (c - 8 - 8) % 256)) (m + 2)
    put_two h k b =
        let z : c - 8 - 8 ≡ c % 8 = omega arith in
        let y : m + 1 + 1 ≡ m + 2 = omega arith in
        record { many = omega arith; stored = λ bs old s. rw (← z, ← y) (stored_byte (stored_byte s g l) h (rw length-set b)) }

module _ {d old out : List ℕ} {i m c a : ℕ} (s : Packing d old out i m c a) where
  -- how far the writer is
  bits_out : i + sum (take i d) ≡ 8 * m + c
  bits_out = omega (arith, stored_bits s.stored, length_bits (take i d), length-take-le i d s.read)

  module _ {R : ℕ} (w : Coded R size d) (n : (2 * length d + 6) / 8 ≤ length old) where
    all-bits : length d ≤ i → 8 * m + c + 1 ≡ 2 * length d
    all-bits l =
        let t : sum (take i d) ≡ sum d = ap sum (take_all i d l) in
        omega (arith, bits_out, t, s.read, rw take-length at (end-sum d (length d) w.ends))

    -- the last byte has room
    pub pack-last : length d ≤ i → m < length out
    pack-last l = omega (arith, bits_out, s.stored.size, s.read, all-bits l)

    module _ (h : i < length d) where
      -- the next digit fits the word, where it is at most 54
      pub pack-room : R ≤ 54 → Room (get_or d i 0) (a % 256)
      pack-room r =
          let k : get_or d i 0 ≤ 54 = omega (arith, w.small i) in
          let p : 8 ≤ 62 - get_or d i 0 = omega arith in
          record { short = omega arith; below = lt_of_lt_of_le (mod-lt a (lit< tt)) (pow_mono p) }

      -- the bytes that it fills have room
      pub pack-bytes : m + (c + (get_or d i 0 + 1)) / 8 ≤ length out
      pack-bytes = omega (arith, bits_out, s.stored.size, sum_within d (i + 1) w.ends, sum_more d i h)

      -- and when they are out, the writer is one digit further
      pub pack-on
          : (b : ℕ) → b ≡ a % 256 * 2 ^ (get_or d i 0 + 1) + (2 ^ (get_or d i 0 + 1) - 2)
          → {new : List ℕ} {r : ℕ} → PutOut b (c + (get_or d i 0 + 1)) m out new r → Packing d old new (i + 1) r ((c + (get_or d i 0 + 1)) % 8) b
      pack-on b e p =
          let k : 8 - c + c ≡ 8 = omega (arith, s.few) in
          let l : word c (a % 256) ≡ word c a = rw k at (word-less c (8 - c) a) in
          let t : Stored (bits (take (i + 1) d)) old out m (c + (get_or d i 0 + 1)) b =
          record {
            same = rw (bits_take d i h, s.stored.same, e, word-append c (a % 256) (get_or d i 0), l, append_assoc);
            count = s.stored.count;
            size = s.stored.size;
            kept = s.stored.kept;
            are_bytes = s.stored.are_bytes;
          } in
          record { stored = p.stored (bits (take (i + 1) d)) old t; few = mod-lt _ (lit< tt); read = omega arith }

    -- the last byte, filled with zeros
    pub pack-done : length d ≤ i → Writes (Packs d) old (m + 1) (set out m (a * 2 ^ (8 - c) % 256))
    unfolding laid_over
    pack-done l =
        let v = a * 2 ^ (8 - c) % 256 in
        let z : c + (8 - c) ≡ 8 = omega (arith, s.few) in
        let o = put s.stored v (pack-last l) (mod-lt _ (lit< tt)) in
        let x : word 8 v ≡ word c a ++ replicate (8 - c) false = rw z at (word_shift c (8 - c) a) in
        let y : bytes (take (m + 1) (set out m v)) ≡ bits d ++ replicate (8 - c) false =
        rw (o.taken, bytes-append, bytes_one, x, ← append_assoc, ← s.stored.same, take_all i d l) in
        let f : length (replicate (8 - c) false) < 8 = rw length-replicate (omega (arith, all-bits l)) in
        record {
          result = take (m + 1) (set out m v);
          right =
              record {
                carries = record { fill = replicate (8 - c) false; same = y; may = (rw length-replicate, f) };
                are_bytes = o.are_bytes;
              };
          count = sym o.count;
          lies = rw (o.count, ← o.kept, take-append-drop);
        }
