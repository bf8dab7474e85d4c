-- What every public call on the bit-tuple tells fits into bytes, as in `Places`.
--
-- In order: the rooted code in each form; each form read into edges. Assumes nothing.
use Rattle.std.proofs.Common.{ap, arith, length-append}
use Rattle.std.specs.Prelude.{Bool, List, ℕ, ◌-◌, ◌*◌, ◌≤◌, Float, length}
use Rattle.refusal.specs.document.Table.{Clear, Outcome}
use Rattle.refusal.specs.document.Small.{SmallAnswer, SmallRefusal}
use Rattle.refusal.specs.Laws.{others, at_most}
use Rattle.refusal.specs.Bounded.{small-value}
use Rattle.refusal.proofs.Bounded.{small-written}
use Rattle.limits.specs.document.Limits.{size, packed_bytes}
use Rattle.digit_code.specs.Ends.{ends_iff, ends_sum}
use Rattle.skeleton.specs.document.Skeleton.{rooted}
use Rattle.skeleton.specs.Theorems.{code_length, digit-sum}
use Rattle.bits.specs.document.Written.{Packs}
use Rattle.bits.specs.Ends.{right_ends}
use Rattle.bits.specs.Laws.{length_bits}
use Rattle.bits.specs.Words.{length_word, length_bytes}
use Rattle.zurkhovel.specs.document.Bits.{Pack, Whole, InFraction, Decodes, Unpack, Unwhole, Unfraction}
use Rattle.zurkhovel.specs.document.Tabled.{Tabled}
use Rattle.zurkhovel.specs.Bounds.{packed_bounded, whole_bounded, fraction_bounded, fraction_long}
use Rattle.zurkhovel.specs.Places.{edges-of}
use Rattle.edition.specs.document.Edition.{neighbours_in}
use Rattle.zurkhovel.specs.document.InEdition.{EdgeTable}

-- ---- the rooted code in each form

module _ {T : EdgeTable} {R : ℕ} (t : Tabled T R) where
  -- the packed form of an accepted edge list's code is short
  packed_few : (N : ℕ) (E : List ℕ) (r : ℕ) (s : List ℕ) → Clear (T size N E r) → Packs (rooted N E r) s → length s ≤ packed_bytes
  packed_few N E r s k p =
      let a = p.carries in
      let x = t.skeleton N E r k in
      let (h, l) = t.root N E r k in
      let n = simp (length_bytes, length-append, length_bits) at (ap length a.same) in
      omega (arith, n, a.may.1, code_length N E r x.tree h l, digit-sum N E r x.tree h l, x.few)

  pub places-pack : (N : ℕ) (E : List ℕ) (r : ℕ) (old new : List ℕ) (o : Outcome ℕ) → Pack T N E r old new o → SmallAnswer o
  places-pack N E r old new o g = small-written (t.bounded (omega arith) N E r) (λ k s p. omega (arith, packed_few N E r s k p)) g

  pub places-whole : (N : ℕ) (E : List ℕ) (r : ℕ) (o : Outcome ℕ) → Whole T N E r o → SmallRefusal o
  places-whole N E r o g = small-value (t.bounded (omega arith) N E r) g

  pub places-fraction : (N : ℕ) (E : List ℕ) (r : ℕ) (o : Outcome Float) → InFraction T N E r o → SmallRefusal o
  places-fraction N E r o g = small-value (t.bounded (omega arith) N E r) g

-- ---- each form read into edges

module _ (e : ℕ) where
  -- the edges of the code that bits carry: a code of N digits takes 2N - 1 bits, and has 2(N - 1) ends
  edges_few : {May : List Bool → Type 0} {bs : List Bool} (E : List ℕ) → Decodes (neighbours_in e) May bs E → length E ≤ length bs
  edges_few {bs = bs} E d =
      let c = d.code in
      let a = d.reads.carries in
      let e = (ends_iff c).1 (right_ends c d.reads.right) in
      let n = simp (length-append, length_bits) at (ap length a.same) in
      omega (arith, n, ap length d.edges, edges-of c e, ends_sum 1 c e)

  pub places-unpack : (s old new : List ℕ) (o : Outcome ℕ) → Unpack e s old new o → SmallAnswer o
  places-unpack s old new o g = small-written (packed_bounded e s) (λ k E d. omega (arith, edges_few E d, length_bytes s, at_most (others k))) g

  pub places-unwhole : (n v : ℕ) (old new : List ℕ) (o : Outcome ℕ) → Unwhole e n v old new o → SmallAnswer o
  places-unwhole n v old new o g = small-written (whole_bounded e n v) (λ k E d. omega (arith, edges_few E d, length_word (2 * n - 1) v, at_most (others k))) g

  pub places-unfraction : (x : Float) (old new : List ℕ) (o : Outcome ℕ) → Unfraction e x old new o → SmallAnswer o
  places-unfraction x old new o g = small-written (fraction_bounded e x) (λ k E d. omega (arith, edges_few E d, fraction_long x)) g
