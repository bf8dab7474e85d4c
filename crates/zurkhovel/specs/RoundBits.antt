-- Demand 2, said of the public calls on the bit-tuple's three forms: "after decoding, coding at vertex 1 gives the same form again", and
-- coding at a vertex and decoding gives the same skeleton under other numbers. N is told by the m bytes of edges: m / 2 + 1.
--
-- In order: what bits that are read carry, once for the three forms; packed; whole number; fraction. Assumes nothing.
use Rattle.std.specs.Prelude.{◌≡◌, refl, Bool, List, [], ◌∷◌, ℕ, suc, ◌+◌, ◌-◌, ◌*◌, ◌/◌, ◌^◌, ◌≤◌, ◌<◌, T, length, take, Float}
use Rattle.std.proofs.Common.{sym, ap, subst, arith, length-append}
use Rattle.std.proofs.Math.Seq.{take-length}
use Rattle.std.specs.Float.{binary64}
use Rattle.std.specs.Float.Ieee.{fits}
use Rattle.refusal.specs.document.Table.{Row, Clear, Outcome, gives, Gives, row3}
use Rattle.refusal.specs.Laws.{clear_one, clear_both, never, others, at_most, at_least, size_clear}
use Rattle.refusal.specs.Giving.{gave, gave_value}
use Rattle.refusal.proofs.Giving.{must_give, must_answer}
use Rattle.refusal.specs.document.Given.{Given}
use Rattle.limits.specs.document.Limits.{size, packed_bytes, whole_size, fraction_size}
use Rattle.digit_code.specs.document.Code.{digit_rows, decode}
use Rattle.bits.specs.document.Bits.{word, Nothing, Reads, row4_whole}
use Rattle.bits.specs.Ends.{end-sum, right_ends}
use Rattle.bits.specs.Laws.{length_bits}
use Rattle.bits.specs.Words.{length_bytes}
use Rattle.bits.specs.Reading.{reading_clear}
use Rattle.bits.specs.Written.{packed-back, packed-read, packed_again, number-back, number_size, number_read, number_again}
use Rattle.bits.specs.document.Written.{Bytes, Packs, Numbers}
use Rattle.fraction.specs.document.Fraction.{IsFraction}
use Rattle.fraction.specs.document.Fraction as Fraction
use Rattle.fraction.specs.Back.{fraction_inside, fraction-size, fraction-read}
use Rattle.fraction.specs.Back as Back
use Rattle.skeleton.specs.document.Skeleton.{IsSkeleton, rooted}
use Rattle.zurkhovel.specs.document.Bits.{Pack, Whole, InFraction, Decodes, Unpack, Unwhole, Unfraction}
use Rattle.zurkhovel.specs.OneBits.{one-decoded}
use Rattle.zurkhovel.specs.Accepted.{same_edition, skeleton_of, root_of, rooted-size, wider}
use Rattle.zurkhovel.specs.Round.{its_skeleton, its_rows, its_code, code_clear, code_tree, code-numbers, edges-back}
use Rattle.zurkhovel.specs.document.Round.{Renumbered}
use Rattle.edition.specs.document.Edition.{IsEdition, neighbours_in}
use Rattle.edition.specs.Laws.{edition_clear, clear_edition}
use Rattle.zurkhovel.specs.document.InEdition.{code_table, edge_table}

module _ (e : ℕ) where
  -- ---- what bits that are read carry

  module _ {May : List Bool → Type 0} {bs : List Bool} {c : List ℕ} (r : Reads (neighbours_in e) May bs c) where
    -- 2N - 1 bits and what follows them
    counted : length bs + 1 ≡ 2 * length c + length r.carries.fill
    counted =
        let l = simp (length-append, length_bits) at (ap length r.carries.same) in
        omega (arith, l, rw take-length at (end-sum c (length c) (right_ends c r.right)))

    -- a right rooted code
    right_code : IsEdition e → length c ≤ size → Clear (code_table e c)
    right_code i h =
        clear_both (edition_clear i) (clear_both {xs = row3 size (length c) ∷ []} (size_clear (omega (arith, (right_ends c r.right).less)) h) r.right)

    -- N by the number of its edges' bytes
    told-size : {F : List ℕ} {m : ℕ} → IsEdition e → length c ≤ size → F ≡ decode c → length F ≡ m → suc (m / 2) ≡ length c
    told-size {F} {m} i h q l = omega (arith, ap length q, (its_skeleton e c (right_code i h)).tree.edges)

    -- coded again, the code is c
    same_code : IsEdition e → length c ≤ size → rooted (length c) (decode c) 1 ≡ c
    same_code i h = its_code e c (right_code i h)

  -- the skeleton E, coded at r in a form and read: what is given is E under other numbers
  module _ (most N : ℕ) (E : List ℕ) (r : ℕ) (k : Clear (edge_table e most N E r)) (within : most ≤ size) where
    its : IsSkeleton size (neighbours_in e) N E
    its = wider within (skeleton_of k)

    inside : (1 ≤ r) × (r ≤ N)
    inside = root_of E k

    code-size : length (rooted N E r) ≡ N
    code-size = rooted-size E k

    code_right : Clear (digit_rows (neighbours_in e) (rooted N E r))
    code_right = others (code_clear its inside.0 inside.1)

    form-back :
        {May : List Bool → Type 0} {bs : List Bool} {rs : List Row} {old new : List ℕ} {o : Outcome ℕ} → Clear rs → Reads (neighbours_in e) May bs (rooted N E r)
        → length E ≤ length old → Gives rs (Decodes (neighbours_in e) May bs) old new o → Renumbered N E new o
    form-back l x h g =
        let d : Decodes _ _ _ (decode (rooted N E r)) = record { code = rooted N E r; reads = x; edges = refl } in
        edges-back its.tree (code_tree its inside.0 inside.1) (code-numbers its inside.0 inside.1) l d (λ G z. one-decoded G _ z d) h g

  -- ---- packed

  pub pack_again :
      (s old new : List ℕ) (m : ℕ) (old' new' : List ℕ) (o : Outcome ℕ) → Bytes s → Unpack e s old new (gives m) → length s ≤ length old'
      → Pack (edge_table e) (suc (m / 2)) (take m new) 1 old' new' o → Given s old' new' o
  pack_again s old new m old' new' o b u h g =
      let (k, d, l) = gave u in
      let c = d.code in
      let few : length c ≤ size = omega (arith, counted d.reads, length_bytes s, at_most (others k)) in
      let q = same_code d.reads (clear_edition k) few in
      let p : Packs (rooted (length c) (decode c) 1) s = subst (λ x. Packs x s) (sym q) (packed-read b d.reads) in
      must_give (its_rows e c (right_code d.reads (clear_edition k) few) size few) s p (λ t q. packed_again q p) h
      (rw (told-size d.reads (clear_edition k) few d.edges l, d.edges) at g)

  pub pack-back :
      (N : ℕ) (E : List ℕ) (r : ℕ) (old new : List ℕ) (n : ℕ) (old' new' : List ℕ) (o : Outcome ℕ) → Pack (edge_table e) N E r old new (gives n)
      → length E ≤ length old' → Unpack e (take n new) old' new' o → Renumbered N E new' o
  pack-back N E r old new n old' new' o p h g =
      let (k, w, l) = gave p in
      let x = packed-back (code_right size N E r k (omega arith)) w in
      let z = code-size size N E r k (omega arith) in
      let i = inside size N E r k (omega arith) in
      let t = its size N E r k (omega arith) in
      let a : Clear (row3 packed_bytes (length (take n new)) ∷ []) =
      size_clear (omega (arith, counted x, length_bytes (take n new), z, i)) (omega (arith, counted x, length_bytes (take n new), z, t.few, x.carries.may.1)) in
      form-back size N E r k (omega arith) (same_edition k (clear_both a (reading_clear x))) x h g

  -- ---- whole number

  pub whole_again :
      (n v : ℕ) (old new : List ℕ) (m : ℕ) (o : Outcome ℕ) → Unwhole e n v old new (gives m) → Whole (edge_table e) n (take m new) 1 o → o ≡ gives v
  whole_again n v old new m o u g =
      let (k, d, l) = gave u in
      let c = d.code in
      let z : length c ≡ n = number_size v (at_least (others k)) d.reads in
      let few : length c ≤ size = omega (arith, at_most (others k)) in
      let below : 2 ^ (2 * n - 1) ≤ v → ⊥ = λ b. never (others (others k)) 0 (refl, b) in
      let q = same_code d.reads (clear_edition k) few in
      let p : Numbers (rooted (length c) (decode c) 1) v = subst (λ x. Numbers x v) (sym q) (number_read (at_least (others k)) (omega arith) d.reads) in
      must_answer (its_rows e c (right_code d.reads (clear_edition k) few) whole_size (omega (arith, at_most (others k)))) v p (λ y q. number_again q p) (rw (← z, d.edges) at g)

  pub whole_back :
      (N : ℕ) (E : List ℕ) (r v : ℕ) (old new : List ℕ) (o : Outcome ℕ) → Whole (edge_table e) N E r (gives v) → length E ≤ length old → Unwhole e N v old new o
      → Renumbered N E new o
  whole_back N E r v old new o p h g =
      let (k, w) = gave_value p in
      let z = code-size whole_size N E r k (omega arith) in
      let i = inside whole_size N E r k (omega arith) in
      let x : Reads (neighbours_in e) Nothing (word (2 * N - 1) v) (rooted N E r) = rw z at (number-back (code_right whole_size N E r k (omega arith)) w) in
      let below : v < 2 ^ (2 * N - 1) = rw z at w.below in
      let a : Clear (row3 whole_size N ∷ []) = size_clear (omega (arith, i)) (at_most (others k)) in
      let b : Clear (row4_whole N v ∷ []) = clear_one (λ q f. let n : ⊥ = omega (arith, f.1) in n) in
      form-back whole_size N E r k (omega arith) (same_edition k (clear_both a (clear_both b (reading_clear x)))) x h g

  -- ---- fraction

  pub fraction_again :
      (x : Float) (old new : List ℕ) (m : ℕ) (o : Outcome Float) → T (fits binary64 x) → Unfraction e x old new (gives m)
      → InFraction (edge_table e) (suc (m / 2)) (take m new) 1 o → o ≡ gives x
  fraction_again x old new m o f u g =
      let (k, d, l) = gave u in
      let c = d.code in
      let few = fraction-size x d.reads in
      let all : length c ≤ size = omega arith in
      let q = same_code d.reads (clear_edition k) all in
      let p : IsFraction (rooted (length c) (decode c) 1) x = subst (λ y. IsFraction y x) (sym q) (fraction-read x d.reads f (λ q. never (others k) 0 (refl, q))) in
      must_answer (its_rows e c (right_code d.reads (clear_edition k) all) fraction_size few) x p (λ y q. Back.fraction_again q p)
      (rw (told-size d.reads (clear_edition k) all d.edges l, d.edges) at g)

  pub fraction-back :
      (N : ℕ) (E : List ℕ) (r : ℕ) (x : Float) (old new : List ℕ) (o : Outcome ℕ) → InFraction (edge_table e) N E r (gives x) → length E ≤ length old
      → Unfraction e x old new o → Renumbered N E new o
  fraction-back N E r x old new o p h g =
      let (k, w) = gave_value p in
      let z = code-size fraction_size N E r k (omega arith) in
      let b = Back.fraction-back w (omega (arith, at_most (others k))) (code_right fraction_size N E r k (omega arith)) in
      let a : Clear (Fraction.row4_fraction x ∷ []) = clear_one (λ q f. fraction_inside w f.1) in
      form-back fraction_size N E r k (omega arith) (same_edition k (clear_both a (reading_clear b))) b h g
