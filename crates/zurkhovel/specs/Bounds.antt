-- Every table that a public call judges by refuses with a number of 1 to 255 and a place below 256.
--
-- In order, for any limit R on neighbours: an edge list; digits, by themselves and of a form; bits, by the number of bits, in each form; CAM, 0A and
-- A0. Then a line, and every table in an edition.
-- Assumes nothing.
use Rattle.std.specs.Prelude.{◌≡◌, refl, Bool, true, false, List, [], ◌∷◌, ◌++◌, map, ℕ, suc, ◌+◌, ◌-◌, ◌*◌, ◌≤◌, ◌<◌, Float, length, take}
use Rattle.std.proofs.Common.{inr, ⊎_elim, arith, length-append, length-take}
use Rattle.std.proofs.Math.Decide.{dec_le, ℕ_discrete}
use Rattle.refusal.specs.document.Table.{Row, Clear, row3}
use Rattle.refusal.specs.document.Small.{byte_values, Bounded}
use Rattle.refusal.specs.Laws.{never, others, at_most}
use Rattle.refusal.specs.Bounded.{bounded_rows, at_0}
use Rattle.refusal.proofs.Bounded.{bounded_both}
use Rattle.limits.specs.document.Limits.{size, packed_bytes, whole_size, zero_size, a_size}
use Rattle.digit_code.specs.document.Code.{plain, digit_rows, code_rows}
use Rattle.digit_code.specs.Within.{larger_within}
use Rattle.edge_list.specs.document.Edges.{Edge, row5_edges, row6, edge_rows}
use Rattle.form.specs.document.Form.{row14_form, form_rows}
use Rattle.bits.specs.document.Bits.{digits_from, cut_from, whole_digits, word, bytes, fraction_bits, bit_rows, row4_whole, Fill, Nothing, Zeros, packed_rows, whole_rows}
use Rattle.bits.specs.Words.{length_word, length_bytes}
use Rattle.fraction.specs.document.Fraction.{row4_fraction, first53, rest53, bits_of, fraction_rows}
use Rattle.adjacency.specs.document.Adjacency.{cam_edges_lem, factorial, zero_cam_lem, a_edges_lem, row4_number, row5_cam, row6-cam, made_rows, cam_rows, zero_rows, a_rows}
use Rattle.adjacency.specs.Made.{made_length, long}
use Rattle.adjacency.specs.Zero.{zero_length}
use Rattle.adjacency.specs.Accepted.{a_front, a_long}
use Rattle.texts.specs.document.Text.{through, Shaped, Where, of_line, line_rows}
use Rattle.texts.specs.document.Lent.{line_row15}
use Rattle.lines.specs.document.Line.{Front, Formed}
use Rattle.lines.specs.document.Judged.{digit_table}
use Rattle.lines.specs.document.Reading.{lines_of, digits_lent}
use Rattle.lines.specs.Form.{front_rows}
use Rattle.edition.specs.document.Edition.{neighbours_in, row22}
use Rattle.zurkhovel.specs.document.Same.{list_rows}
use Rattle.zurkhovel.specs.document.InEdition.{code_table, form_table, edge_table, packed_table, whole_table, fraction_table, cam_table, zero_table, a_table}

-- ---- edge lists

-- the number of an edge, of which there are at most 63
at_edge : (E : List ℕ) → length E ≤ 2 * (size - 1) → (p : ℕ) → Edge E p → p < byte_values
at_edge E h p (a, b) = omega arith

made_bounded : (R : ℕ) (E : List ℕ) → length E ≤ 2 * (size - 1) → Bounded (made_rows R E)
made_bounded R E h = bounded_rows refl ((λ p a. at_edge E h p a.0), ((λ p a. at_edge E h p a.0), ((λ p a. at_edge E h p a.0), tt)))

-- 3 and 5 of an edge list
abbrev edge_sizes : ℕ → ℕ → List ℕ → List Row
edge_sizes most N E = row3 most N ∷ row5_edges N E ∷ []

edges_long : {most : ℕ} (N : ℕ) (E : List ℕ) → Clear (edge_sizes most N E) → length E ≡ 2 * (N - 1)
edges_long N E k = step (ℕ_discrete (length E) (2 * (N - 1)))
  where
    step : Dec (length E ≡ 2 * (N - 1)) → length E ≡ 2 * (N - 1)
    step (yes e) = e
    step (no n) = absurd (never (others k) 0 (refl, n))

edges-small : {most : ℕ} → most ≤ size → (R N : ℕ) (E : List ℕ) (r : ℕ) → Bounded (edge_rows most R N E r)
edges-small {most} h R N E r =
    bounded_both (edge_sizes most N E) (row6 N E r ∷ made_rows R E) (bounded_rows refl (at_0, (at_0, tt))) (λ k.
    let l : length E ≤ 2 * (size - 1) = omega (arith, edges_long N E k, at_most k) in
    bounded_both (row6 N E r ∷ []) (made_rows R E) (bounded_rows refl ((λ p a. ⊎_elim (λ z. at_0 p z) (λ z. at_edge E l p z.0) a), tt))
    (λ n. made_bounded R E l))

-- ---- digits

digits_bounded : (R : ℕ) (c : List ℕ) → length c < byte_values → Bounded (digit_rows R c)
digits_bounded R c h =
    bounded_rows refl ((λ p a. omega (arith, a.1)), ((λ p a. omega (arith, a.0)), ((λ p a. omega (arith, a.0)), ((λ p a. omega (arith, larger_within plain c p a)), tt))))

code-small : (R : ℕ) (c : List ℕ) → Bounded (code_rows size R c)
code-small R c =
    bounded_both (row3 size (length c) ∷ []) (digit_rows R c) (bounded_rows refl (at_0, tt)) (λ k. digits_bounded R c (omega (arith, at_most k)))

form_small : (form : ℕ → List ℕ → List ℕ → Type 0) (R : ℕ) (c : List ℕ) → Bounded (form_rows form size R c)
form_small form R c = bounded_both (code_rows size R c) (row14_form form c ∷ []) (code-small R c) (λ k. bounded_rows refl (at_0, tt))

-- ---- bits

-- each whole digit has a bit of its own, the zero
digits_few : (n : ℕ) (bs : List Bool) → length (digits_from n bs) ≤ length bs
unfolding digits_from
digits_few n [] = omega arith
digits_few n (true ∷ bs) = omega (arith, digits_few (suc n) bs)
digits_few n (false ∷ bs) = omega (arith, digits_few 0 bs)

-- a place is at most one behind the last bit
bits_bounded : (R : ℕ) (May : List Bool → Type 0) (bs : List Bool) → length bs + 1 < byte_values → Bounded (bit_rows R May bs)
bits_bounded R May bs h =
    let l = digits_few 0 bs in
    bounded_rows refl (
      (λ p a. omega (arith, a.1, length-append (whole_digits bs) (cut_from 0 bs ∷ []))),
      (
        (λ p a. omega (arith, a.0.within)),
        (
          (λ p a. omega (arith, a.0)),
          ((λ p (e, w, x). omega (arith, larger_within plain (take e (whole_digits bs)) p x, length-take e (whole_digits bs))), tt),
        ),
      ),
    )

packed-small : (R : ℕ) (s : List ℕ) → Bounded (packed_rows packed_bytes R s)
packed-small R s =
    bounded_both (row3 packed_bytes (length s) ∷ []) (bit_rows R Fill (bytes s)) (bounded_rows refl (at_0, tt))
    (λ k. bits_bounded R Fill (bytes s) (omega (arith, length_bytes s, at_most k)))

whole-small : (R n v : ℕ) → Bounded (whole_rows whole_size R n v)
whole-small R n v =
    bounded_both (row3 whole_size n ∷ row4_whole n v ∷ []) (bit_rows R Nothing (word (2 * n - 1) v)) (bounded_rows refl (at_0, (at_0, tt)))
    (λ k. bits_bounded R Nothing (word (2 * n - 1) v) (omega (arith, length_word (2 * n - 1) v, at_most k)))

-- 53 bits, and one for the rest
fraction-bits : (n : ℕ) (b : Bool) → length (fraction_bits n b) ≤ 54
unfolding fraction_bits
fraction-bits n false = omega (arith, length_word 53 n)
fraction-bits n true = omega (arith, length-append (word 53 n) (true ∷ []), length_word 53 n)

pub fraction_long : (x : Float) → length (bits_of x) ≤ 54
fraction_long x = fraction-bits (first53 x) (rest53 x)

fraction-small : (R : ℕ) (x : Float) → Bounded (fraction_rows R x)
fraction-small R x =
    bounded_both (row4_fraction x ∷ []) (bit_rows R Zeros (bits_of x)) (bounded_rows refl (at_0, tt))
    (λ k. bits_bounded R Zeros (bits_of x) (omega (arith, fraction_long x)))

-- ---- CAM, 0A and A0

cam-small : (R N : ℕ) (c : List ℕ) → Bounded (cam_rows size R N c)
cam-small R N c =
    bounded_both (row3 size N ∷ row5_cam N c ∷ []) (row6-cam c ∷ made_rows R (cam_edges_lem c)) (bounded_rows refl (at_0, (at_0, tt))) (λ k.
    let l : length c ≤ size - 1 = omega (arith, long N c k, at_most k) in
    bounded_both (row6-cam c ∷ []) (made_rows R (cam_edges_lem c)) (bounded_rows refl ((λ p a. omega (arith, a.1)), tt))
    (λ n. made_bounded R (cam_edges_lem c) (omega (arith, made_length 1 c))))

zero_small : (R N x : ℕ) → Bounded (zero_rows zero_size R N x)
zero_small R N x =
    bounded_both (row3 zero_size N ∷ row4_number (factorial (N - 1)) x ∷ []) (made_rows R (cam_edges_lem (zero_cam_lem N x))) (bounded_rows refl (at_0, (at_0, tt)))
    (λ k. made_bounded R (cam_edges_lem (zero_cam_lem N x)) (omega (arith, made_length 1 (zero_cam_lem N x), zero_length N x, at_most k)))

a_small : (R N x : ℕ) → Bounded (a_rows a_size R N x)
a_small R N x =
    bounded_both (a_front a_size N x) (made_rows R (a_edges_lem N x)) (bounded_rows refl (at_0, (at_0, (at_0, tt))))
    (λ k. made_bounded R (a_edges_lem N x) (omega (arith, a_long a_size N x k, at_most k)))

-- ---- a line

-- where 1, 2, 3 and 5 do not apply, it has at most 64 digits
module _ (t : List ℕ) (k : Clear (front_rows size t)) where
  pub line-digits : (q : Front) → Shaped Formed t q → length q.digits ≤ size
  line-digits q s = step (ℕ_discrete (length q.digits) q.count) (dec_le q.count size)
    where
      step : Dec (length q.digits ≡ q.count) → Dec (q.count ≤ size) → length q.digits ≤ size
      step (yes e) (yes l) = omega arith
      step (yes e) (no m) = absurd (never (others (others k)) 0 (record { parts = q; shape = s; holds = (refl, inr (omega arith)) }))
      step (no m) d = absurd (never (others (others (others k))) 0 (record { parts = q; shape = s; holds = (refl, m) }))

  -- so a row about them applies there too
  at-digit : {P : ℕ → Front → Type 0} → ((p : ℕ) (q : Front) → P p q → p ≤ length q.digits) → (p : ℕ) → Where Formed t (P p) → p < byte_values
  at-digit f p w = omega (arith, f p w.parts w.holds, line-digits w.parts w.shape)

module _ (e : ℕ) where
  -- the rows of its digits, and 15
  abbrev pub behind_front : List ℕ → List ℕ → List Row
  behind_front t old =
      map (of_line Formed t) (map (through (λ q. q.digits)) (digit_table (neighbours_in e))) ++ (line_row15 (lines_of e) (digits_lent size) t (old ∷ []) ∷ [])

  line_small : (t old : List ℕ) → Bounded (front_rows size t ++ behind_front t old)
  line_small t old =
      bounded_both (front_rows size t) (behind_front t old) (bounded_rows refl (at_0, (at_0, ((λ p w. at_0 p w.holds), ((λ p w. at_0 p w.holds), tt))))) (λ k.
      bounded_rows refl (
        at-digit t k (λ p q a. a.1),
        (
          at-digit t k (λ p q a. a.0),
          (
            at-digit t k (λ p q a. omega (arith, a.0)),
            (at-digit t k (λ p q a. larger_within plain q.digits p a), (at-digit t k (λ p q a. omega (arith, a.0)), (at-digit t k (λ p q a. omega (arith, a.0)), tt))),
          ),
        ),
      ))

  -- ---- in the edition e

  -- 22 before a table
  behind_22 : {rs : List Row} → Bounded rs → Bounded (row22 e ∷ rs)
  behind_22 {rs} b = bounded_both (row22 e ∷ []) rs (bounded_rows refl (at_0, tt)) (λ c. b)

  pub code_bounded : (c : List ℕ) → Bounded (code_table e c)
  code_bounded c = behind_22 (code-small (neighbours_in e) c)

  pub form_bounded : (form : ℕ → List ℕ → List ℕ → Type 0) (c : List ℕ) → Bounded (form_table e form c)
  form_bounded form c = behind_22 (form_small form (neighbours_in e) c)

  pub edges_bounded : {most : ℕ} → most ≤ size → (N : ℕ) (E : List ℕ) (r : ℕ) → Bounded (edge_table e most N E r)
  edges_bounded h N E r = behind_22 (edges-small h (neighbours_in e) N E r)

  -- behind 22, where no root is named
  pub lists_bounded : (N : ℕ) (E : List ℕ) → Bounded (list_rows e N E)
  lists_bounded N E = edges-small (omega arith) (neighbours_in e) N E 1

  pub packed_bounded : (s : List ℕ) → Bounded (packed_table e s)
  packed_bounded s = behind_22 (packed-small (neighbours_in e) s)

  pub whole_bounded : (n v : ℕ) → Bounded (whole_table e n v)
  whole_bounded n v = behind_22 (whole-small (neighbours_in e) n v)

  pub fraction_bounded : (x : Float) → Bounded (fraction_table e x)
  fraction_bounded x = behind_22 (fraction-small (neighbours_in e) x)

  pub cam_bounded : (N : ℕ) (c : List ℕ) → Bounded (cam_table e N c)
  cam_bounded N c = behind_22 (cam-small (neighbours_in e) N c)

  pub zero_bounded : (N x : ℕ) → Bounded (zero_table e N x)
  zero_bounded N x = behind_22 (zero_small (neighbours_in e) N x)

  pub a_bounded : (N x : ℕ) → Bounded (a_table e N x)
  a_bounded N x = behind_22 (a_small (neighbours_in e) N x)

  pub line_bounded : (t old : List ℕ) → Bounded (line_rows (lines_of e) t ++ (line_row15 (lines_of e) (digits_lent size) t (old ∷ []) ∷ []))
  line_bounded t old = behind_22 (line_small t old)
