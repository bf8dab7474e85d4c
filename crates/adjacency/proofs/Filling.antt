-- The edges of a column, one bit at a time, and of an A0, one column at a time. Assumes nothing.
use mathlib.Core.Path.{◌≡◌, refl, ap, sym, ◌∙◌}
use mathlib.Core.List.{List, [], ◌∷◌, ◌++◌, append_assoc, append-nil}
use Prim.Native.Nat.{ℕ, suc, ◌+◌, ◌-◌, ◌*◌, ◌/◌, ◌%◌, ◌^◌, ◌≤◌, ◌<◌}
use native.Mathlib.Nat.{div-div-eq-div-mul, div-one, mul_comm}
use lib.Pow.{shr-shr}
use native.Mathlib.Omega.{arith}
use native.Mathlib.Numerals.{add-one}
use lib.Seq.{take_all}
use lib.ListN.{drop_of_length-le, length, take, drop, set, length-append, length-take, length-drop, length-set}
use Rattle.limits.specs.document.Limits.{a_size}
use Rattle.laws.specs.document.Laid.{laid_over}
use Rattle.digit_code.specs.document.Code.{sum}
use Rattle.adjacency.specs.Mixed.{product}
use Rattle.adjacency.specs.document.Mixed.{quotient, mixed_digits}
use Rattle.adjacency.specs.document.Adjacency.{from, powers, put, rows, tied, columns, a_edges_lem}
use Rattle.adjacency.specs.Ascend.{put-none, put_one}
use Rattle.adjacency.specs.Power.{pows, product-pows, sum_rows, tied_length}
use Rattle.adjacency.specs.Parts.{Column}
use Rattle.adjacency.proofs.Summing.{rows_few, shift_one}
use Rattle.adjacency.proofs.Writing.{laid_none, laid-two, laid_length, laid-join}

-- ---- a column

tied-more : (v r : ℕ) (rs : List ℕ) → tied v (rs ++ (r ∷ [])) ≡ tied v rs ++ (r ∷ v ∷ [])
unfolding tied
tied-more v r [] = refl
tied-more v r (x ∷ rs) = ap (λ l. x ∷ v ∷ l) (tied-more v r rs)

-- the rows below r are written
pub record Filling (i b : ℕ) (old : List ℕ) (r k : ℕ) (out : List ℕ) : Type 0 where
  pub done : List ℕ
  pub low : 1 ≤ r
  pub high : r ≤ i + 1
  pub rest : rows 1 i b ≡ done ++ rows r (i + 1 - r) (b / 2 ^ (r - 1))
  pub count : k ≡ 2 * length done
  pub long : length out ≡ length old
  pub lies : out ≡ laid_over (tied (suc i) done) old

pub filling_none : (i b : ℕ) (old : List ℕ) → Filling i b old 1 0 old
unfolding tied
filling_none i b old =
    record {
      done = [];
      low = omega arith;
      high = omega arith;
      rest = let e : i + 1 - 1 ≡ i = omega arith in rw (e, div-one b) refl;
      count = refl;
      long = refl;
      lies = sym (laid_none old);
    }

module _ {i b : ℕ} {old : List ℕ} {r k : ℕ} {out : List ℕ} (f : Filling i b old r k out) (h : r ≤ i) where
  -- one bit less
  shorter : rows r (i + 1 - r) (b / 2 ^ (r - 1)) ≡ put (b / 2 ^ (r - 1) % 2) r (rows (r + 1) (i + 1 - (r + 1)) (b / 2 ^ (r + 1 - 1)))
  unfolding rows
  shorter =
      let e : i + 1 - r ≡ suc (i + 1 - (r + 1)) = omega arith in
      let l : r + 1 - 1 ≡ r - 1 + 1 = omega (arith, f.low) in
      rw (l, ← shr-shr b (r - 1) 1, e, add-one r)

  pub filling_zero : (b / 2 ^ (r - 1) % 2 ≡ 1 → ⊥) → Filling i b old (r + 1) k out
  filling_zero n =
      let z : b / 2 ^ (r - 1) % 2 ≡ 0 = omega arith in
      record {
        done = f.done;
        low = omega arith;
        high = omega arith;
        rest = f.rest ∙ ap (λ l. f.done ++ l) (shorter ∙ put-none r _ z);
        count = f.count;
        long = f.long;
        lies = f.lies;
      }

  module _ (room : 2 * length (rows 1 i b) ≤ length old) (o : b / 2 ^ (r - 1) % 2 ≡ 1) where
    split : rows 1 i b ≡ (f.done ++ (r ∷ [])) ++ rows (r + 1) (i + 1 - (r + 1)) (b / 2 ^ (r + 1 - 1))
    split = f.rest ∙ ap (λ l. f.done ++ l) (shorter ∙ put_one r _ o) ∙ sym (append_assoc f.done (r ∷ []) _)

    pub filling_room : k + 1 < length old
    filling_room = let e = ap length split ∙ length-append (f.done ++ (r ∷ [])) _ in let d = length-append f.done (r ∷ []) in omega (arith, f.count)

    pub filling_one : Filling i b old (r + 1) (k + 2) (set (set out k r) (k + 1) (i + 1))
    filling_one =
        let l : length (tied (suc i) f.done) ≡ k = tied_length (suc i) f.done ∙ sym f.count in
        record {
          done = f.done ++ (r ∷ []);
          low = omega arith;
          high = omega arith;
          rest = split;
          count = let d = length-append f.done (r ∷ []) in omega (arith, f.count);
          long = simp length-set f.long;
          lies = rw (f.lies, add-one i) (laid-two (tied (suc i) f.done) old k r (suc i) l filling_room ∙ ap (λ c. laid_over c old) (sym (tied-more (suc i) r f.done)));
        }

pub filling_all : {i b : ℕ} {old : List ℕ} {r k : ℕ} {out : List ℕ} → Filling i b old r k out → i < r → Column i b old k out
unfolding rows
filling_all {i} {b} {r = r} f h =
    let e : i + 1 - r ≡ 0 = omega arith in
    let d : rows 1 i b ≡ f.done = f.rest ∙ rw (e, append-nil) in
    record { count = rw d (f.count ∙ sym (tied_length (suc i) f.done)); lies = rw d f.lies }

-- ---- an A0

quotient_div : (bs : List ℕ) (x : ℕ) → quotient bs x ≡ x / product bs
unfolding quotient product
quotient_div [] x = omega arith
quotient_div (b ∷ bs) x = rw (quotient_div bs x) (div-div-eq-div-mul x (product bs) b ∙ ap (λ y. x / y) (mul_comm (product bs) b))

to_the_end : (k : ℕ) (l : List ℕ) → take (length l - k) (drop k l) ≡ drop k l
to_the_end k l = take_all (length l - k) (drop k l) (rw length-drop (omega arith))

nothing_behind : (k : ℕ) (l : List ℕ) → drop (length l - k) (drop k l) ≡ []
nothing_behind k l = drop_of_length-le (drop k l) {i = length l - k} (rw length-drop (omega arith))

-- the columns before i are written, and s bits hold those from i on
pub record Taking (n x : ℕ) (old : List ℕ) (i s k : ℕ) (out : List ℕ) : Type 0 where
  pub done : List ℕ
  pub low : 1 ≤ i
  pub high : i ≤ n
  pub shift : s ≡ sum (from i (n - i))
  pub few : s ≤ 55
  pub rest : a_edges_lem n x ≡ done ++ columns i (mixed_digits (pows i (n - i)) x)
  pub count : k ≡ length done
  pub long : length out ≡ length old
  pub lies : out ≡ laid_over done old

pub taking_none : (n x : ℕ) (old : List ℕ) → 1 ≤ n → n ≤ a_size → Taking n x old 1 (n * (n - 1) / 2) 0 old
unfolding a_edges_lem powers
taking_none n x old h l =
    record {
      done = [];
      low = omega arith;
      high = h;
      shift = sym (sum_rows n);
      few = omega (arith, rows_few l);
      rest = refl;
      count = refl;
      long = refl;
      lies = sym (laid_none old);
    }

column-step : (i m x y : ℕ) → quotient (pows (suc i) m) x ≡ y → columns i (mixed_digits (pows i (suc m)) x) ≡ tied (suc i) (rows 1 i (y % 2 ^ i)) ++ columns (suc i) (mixed_digits (pows (suc i) m) x)
unfolding from mixed_digits columns
column-step i m x y e = rw (← e)

module _ {n x : ℕ} {old : List ℕ} {i s k : ℕ} {out : List ℕ} (t : Taking n x old i s k out) (h : i < n) (small : n ≤ a_size) where
  sum_step : sum (from i (n - i)) ≡ i + sum (from (suc i) (n - suc i))
  unfolding from sum
  sum_step = let e : n - i ≡ suc (n - suc i) = omega arith in rw e

  pub taking_shift : i ≤ s
  taking_shift = omega (arith, t.shift, sum_step)

  abbrev taken : ℕ
  taken = (x / 2 ^ (s - i)) % ((1 * 2 ^ i) % 2 ^ 64)

  column_is : columns i (mixed_digits (pows i (n - i)) x) ≡ tied (suc i) (rows 1 i taken) ++ columns (i + 1) (mixed_digits (pows (i + 1) (n - (i + 1))) x)
  column_is =
      let e : n - i ≡ suc (n - suc i) = omega arith in
      let d : s - i ≡ sum (from (suc i) (n - suc i)) = omega (arith, t.shift, sum_step) in
      let p : quotient (pows (suc i) (n - suc i)) x ≡ x / 2 ^ (s - i) = quotient_div (pows (suc i) (n - suc i)) x ∙ rw (product-pows (suc i) (n - suc i), d) in
      let w : i < 64 = omega arith in
      rw (add-one i, e, shift_one w) (column-step i (n - suc i) x (x / 2 ^ (s - i)) p)

  split_edges : a_edges_lem n x ≡ (t.done ++ tied (suc i) (rows 1 i taken)) ++ columns (i + 1) (mixed_digits (pows (i + 1) (n - (i + 1))) x)
  split_edges = t.rest ∙ ap (λ l. t.done ++ l) column_is ∙ sym (append_assoc t.done (tied (suc i) (rows 1 i taken)) _)

  module _ (room : length (a_edges_lem n x) ≤ length old) where
    taking_fits : k + 2 * length (rows 1 i taken) ≤ length old
    taking_fits =
        let e = ap length split_edges ∙ length-append (t.done ++ tied (suc i) (rows 1 i taken)) _ in
        let d = length-append t.done (tied (suc i) (rows 1 i taken)) in
        let l = tied_length (suc i) (rows 1 i taken) in
        omega (arith, t.count)

    room-behind : 2 * length (rows 1 i taken) ≤ length (drop k out)
    room-behind = rw length-drop (omega (arith, taking_fits, t.long))

    pub taking_room : 2 * length (rows 1 i taken) ≤ length (take (length out - k) (drop k out))
    taking_room = rw (to_the_end k out) room-behind

    pub taking_within : k ≤ length out
    taking_within = omega (arith, taking_fits, t.long)

    next : {r : ℕ} {new : List ℕ} → Column i taken (drop k out) r new → Taking n x old (i + 1) (s - i) (k + r) (take k out ++ new)
    next {r} {new} c =
        let fits : length (tied (suc i) (rows 1 i taken)) ≤ length (drop k out) = rw (tied_length (suc i) (rows 1 i taken)) room-behind in
        record {
          done = t.done ++ tied (suc i) (rows 1 i taken);
          low = omega arith;
          high = omega arith;
          shift = rw add-one (omega (arith, t.shift, sum_step));
          few = omega (arith, t.few);
          rest = split_edges;
          count = let d = length-append t.done (tied (suc i) (rows 1 i taken)) in omega (arith, t.count, c.count);
          long = length-append (take k out) new ∙ rw (c.lies, laid_length (tied (suc i) (rows 1 i taken)) (drop k out) fits, length-drop, length-take) (omega (arith, t.long));
          lies = rw (c.lies, t.lies) (laid-join t.done (tied (suc i) (rows 1 i taken)) old k t.count);
        }

    -- the part from k on is lent to its end
    module _ {r : ℕ} {new : List ℕ} (c : Column i taken (take (length out - k) (drop k out)) r new) where
      pub taking_count : k + r ≤ length old
      taking_count = omega (arith, taking_fits, c.count, tied_length (suc i) (rows 1 i taken))

      pub taking_more : Taking n x old (i + 1) (s - i) (k + r) (take k out ++ (new ++ drop (length out - k) (drop k out)))
      taking_more = rw (nothing_behind k out, append-nil) (next (rw (to_the_end k out) at c))

pub taking_all : {n x : ℕ} {old : List ℕ} {i s k : ℕ} {out : List ℕ} → Taking n x old i s k out → n ≤ i → out ≡ laid_over (a_edges_lem n x) old
unfolding from mixed_digits columns
taking_all {n} {x} {old} {i} t h =
    let e : n - i ≡ 0 = omega arith in
    let d : a_edges_lem n x ≡ t.done = t.rest ∙ rw (e, append-nil) in
    rw d t.lies
