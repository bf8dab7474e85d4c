-- Decoding digit by digit: what is written, what is still to be written, and the open places between them. Assumes nothing.
use mathlib.Core.Path.{◌≡◌, refl, sym, ap, ◌∙◌, subst}
use mathlib.Core.List.{List, [], ◌∷◌, ◌++◌, append_assoc, append-nil}
use Prim.Native.Nat.{ℕ, zero, suc, ◌+◌, ◌-◌, ◌≤◌, ◌<◌}
use native.Mathlib.Numerals.{add-one}
use native.Mathlib.Omega.{arith}
use lib.ListN.{length, get_or, set, drop, replicate, length-append, length-drop, drop_of_length-le}
use lib.Seq.{drop-cons}
use Rattle.laws.specs.Laid.{laid_length}
use Rattle.laws.specs.document.Laid.{laid_over, Laid}
use Rattle.laws.specs.Laying.{laid_none, laid_more}
use Rattle.limits.specs.document.Limits.{size}
use Rattle.digit_code.specs.document.Code.{decode, edges_from}
use Rattle.digit_code.specs.Ends.{Ends, ends_sum}
use Rattle.digit_code.specs.Stack.{stack, Pushed}

-- the first i digits of c are decoded into `out`, of which `at` bytes are written over `old`, and t places are open
pub record Decoding (c old out places : List ℕ) (t at i : ℕ) : Type 0 where
  pub done : List ℕ
  pub some : 1 ≤ i
  pub within : i ≤ length c
  pub parts : decode c ≡ done ++ edges_from (stack places t) (i + 1) (drop i c)
  pub lies : out ≡ laid_over done old
  pub count : at ≡ length done
  pub long : length places ≡ size
  pub open_places : Ends t (drop i c)

-- no more places are open than digits are left
open_few : (c : List ℕ) (t i : ℕ) → Ends t (drop i c) → t ≤ length c - i
open_few c t i e = omega (arith, ends_sum t (drop i c) e, length-drop i c)

module _ (c : List ℕ) (ends : Ends 1 c) where
  pub some_digit : 1 ≤ length c
  some_digit = omega (arith, ends_sum 1 c ends)

  head : c ≡ get_or c 0 0 ∷ drop 1 c
  head = drop-cons c 0 0 some_digit

  -- the root's digit opens that many places
  behind : Ends (get_or c 0 0) (drop 1 c)
  behind = subst (λ (n : ℕ). Ends n (drop 1 c)) (omega arith) (rw head at ends)

  pub first_few : get_or c 0 0 ≤ length c
  first_few = omega (arith, open_few c (get_or c 0 0) 1 behind)

-- the root's digit opens the first places
pub decoding_first :
    (c : List ℕ) {old s places : List ℕ} {t : ℕ} → Ends 1 c → length s ≡ size → Pushed s places 0 1 (get_or c 0 0) t
    → Decoding c old old places t 0 1
unfolding decode stack
decoding_first c {old} {s} {places} {t} e l p =
    record {
      done = [];
      some = omega arith;
      within = some_digit c e;
      parts = ap decode (head c e) ∙ ap (λ (w : List ℕ). edges_from w 2 (drop 1 c)) (sym (p.places ∙ append-nil _));
      lies = laid_none old;
      count = refl;
      long = p.long ∙ l;
      open_places = subst (λ (n : ℕ). Ends n (drop 1 c)) (omega (arith, p.count)) (behind c e);
    }

-- the numbers that one turn keeps within their bounds
pub record Turn (c old out places : List ℕ) (t at i : ℕ) : Type 0 where
  pub one_open : 1 ≤ t
  pub in_places : t - 1 < size
  pub pushes : t - 1 + get_or c i 0 ≤ length places
  pub fits : at + 2 ≤ length old
  pub out_length : length out ≡ length old
  pub number : i + 1 ≤ size

module _ {c old out places : List ℕ} {t at i : ℕ} (short : length c ≤ size) (room : length (decode c) ≤ length old) (d : Decoding c old out places t at i) (h : i < length c) where
  next : drop i c ≡ get_or c i 0 ∷ drop (suc i) c
  next = drop-cons c i 0 h

  -- a place is open
  opens : 1 ≤ t
  opens = open_one t (subst (Ends t) next d.open_places)
    where
      open_one : (n : ℕ) → Ends n (get_or c i 0 ∷ drop (suc i) c) → 1 ≤ n
      open_one zero e = absurd e
      open_one (suc n) e = omega arith

  nearest : stack places t ≡ get_or places (t - 1) 0 ∷ stack places (t - 1)
  unfolding stack
  nearest = let e : t ≡ suc (t - 1) = omega (arith, opens) in ap (stack places) e

  one_edge :
      edges_from (stack places t) (i + 1) (drop i c)
      ≡ get_or places (t - 1) 0 ∷ (i + 1) ∷ edges_from (replicate (get_or c i 0) (i + 1) ++ stack places (t - 1)) (i + 1 + 1) (drop (i + 1) c)
  unfolding edges_from
  one_edge = rw (nearest, next, add-one i, add-one (suc i))

  written : List ℕ
  written = d.done ++ (get_or places (t - 1) 0 ∷ (i + 1) ∷ [])

  parts_more :
      decode c ≡ written ++ edges_from (replicate (get_or c i 0) (i + 1) ++ stack places (t - 1)) (i + 1 + 1) (drop (i + 1) c)
  unfolding written
  parts_more = d.parts ∙ ap (λ (l : List ℕ). d.done ++ l) one_edge ∙ sym (append_assoc d.done (get_or places (t - 1) 0 ∷ (i + 1) ∷ []) _)

  two-more : at + 2 ≤ length old
  unfolding written
  two-more =
      omega (arith, d.count, room, ap length parts_more ∙ length-append written _, length-append d.done (get_or places (t - 1) 0 ∷ (i + 1) ∷ []))

  ends_more : {n : ℕ} → n ≡ t - 1 + get_or c i 0 → Ends n (drop (i + 1) c)
  ends_more {n} e = rw add-one (go t (subst (Ends t) next d.open_places) e)
    where
      go : (m : ℕ) → Ends m (get_or c i 0 ∷ drop (suc i) c) → n ≡ m - 1 + get_or c i 0 → Ends n (drop (suc i) c)
      go zero f q = absurd f
      go (suc m) f q = subst (λ (x : ℕ). Ends x (drop (suc i) c)) (omega arith) f

  pub turn : Turn c old out places t at i
  turn =
      record {
        one_open = opens;
        in_places = omega (arith, open_few c t i d.open_places, opens);
        pushes = omega (arith, d.long, open_few c (t - 1 + get_or c i 0) (i + 1) (ends_more refl));
        fits = two-more;
        out_length = ap length d.lies ∙ laid_length d.done old (omega (arith, two-more, d.count));
        number = omega arith;
      }

  laid-two : set (set out at (get_or places (t - 1) 0)) (at + 1) (i + 1) ≡ laid_over written old
  unfolding written
  laid-two =
      let p : ℕ = get_or places (t - 1) 0 in
      let e : length (d.done ++ (p ∷ [])) ≡ at + 1 = omega (arith, d.count, length-append d.done (p ∷ [])) in
      let first = laid_more d.done old out at p d.lies (sym d.count) (omega (arith, two-more)) in
      laid_more (d.done ++ (p ∷ [])) old (set out at p) (at + 1) (i + 1) first e (omega (arith, two-more))
      ∙ ap (λ (w : List ℕ). laid_over w old) (append_assoc d.done (p ∷ []) ((i + 1) ∷ []))

  pub decoding_next :
      {new : List ℕ} {n : ℕ} → Pushed places new (t - 1) (i + 1) (get_or c i 0) n
      → Decoding c old (set (set out at (get_or places (t - 1) 0)) (at + 1) (i + 1)) new n (at + 2) (i + 1)
  unfolding written
  decoding_next {new} {n} p =
      record {
        done = written;
        some = omega arith;
        within = omega arith;
        parts = parts_more ∙ ap (λ (w : List ℕ). written ++ edges_from w (i + 1 + 1) (drop (i + 1) c)) (sym p.places);
        lies = laid-two;
        count = (let e = length-append d.done (get_or places (t - 1) 0 ∷ (i + 1) ∷ []) in omega (arith, d.count));
        long = p.long ∙ d.long;
        open_places = ends_more p.count;
      }

-- all digits are decoded
pub decoded : {c old out places : List ℕ} {t at i : ℕ} → Decoding c old out places t at i → length c ≤ i → Laid (decode c) old out at
unfolding edges_from
decoded {c} {old} {out} {places} {t} {at} {i} d h = record { count = d.count ∙ ap length (sym all); lies = d.lies ∙ ap (λ (w : List ℕ). laid_over w old) (sym all) }
  where
    all : decode c ≡ d.done
    all = d.parts ∙ ap (λ (l : List ℕ). d.done ++ edges_from (stack places t) (i + 1) l) (drop_of_length-le c h) ∙ append-nil d.done

-- the output keeps its length
pub decoding_length : {c old out places : List ℕ} {t at i : ℕ} → length (decode c) ≤ length old → Decoding c old out places t at i → length out ≡ length old
decoding_length {c} {old} room d =
    ap length d.lies ∙ laid_length d.done old (omega (arith, ap length d.parts ∙ length-append d.done _))
