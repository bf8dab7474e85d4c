-- The steps of the functions that look for row 13: passing the children of a mark by the ends that are known, comparing one with the
-- next, and keeping the lowest place. Assumes nothing.
use mathlib.Core.Path.{◌≡◌, ◌∙◌, subst}
use mathlib.Core.List.{List}
use Prim.Native.Nat.{ℕ, suc, ◌+◌, ◌-◌, ◌≤◌, ◌<◌}
use native.Mathlib.Nat.{le_antisymm}
use native.Mathlib.Numerals.{add-one}
use native.Mathlib.Decide.{ℕ_discrete}
use native.Mathlib.Omega.{arith}
use lib.ListN.{length, get_or, set, length-set}
use lib.Seq.{get_or-set_same, get_or-set_other}
use Rattle.std.proofs.Common.{None, Some}
use Rattle.laws.specs.document.Order.{◌≽◌}
use Rattle.laws.specs.Part.{part}
use Rattle.limits.specs.document.Limits.{size}
use Rattle.digit_code.specs.Digits.{digits}
use Rattle.digit_code.specs.Ends.{Ends}
use Rattle.digit_code.specs.Parts.{Ending, Passing, enough, pass_none, pass_one, more_left, end_here}
use Rattle.digit_code.specs.Siblings.{Fall, none-larger, falls_on, larger_here, no_earlier}
use Rattle.digit_code.specs.Search.{Known, FirstOf}

-- the first child begins behind the mark
pub begin : {arity : ℕ → ℕ} {c : List ℕ} {i : ℕ} → i < length c → Passing arity c i 0 (i + 1)
begin {arity} {c} {i} h = rw add-one (pass_none c i h)

module _ {arity : ℕ → ℕ} {c ends : List ℕ} {i j m e : ℕ} (known : Known arity c ends j) (later : j ≤ suc i) (inside : i < length c) (p : Passing arity c i m e) (h : m < arity (get_or c i 0)) where
  -- a child is left, so a mark is
  pub within : e < length c
  within = more_left c i p (omega (arith, enough arity c known.whole i inside))

  -- the part that begins there
  child : Ending arity c e (get_or ends e 0)
  child = known.ending e (omega (arith, p.behind)) within

  pub pass : Passing arity c i (m + 1) (get_or ends e 0)
  pass = rw add-one (pass_one c i p child)

-- all children are passed
pub last : {arity : ℕ → ℕ} {c : List ℕ} {i m e : ℕ} → i < length c → Passing arity c i m e → m ≤ arity (get_or c i 0) → arity (get_or c i 0) ≤ m → Ending arity c i e
last {arity} {c} {i} {m} {e} h p a b = end_here c i h (subst (λ (n : ℕ). Passing arity c i n e) (le_antisymm a b) p)

-- one more end is known, from the last mark down
module _ {arity : ℕ → ℕ} {c ends : List ℕ} {i : ℕ} (some : 0 < i) (inside : i ≤ length c) (k : Known arity c ends i) where
  above : suc (i - 1) ≡ i
  above = omega arith

  pub down : Known arity c ends (suc (i - 1))
  down = rw above k

  pub learn : {e : ℕ} → Ending arity c (i - 1) e → Known arity c (set ends (i - 1) e) (i - 1)
  learn {e} g =
      record {
        whole = k.whole;
        few = k.few;
        long = length-set ends (i - 1) e ∙ k.long;
        ending = λ j l n. at j l n (ℕ_discrete j (i - 1));
      }
    where
      at : (j : ℕ) → i - 1 ≤ j → j < length c → Dec (j ≡ i - 1) → Ending arity c j (get_or (set ends (i - 1) e) j 0)
      at j l n (yes q) = rw (q, get_or-set_same ends (i - 1) e 0 (omega (arith, k.long, k.few))) g
      at j l n (no q) = rw (get_or-set_other ends (i - 1) j e 0 q) (k.ending j (omega arith) n)

-- nothing is known behind the last mark, and nothing need be
pub start : {arity : ℕ → ℕ} {c ends : List ℕ} → Ends 1 (digits arity c) → length c ≤ size → length ends ≡ size → Known arity c ends (length c)
start w f l = record { whole = w; few = f; long = l; ending = λ j h k. absurd (let z : ⊥ = omega arith in z) }

-- all ends are known
pub settled : {arity : ℕ → ℕ} {c ends : List ℕ} {i : ℕ} → Known arity c ends i → i ≤ 0 → Known arity c ends 0
settled {arity} {c} {ends} {i} k h = let z : i ≡ 0 = omega arith in rw z at k

-- m children of mark i stand one behind the other, none larger than the one before it, and the last of them begins at a
pub record Line (arity : ℕ → ℕ) (c : List ℕ) (i m a : ℕ) : Type 0 where
  pub some : 1 ≤ m
  pub last_one : Passing arity c i (m - 1) a
  pub falls : Fall arity c i m

-- the part that begins at a and the one behind it lie within the code, and their ends are known
pub record Turn (c ends : List ℕ) (a : ℕ) : Type 0 where
  pub first : a < length ends
  pub second : get_or ends a 0 < length ends
  pub begins : a ≤ get_or ends a 0
  pub meets : get_or ends a 0 ≤ get_or ends (get_or ends a 0) 0
  pub within : get_or ends (get_or ends a 0) 0 ≤ length c

pub line_first : {arity : ℕ → ℕ} {c : List ℕ} {i : ℕ} → i < length c → Line arity c i 1 (i + 1)
line_first h = record { some = omega arith; last_one = begin h; falls = λ j l. absurd (let z : ⊥ = omega arith in z) }

module _ {arity : ℕ → ℕ} {c ends : List ℕ} {i m a : ℕ} (known : Known arity c ends 0) (inside : i < length c) (l : Line arity c i m a) where
  -- behind the last child none is larger
  pub line-last : arity (get_or c i 0) ≤ m → FirstOf arity c (suc i) None
  line-last h = none-larger arity c known.whole i inside (λ j s. l.falls j (omega arith))

  module _ (h : m < arity (get_or c i 0)) where
    one : Ending arity c a (get_or ends a 0)
    one = child known (omega arith) inside l.last_one (omega arith)

    one_within : a < length c
    one_within = within known (omega arith) inside l.last_one (omega arith)

    passed : Passing arity c i m (get_or ends a 0)
    passed = subst (λ (n : ℕ). Passing arity c i n (get_or ends a 0)) (omega (arith, l.some)) (pass known (omega arith) inside l.last_one (omega arith))

    two : Ending arity c (get_or ends a 0) (get_or ends (get_or ends a 0) 0)
    two = child known (omega arith) inside passed h

    two_within : get_or ends a 0 < length c
    two_within = within known (omega arith) inside passed h

    pub turn : Turn c ends a
    turn =
        record {
          first = omega (arith, one_within, known.few, known.long);
          second = omega (arith, two_within, known.few, known.long);
          begins = omega (arith, one.after);
          meets = omega (arith, two.after);
          within = two.within;
        }

    counted : suc (m - 1) ≡ m
    counted = omega (arith, l.some)

    pub line-next :
        part a (get_or ends a 0) c ≽ part (get_or ends a 0) (get_or ends (get_or ends a 0) 0) c → Line arity c i (m + 1) (get_or ends a 0)
    line-next g =
        let f = falls_on arity c known.whole i inside (rw counted l.falls) (rw counted h) l.last_one one two g in
        record {
          some = omega arith;
          last_one = subst (λ (n : ℕ). Passing arity c i n (get_or ends a 0)) (omega arith) passed;
          falls = λ j s. f j (omega (arith, l.some));
        }

    pub line_stops :
        (part a (get_or ends a 0) c ≽ part (get_or ends a 0) (get_or ends (get_or ends a 0) 0) c → ⊥) → FirstOf arity c (suc i) (Some (get_or ends a 0 + 1))
    line_stops n =
        let f : Fall arity c i (suc (m - 1)) = rw counted l.falls in
        let s : suc (m - 1) < arity (get_or c i 0) = rw counted h in
        (larger_here arity c known.whole i inside f s l.last_one one two n, no_earlier arity c known.whole i inside f s l.last_one one two)
