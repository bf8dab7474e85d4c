-- The parts of a code, by places: where the part that begins at a mark ends, and the children of a mark passed one by one.
--
-- In order: the marks are the codes they make, put one behind the other; marks whose digits end give every mark its children; a part's
-- end; passing children. Places count from 0 here. Assumes nothing.
use Rattle.std.specs.Prelude.{◌≡◌, length, get_or, take, drop}
use Rattle.std.proofs.Math.Path.{refl, sym, ap, ap₂}
use Rattle.std.proofs.Common.{◌∙◌, add-zero, arith, length-drop, take-append-drop, drop_of_length-le, drop-cons, take-suc}
use mathlib.Core.List.{List, [], ◌∷◌, ◌++◌, append_assoc, append-nil, flatten, nil≢cons, head-eq_of_cons-eq, tail-eq_of_cons-eq}
use Prim.Native.Nat.{ℕ, zero, suc, ◌+◌, ◌≤◌, ◌<◌}
use Rattle.std.proofs.Math.Decide.{dec_lt}
use Rattle.laws.specs.Part.{part, part_none, part_cons, part_length, part_join}
use Rattle.digit_code.specs.document.Code.{codes}
use Rattle.digit_code.specs.Digits.{digits}
use Rattle.digit_code.specs.Ends.{Ends}

pub flatten_append : (x y : List (List ℕ)) → flatten (x ++ y) ≡ flatten x ++ flatten y
unfolding flatten
flatten_append [] y = refl
flatten_append (c ∷ x) y = ap (λ l. c ++ l) (flatten_append x y) ∙ sym (append_assoc c (flatten x) (flatten y))

module _ (arity : ℕ → ℕ) where
  -- the marks are the codes that they make, one behind the other
  pub flatten_codes : (ms : List ℕ) → flatten (codes arity ms) ≡ ms
  unfolding codes flatten
  flatten_codes [] = refl
  flatten_codes (m ∷ ms) =
      ap (λ l. m ∷ l)
      (sym (flatten_append (take (arity m) (codes arity ms)) (drop (arity m) (codes arity ms))) ∙ ap flatten (take-append-drop (arity m) (codes arity ms)) ∙ flatten_codes ms)

  -- behind the last mark no code is left
  pub codes_past : (c : List ℕ) (i : ℕ) → length c ≤ i → codes arity (drop i c) ≡ []
  unfolding codes
  codes_past c i h = ap (codes arity) (drop_of_length-le c {i = i} h)

  -- marks whose digits fill w places make w codes
  pub codes-count : (w : ℕ) (ms : List ℕ) → Ends w (digits arity ms) → length (codes arity ms) ≡ w
  unfolding codes
  codes-count zero [] h = refl
  codes-count (suc w) (m ∷ ms) h = ap suc (length-drop (arity m) (codes arity ms) ∙ (let e = codes-count (arity m + w) ms h in omega arith))
  -- what is left of marks whose digits end fills the places open there
  codes-count zero (m ∷ ms) h = elim h [ ]
  codes-count (suc w) [] h = elim h [ ]

  ends_drop : (w : ℕ) (c : List ℕ) → Ends w (digits arity c) → (i : ℕ) → (n : ℕ) × Ends n (digits arity (drop i c))
  ends_drop w c h zero = (w, h)
  ends_drop zero [] h (suc i) = (0, tt)
  ends_drop (suc w) (m ∷ ms) h (suc i) = ends_drop (arity m + w) ms h i
  -- every mark of marks whose digits end has its children behind it
  ends_drop zero (m ∷ ms) h (suc i) = elim h [ ]
  ends_drop (suc w) [] h (suc i) = elim h [ ]

  pub enough : (c : List ℕ) → Ends 1 (digits arity c) → (i : ℕ) → i < length c → arity (get_or c i 0) ≤ length (codes arity (drop (suc i) c))
  enough c h i l = let (n, e) = ends_drop 1 c h i in served n (drop i c) e (drop-cons c i 0 l)
    where
      served : (n : ℕ) (ms : List ℕ) → Ends n (digits arity ms) → ms ≡ get_or c i 0 ∷ drop (suc i) c → arity (get_or c i 0) ≤ length (codes arity (drop (suc i) c))
      served n ms e q = at n (rw q at e)
        where
          at : (m : ℕ) → Ends m (digits arity (get_or c i 0 ∷ drop (suc i) c)) → arity (get_or c i 0) ≤ length (codes arity (drop (suc i) c))
          at (suc m) f = omega (arith, codes-count (arity (get_or c i 0) + m) (drop (suc i) c) f)
          at zero f = elim f [ ]

  -- the code that begins at mark j ends before mark e
  pub record Ending (c : List ℕ) (j e : ℕ) : Type 0 where
    pub after : j < e
    pub within : e ≤ length c
    pub part : codes arity (drop j c) ≡ part j e c ∷ codes arity (drop e c)

  -- m children of mark i are passed, and the next begins at mark e
  pub record Passing (c : List ℕ) (i m e : ℕ) : Type 0 where
    pub behind : i < e
    pub within : e ≤ length c
    pub some : m ≤ length (codes arity (drop (suc i) c))
    pub rest : codes arity (drop e c) ≡ drop m (codes arity (drop (suc i) c))
    pub begins : e ≡ suc i + length (flatten (take m (codes arity (drop (suc i) c))))
    pub passed : part (suc i) e c ≡ flatten (take m (codes arity (drop (suc i) c)))

-- what stands where a list is cut
record Cut {A : Type 0} (l : List A) (m : ℕ) (d x : A) (r : List A) : Type 0 where
  inside : m < length l
  here : get_or l m d ≡ x
  rest : drop (suc m) l ≡ r

cut : {A : Type 0} (l : List A) (m : ℕ) (d : A) {x : A} {r : List A} → drop m l ≡ x ∷ r → Cut l m d x r
cut [] zero d e = absurd (nil≢cons e)
cut [] (suc m) d e = absurd (nil≢cons e)
cut (y ∷ l) zero d e = record { inside = omega arith; here = head-eq_of_cons-eq e; rest = tail-eq_of_cons-eq e }
cut (y ∷ l) (suc m) d e = let c = cut l m d e in record { inside = omega (arith, c.inside); here = c.here; rest = c.rest }

module _ {arity : ℕ → ℕ} (c : List ℕ) (i : ℕ) where
  pub pass_none : i < length c → Passing arity c i 0 (suc i)
  unfolding flatten
  pass_none h =
      record { behind = omega arith; within = h; some = omega arith; rest = refl; begins = sym (add-zero (suc i)); passed = part_none (suc i) c }

  module _ {m e f : ℕ} (p : Passing arity c i m e) (q : Ending arity c e f) where
    cut_here : Cut (codes arity (drop (suc i) c)) m [] (part e f c) (codes arity (drop f c))
    cut_here = cut (codes arity (drop (suc i) c)) m [] (sym p.rest ∙ q.part)

    -- the child that begins there
    pub child_is : get_or (codes arity (drop (suc i) c)) m [] ≡ part e f c
    child_is = cut_here.here

    passed-more : flatten (take (suc m) (codes arity (drop (suc i) c))) ≡ part (suc i) f c
    unfolding flatten
    passed-more =
        ap flatten (take-suc (codes arity (drop (suc i) c)) m [] cut_here.inside)
        ∙ flatten_append (take m (codes arity (drop (suc i) c))) (get_or (codes arity (drop (suc i) c)) m [] ∷ [])
        ∙ ap₂ ◌++◌ (sym p.passed) (append-nil _ ∙ child_is)
        ∙ part_join (suc i) e f c p.behind (omega (arith, q.after))

    pub pass_one : Passing arity c i (suc m) f
    pass_one =
        record {
          behind = omega (arith, p.behind, q.after);
          within = q.within;
          some = cut_here.inside;
          rest = sym cut_here.rest;
          begins = (let l = ap length passed-more ∙ part_length (suc i) f c q.within in omega (arith, p.behind, q.after));
          passed = sym passed-more;
        }

  -- behind all its children a mark's part ends
  pub end_here : {e : ℕ} → i < length c → Passing arity c i (arity (get_or c i 0)) e → Ending arity c i e
  unfolding codes
  end_here {e} h p =
      record {
        after = p.behind;
        within = p.within;
        part =
            ap (codes arity) (drop-cons c i 0 h)
            ∙ ap₂ (λ (x : List ℕ) (r : List (List ℕ)). (get_or c i 0 ∷ x) ∷ r) (sym p.passed) (sym p.rest)
            ∙ ap (λ (x : List ℕ). x ∷ codes arity (drop e c)) (sym (part_cons i e c 0 p.behind h));
      }

  -- where a child is left, marks are left
  pub more_left : {m e : ℕ} → Passing arity c i m e → m < length (codes arity (drop (suc i) c)) → e < length c
  more_left {m} {e} p h = left (dec_lt e (length c))
    where
      left : Dec (e < length c) → e < length c
      left (yes l) = l
      left (no n) =
          let none : length (codes arity (drop e c)) ≡ 0 = ap length (codes_past arity c e (omega arith)) in
          absurd (let z : ⊥ = omega (arith, ap length p.rest ∙ length-drop m (codes arity (drop (suc i) c))) in z)
