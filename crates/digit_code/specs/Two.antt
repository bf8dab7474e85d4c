-- Marks whose digits stand in a list of their own, as the programs have them: the ends of the parts that the digits tell are the marks'
-- own (`known-marks`). Assumes nothing.
use Rattle.std.specs.Prelude.{◌≡◌, Bool, true, false, length, get_or, take, drop}
use Rattle.std.proofs.Math.Path.{refl, ap, ap₂, sym}
use Rattle.std.proofs.Common.{◌∙◌, subst, arith, drop-drop, drop_at}
use mathlib.Core.List.{List, [], ◌∷◌, ◌++◌, map, map-append, flatten, nil≢cons, head-eq_of_cons-eq}
use Prim.Native.Nat.{ℕ, zero, suc, ◌+◌, ◌-◌, ◌/◌, ◌<◌}
use Rattle.std.proofs.lemmas.List.{length-map}
use Rattle.std.proofs.Math.Seq.{take_at}
use Rattle.laws.specs.Part.{part, part_length}
use Rattle.digit_code.specs.document.Code.{plain, codes}
use Rattle.digit_code.specs.Digits.{digits}
use Rattle.digit_code.specs.Ends.{Ends, digits-plain}
use Rattle.digit_code.specs.Parts.{flatten_codes, Ending}
use Rattle.digit_code.specs.Search.{Known}

pub map_take : {A B : Type 0} (f : A → B) (n : ℕ) (l : List A) → map f (take n l) ≡ take n (map f l)
map_take f zero l = refl
map_take f (suc n) [] = refl
map_take f (suc n) (x ∷ l) = ap (λ r. f x ∷ r) (map_take f n l)

pub map_drop : {A B : Type 0} (f : A → B) (n : ℕ) (l : List A) → map f (drop n l) ≡ drop n (map f l)
map_drop f zero l = refl
map_drop f (suc n) [] = refl
map_drop f (suc n) (x ∷ l) = map_drop f n l

pub map_flatten : (m : ℕ → ℕ) (cs : List (List ℕ)) → map m (flatten cs) ≡ flatten (map (map m) cs)
unfolding flatten
map_flatten m [] = refl
map_flatten m (c ∷ cs) = map-append m c (flatten cs) ∙ ap (λ l. map m c ++ l) (map_flatten m cs)

module _ (arity : ℕ → ℕ) where
  -- the codes that the digits make are the digits of those that the marks make
  pub codes-digits : (ms : List ℕ) → codes plain (digits arity ms) ≡ map (map arity) (codes arity ms)
  unfolding codes
  codes-digits [] = refl
  codes-digits (m ∷ ms) =
      let D : List (List ℕ) = codes arity ms in
      ap₂ (λ (x y : List (List ℕ)). (arity m ∷ flatten x) ∷ y)
      (ap (take (arity m)) (codes-digits ms) ∙ sym (map_take (map arity) (arity m) D))
      (ap (drop (arity m)) (codes-digits ms) ∙ sym (map_drop (map arity) (arity m) D))
      ∙ ap (λ (x : List ℕ). (arity m ∷ x) ∷ map (map arity) (drop (arity m) D)) (sym (map_flatten arity (take (arity m) D)))

  -- codes from one of them on, put one behind the other, make those codes
  pub codes-rest : (l : List ℕ) (n : ℕ) → codes arity (flatten (drop n (codes arity l))) ≡ drop n (codes arity l)
  unfolding codes flatten
  codes-rest [] zero = refl
  codes-rest [] (suc n) = refl
  codes-rest (m ∷ ms) zero = ap (codes arity) (flatten_codes arity (m ∷ ms))
  codes-rest (m ∷ ms) (suc n) = rw (drop-drop n (arity m) (codes arity ms)) (codes-rest ms (arity m + n))

  -- the first of the codes, and those behind it, by its length
  first_code : (l x : List ℕ) (r : List (List ℕ)) → codes arity l ≡ x ∷ r → (take (length x) l ≡ x) × (codes arity (drop (length x) l) ≡ r)
  unfolding flatten
  first_code l x r e =
      let w : l ≡ x ++ flatten r = sym (flatten_codes arity l) ∙ ap flatten e in (
        ap (take (length x)) w ∙ take_at x (flatten r) (length x) refl,
        ap (λ (c : List ℕ). codes arity (drop (length x) c)) w
            ∙ ap (codes arity) (drop_at x (flatten r) (length x) refl ∙ ap (λ (d : List (List ℕ)). flatten (drop 1 d)) (sym e))
            ∙ codes-rest l 1
            ∙ ap (drop 1) e,
      )

  -- a part that ends among the digits ends there among the marks
  ending_marks : (ms : List ℕ) (j e : ℕ) → Ending plain (digits arity ms) j e → Ending arity ms j e
  ending_marks ms j e q = told (codes arity (drop j ms)) refl (sym (codes-digits (drop j ms)) ∙ ap (codes plain) (map_drop arity j ms) ∙ q.part)
    where
      told : (cs : List (List ℕ)) → codes arity (drop j ms) ≡ cs → map (map arity) cs ≡ part j e (digits arity ms) ∷ codes plain (drop e (digits arity ms)) → Ending arity ms j e
      told [] s d = absurd (nil≢cons d)
      told (x ∷ r) s d =
          let n : length x ≡ e - j = sym (length-map x arity) ∙ ap length (head-eq_of_cons-eq d) ∙ part_length j e (digits arity ms) q.within in
          let (a, b) = first_code (drop j ms) x r s in
          let k : j + length x ≡ e = omega (arith, q.after) in
          record {
            after = q.after;
            within = omega (arith, q.within, length-map ms arity);
            part =
                s
                ∙ ap₂ (λ (y : List ℕ) (t : List (List ℕ)). y ∷ t) (sym a ∙ ap (λ (i : ℕ). take i (drop j ms)) n)
                (sym b ∙ ap (codes arity) (drop-drop (length x) j ms ∙ ap (λ (i : ℕ). drop i ms) k));
          }

-- there are as many digits as marks
pub as_long : {ds : List ℕ} (arity : ℕ → ℕ) (ms : List ℕ) → ds ≡ digits arity ms → length ds ≡ length ms
as_long arity ms e = ap length e ∙ length-map ms arity

-- the ends that the digits tell are the marks' own
pub known-marks : {arity : ℕ → ℕ} {ds ms ends : List ℕ} {i : ℕ} → ds ≡ digits arity ms → Known plain ds ends i → Known arity ms ends i
known-marks {arity} {ds} {ms} {ends} {i} e k =
    let n : length ds ≡ length ms = as_long arity ms e in
    record {
      whole = subst (Ends 1) (digits-plain ds ∙ e) k.whole;
      few = omega (arith, k.few);
      long = k.long;
      ending = λ j h l. ending_marks arity ms j (get_or ends j 0) (subst (λ (d : List ℕ). Ending plain d j (get_or ends j 0)) e (k.ending j h (omega arith)));
    }

mapped_at : (arity : ℕ → ℕ) (ms : List ℕ) (i : ℕ) → i < length ms → get_or (digits arity ms) i 0 ≡ arity (get_or ms i 0)
mapped_at arity [] i l = absurd (let z : ⊥ = omega arith in z)
mapped_at arity (m ∷ ms) zero l = refl
mapped_at arity (m ∷ ms) (suc i) l = mapped_at arity ms i (omega arith)

-- a digit, by its mark
pub digit_at : (arity : ℕ → ℕ) {ds : List ℕ} (ms : List ℕ) → ds ≡ digits arity ms → (i : ℕ) → i < length ms → get_or ds i 0 ≡ arity (get_or ms i 0)
digit_at arity {ds} ms e i l = ap (λ (d : List ℕ). get_or d i 0) e ∙ mapped_at arity ms i l

-- the arity by kind: of a plain mark, and of a named one
abbrev pub arity_of : Bool → ℕ → ℕ
arity_of false = plain
arity_of true = λ m. m / 3
