-- Codes passed one after the other, by places: the open places are counted, so no end is stored. Assumes nothing.
use Rattle.std.specs.Prelude.{◌≡◌, refl, take, drop}
use Rattle.std.proofs.Common.{sym, ◌∙◌, add-zero, add-one, arith, length-drop, length-append, take-append-drop, drop-cons, drop-drop, take_at, drop_at}
use Rattle.std.proofs.Math.Path.{ap, ap₂}
use mathlib.Core.List.{List, [], ◌∷◌, ◌++◌, map, append-nil, flatten}
use Prim.Native.Nat.{ℕ, suc, ◌+◌, ◌-◌, ◌≤◌, ◌<◌}
use Rattle.std.proofs.Math.Decide.{dec_lt}
use Rattle.std.proofs.Math.ListN.{length, get_or}
use Rattle.std.proofs.lemmas.List.{length-map}
use Rattle.laws.specs.Part.{part}
use Rattle.digit_code.specs.document.Code.{plain, codes}
use Rattle.digit_code.specs.Digits.{digits}
use Rattle.digit_code.specs.Ends.{Ends}
use Rattle.digit_code.specs.Parts.{flatten_append, flatten_codes, codes_past, codes-count, enough}
use Rattle.digit_code.specs.Two.{map_take, map_drop, map_flatten, codes-digits, codes-rest, as_long}

-- from mark i on, m codes are passed, and the next begins at mark e
pub record Skips (arity : ℕ → ℕ) (c : List ℕ) (i m e : ℕ) : Type 0 where
  pub from : i ≤ length c
  pub within : e ≤ length c
  pub rest : codes arity (drop e c) ≡ drop m (codes arity (drop i c))

-- on the way, at mark j, so many places are open
pub record Skipping (arity : ℕ → ℕ) (c : List ℕ) (i m j places : ℕ) : Type 0 where
  pub from : i ≤ length c
  pub within : j ≤ length c
  pub some : places ≤ length (codes arity (drop j c))
  pub left : drop places (codes arity (drop j c)) ≡ drop m (codes arity (drop i c))

-- a code has a mark at least
pub codes_few : (arity : ℕ → ℕ) (ms : List ℕ) → length (codes arity ms) ≤ length ms
unfolding codes
codes_few arity [] = omega arith
codes_few arity (m ∷ ms) = omega (arith, length-drop (arity m) (codes arity ms), codes_few arity ms)

pub codes_at : (arity : ℕ → ℕ) (c : List ℕ) (j : ℕ) → j < length c
    → codes arity (drop j c) ≡ (get_or c j 0 ∷ flatten (take (arity (get_or c j 0)) (codes arity (drop (suc j) c)))) ∷ drop (arity (get_or c j 0)) (codes arity (drop (suc j) c))
unfolding codes
codes_at arity c j h = ap (codes arity) (drop-cons c j 0 h)

-- the root's children are as many as its mark tells
pub root-codes : (arity : ℕ → ℕ) (c : List ℕ) → Ends 1 (digits arity c) → length (codes arity (drop 1 c)) ≡ arity (get_or c 0 0)
root-codes arity [] h = absurd h
root-codes arity (m ∷ ms) h = codes-count arity (arity m + 0) ms h ∙ add-zero (arity m)

pub skip_start : {arity : ℕ → ℕ} {c : List ℕ} {i m : ℕ} → i ≤ length c → m ≤ length (codes arity (drop i c)) → Skipping arity c i m i m
skip_start h k = record { from = h; within = h; some = k; left = refl }

module _ {arity : ℕ → ℕ} {c : List ℕ} {i m j places : ℕ} (s : Skipping arity c i m j places) where
  -- a place is open, so a mark is left
  pub skip_inside : 0 < places → j < length c
  skip_inside h = step (dec_lt j (length c))
    where
      step : Dec (j < length c) → j < length c
      step (yes l) = l
      step (no n) = let z : ⊥ = omega (arith, s.some, ap length (codes_past arity c j (omega arith))) in absurd z

  module _ (whole : Ends 1 (digits arity c)) (h : 0 < places) where
    skip-room : places - 1 + arity (get_or c j 0) ≤ length (codes arity (drop (suc j) c))
    skip-room =
        let l : j < length c = skip_inside h in
        omega (arith, s.some, ap length (codes_at arity c j l), length-drop (arity (get_or c j 0)) (codes arity (drop (suc j) c)), enough arity c whole j l)

    pub skip_few : places - 1 + arity (get_or c j 0) ≤ length c
    skip_few = omega (arith, skip-room, codes_few arity (drop (suc j) c), length-drop (suc j) c)

    -- it is filled, and others are opened
    pub skip-next : Skipping arity c i m (j + 1) (places - 1 + arity (get_or c j 0))
    skip-next =
        let l : j < length c = skip_inside h in
        let m : ℕ = get_or c j 0 in
        let k : ℕ = arity m in
        let D : List (List ℕ) = codes arity (drop (suc j) c) in
        let n : places ≡ suc (places - 1) = omega arith in
        let q : k + (places - 1) ≡ places - 1 + k = omega arith in
        rw add-one (record {
          from = s.from;
          within = l;
          some = skip-room;
          left =
              ap (λ (a : ℕ). drop a D) (sym q)
              ∙ sym (drop-drop (places - 1) k D)
              ∙ sym (ap (drop places) (codes_at arity c j l) ∙ ap (λ (a : ℕ). drop a ((m ∷ flatten (take k D)) ∷ drop k D)) n)
              ∙ s.left;
        })

  pub skip-last : places ≤ 0 → Skips arity c i m j
  skip-last h =
      let z : 0 ≡ places = omega arith in
      record { from = s.from; within = s.within; rest = ap (λ (a : ℕ). drop a (codes arity (drop j c))) z ∙ s.left }

flatten_drop : (n : ℕ) (l : List (List ℕ)) → flatten l ≡ flatten (take n l) ++ flatten (drop n l)
flatten_drop n l = ap flatten (sym (take-append-drop n l)) ∙ flatten_append (take n l) (drop n l)

module _ {arity : ℕ → ℕ} {c : List ℕ} {i m e : ℕ} (s : Skips arity c i m e) where
  -- the marks from i on: those of the codes passed, and those from e on
  split : drop i c ≡ flatten (take m (codes arity (drop i c))) ++ drop e c
  split =
      sym (flatten_codes arity (drop i c))
      ∙ flatten_drop m (codes arity (drop i c))
      ∙ ap (λ l. flatten (take m (codes arity (drop i c))) ++ l) (sym (ap flatten s.rest) ∙ flatten_codes arity (drop e c))

  gone : length (flatten (take m (codes arity (drop i c)))) + (length c - e) ≡ length c - i
  gone =
      let a = ap length split ∙ length-append (flatten (take m (codes arity (drop i c)))) (drop e c) in
      omega (arith, length-drop i c, length-drop e c)

  pub skips_after : i ≤ e
  skips_after = omega (arith, gone, s.from, s.within)

  pub skips_length : e ≡ i + length (flatten (take m (codes arity (drop i c))))
  skips_length = omega (arith, gone, s.from, s.within)

  pub skips_passed : part i e c ≡ flatten (take m (codes arity (drop i c)))
  skips_passed = ap (take (e - i)) split ∙ take_at (flatten (take m (codes arity (drop i c)))) (drop e c) (e - i) (omega (arith, skips_length))

  -- what is passed further
  pub skips_on : {n f : ℕ} → Skips arity c e n f → Skips arity c i (m + n) f
  skips_on {n} {f} t = record { from = s.from; within = t.within; rest = t.rest ∙ ap (drop n) s.rest ∙ drop-drop n m (codes arity (drop i c)) }

  -- what of more codes is left to pass
  pub skips_left : {n f : ℕ} → m ≤ n → Skips arity c i n f → Skips arity c e (n - m) f
  skips_left {n} {f} h t =
      let q : n ≡ m + (n - m) = omega arith in
      record {
        from = s.within;
        within = t.within;
        rest = t.rest ∙ ap (λ (a : ℕ). drop a (codes arity (drop i c))) q ∙ sym (drop-drop (n - m) m (codes arity (drop i c))) ∙ ap (drop (n - m)) (sym s.rest);
      }

-- one code
module _ {arity : ℕ → ℕ} {c : List ℕ} {x e : ℕ} (s : Skips arity c x 1 e) (h : x < length c) where
  -- it has a mark
  pub one-after : x < e
  unfolding flatten
  one-after = omega (arith, skips_length s, ap (λ (l : List (List ℕ)). length (flatten (take 1 l))) (codes_at arity c x h))

  pub one-part : codes arity (drop x c) ≡ part x e c ∷ codes arity (drop e c)
  unfolding flatten
  one-part =
      let m : ℕ = get_or c x 0 in
      let k : ℕ = arity m in
      let D : List (List ℕ) = codes arity (drop (suc x) c) in
      let p : part x e c ≡ m ∷ flatten (take k D) = skips_passed s ∙ ap (λ (l : List (List ℕ)). flatten (take 1 l)) (codes_at arity c x h) ∙ append-nil (m ∷ flatten (take k D)) in
      codes_at arity c x h ∙ ap₂ (λ (a : List ℕ) (b : List (List ℕ)). a ∷ b) (sym p) (sym (s.rest ∙ ap (drop 1) (codes_at arity c x h)))

  -- and behind it its children
  pub one-children : Skips arity c (suc x) (arity (get_or c x 0)) e
  one-children = record { from = h; within = s.within; rest = s.rest ∙ ap (drop 1) (codes_at arity c x h) }

-- digits in a list of their own: what they tell is told of the marks
module _ (arity : ℕ → ℕ) {ds : List ℕ} (c : List ℕ) (is : ds ≡ digits arity c) where
  from-digits : (i : ℕ) → codes plain (drop i ds) ≡ map (map arity) (codes arity (drop i c))
  from-digits i = ap (λ (d : List ℕ). codes plain (drop i d)) is ∙ ap (codes plain) (sym (map_drop arity i c)) ∙ codes-digits arity (drop i c)

  pub codes_many : (i : ℕ) → length (codes plain (drop i ds)) ≡ length (codes arity (drop i c))
  codes_many i = ap length (from-digits i) ∙ length-map (codes arity (drop i c)) (map arity)

  pub skips_marks : {i m e : ℕ} → Skips plain ds i m e → Skips arity c i m e
  skips_marks {i} {m} {e} s =
      let n : length ds ≡ length c = as_long arity c is in
      let X : List (List ℕ) = codes arity (drop i c) in
      let f : flatten (take m (codes plain (drop i ds))) ≡ map arity (flatten (take m X)) =
      ap (λ (l : List (List ℕ)). flatten (take m l)) (from-digits i) ∙ ap flatten (sym (map_take (map arity) m X)) ∙ sym (map_flatten arity (take m X)) in
      let k : e ≡ i + length (flatten (take m X)) = omega (arith, skips_length s, ap length f ∙ length-map (flatten (take m X)) arity) in
      record {
        from = omega (arith, s.from);
        within = omega (arith, s.within);
        rest =
            ap (λ (j : ℕ). codes arity (drop j c)) k
            ∙ ap (codes arity) (sym (drop-drop (length (flatten (take m X))) i c) ∙ ap (drop (length (flatten (take m X)))) (sym (flatten_codes arity (drop i c)) ∙ flatten_drop m X)
            ∙ drop_at (flatten (take m X)) (flatten (drop m X)) (length (flatten (take m X))) refl)
            ∙ codes-rest arity (drop i c) m;
      }
