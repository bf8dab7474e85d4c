-- A part of a list from a place to a place, as the code hands it on: `&s[a..e]` holds `part a e s`. Assumes nothing.
use Rattle.std.specs.Prelude.{◌≡◌, List, [], ◌∷◌, ◌++◌, ℕ, suc, ◌+◌, ◌-◌, ◌≤◌, ◌<◌, length, get_or, take, drop}
use Rattle.std.proofs.Common.{sym, ap, ap₂, ◌∙◌, arith, length-drop, drop-cons, drop-drop, take-add, length-take-le}
use Rattle.std.proofs.Math.Nat.{sub_self}

module _ {A : Type 0} where
  abbrev pub part : ℕ → ℕ → List A → List A
  part a e l = take (e - a) (drop a l)

  pub part_none : (a : ℕ) (l : List A) → part a a l ≡ []
  part_none a l = ap (λ (n : ℕ). take n (drop a l)) (sub_self a)

  pub part_cons : (a e : ℕ) (l : List A) (d : A) → a < e → a < length l → part a e l ≡ get_or l a d ∷ part (suc a) e l
  part_cons a e l d h k =
      let n : e - a ≡ suc (e - suc a) = omega arith in
      ap₂ take n (drop-cons l a d k)

  pub part_length : (a e : ℕ) (l : List A) → e ≤ length l → length (part a e l) ≡ e - a
  part_length a e l h = length-take-le (e - a) (drop a l) (rw length-drop (omega arith))

  -- two parts, the second where the first ends
  pub part_join : (a b e : ℕ) (l : List A) → a ≤ b → b ≤ e → part a b l ++ part b e l ≡ part a e l
  part_join a b e l h k =
      let n : e - a ≡ (b - a) + (e - b) = omega arith in
      let m : a + (b - a) ≡ b = omega arith in
      sym (ap (λ (i : ℕ). take i (drop a l)) n ∙ take-add (b - a) (e - b) (drop a l) ∙ ap (λ (r : List A). part a b l ++ take (e - b) r) (drop-drop (b - a) a l ∙ ap (λ (i : ℕ). drop i l) m))
