-- Where row 13 applies there is a mark: a larger child's code begins within the code. Assumes nothing.
use Rattle.std.proofs.Common.{sym, ap, ◌∙◌, length-append, length-take, take-append-drop, drop-cons, take-take}
use mathlib.Core.List.{List, [], ◌∷◌, flatten}
use Prim.Native.Nat.{ℕ, zero, suc, ◌+◌, ◌≤◌, ◌<◌}
use native.Mathlib.Omega.{arith}
use Rattle.std.proofs.Math.ListN.{length, length-drop}
use Rattle.std.specs.Prelude.{get_or, take, drop}
use Rattle.std.proofs.Math.Seq.{get_or-drop}
use Rattle.digit_code.specs.document.Code.{digit, codes, child_codes, Larger}
use Rattle.digit_code.specs.Parts.{flatten_append, flatten_codes}

-- of lists one behind the other, the first n and one more that is not empty are no longer than all
one_more : (n : ℕ) (l : List (List ℕ)) → n < length l → 1 ≤ length (get_or l n []) → length (flatten (take n l)) + 1 ≤ length (flatten l)
unfolding flatten
one_more n l h s =
    let e = ap flatten (sym (take-append-drop n l)) ∙ flatten_append (take n l) (drop n l) in
    let d = ap flatten (drop-cons l n [] h) in
    omega (arith, ap length e, ap length d, length-append (flatten (take n l)) (flatten (drop n l)), length-append (get_or l n []) (flatten (drop (suc n) l)))

module _ (arity : ℕ → ℕ) where
  -- no code that marks make is empty
  codes_some : (ms : List ℕ) (i : ℕ) → i < length (codes arity ms) → 1 ≤ length (get_or (codes arity ms) i [])
  unfolding codes
  codes_some (m ∷ ms) zero h = omega arith
  codes_some (m ∷ ms) (suc i) h =
      let l : arity m + i < length (codes arity ms) = omega (arith, length-drop (arity m) (codes arity ms)) in
      rw get_or-drop (codes_some ms (arity m + i) l)
  -- of the codes behind mark v, the n-th of a mark's children begins within c
  codes_some [] i h = elim h [ ]

  begins_within : (c : List ℕ) (v k n : ℕ) → n < length (take k (codes arity (drop v c))) → v + 1 + length (flatten (take n (take k (codes arity (drop v c))))) ≤ length c
  begins_within c v k n h =
      let D = codes arity (drop v c) in
      let l : n < length D = omega (arith, length-take k D) in
      let e = ap (λ (x : List (List ℕ)). length (flatten x)) (take-take n k D (omega (arith, length-take k D))) in
      let m = one_more n D l (codes_some (drop v c) n l) in
      let d = ap length (flatten_codes arity (drop v c)) ∙ length-drop v c in
      omega arith

  pub larger_within : (c : List ℕ) (p : ℕ) → Larger arity c p → p ≤ length c
  unfolding child_codes
  larger_within c p x =
      omega (arith, x.child.begins, begins_within c x.parent (arity (digit c x.parent)) (suc x.child.before) x.child.siblings)
