-- A part of a list copied into another, and two neighbouring parts exchanged by three such copies. Assumes nothing.
use mathlib.Core.Path.{◌≡◌, refl, sym, ap, ap₂, ◌∙◌}
use mathlib.Core.List.{List, [], ◌++◌, append_assoc, append-nil}
use Prim.Native.Nat.{ℕ, ◌+◌, ◌-◌, ◌≤◌}
use native.Mathlib.Omega.{arith}
use lib.ListN.{length, take, drop, length-append, drop_of_length-le}
use lib.Seq.{take_at, drop_at, drop-drop, take-length}
use borrow.Rule.Slice.PartMut.{put_mid, mid_of, Post-is, mid_len}
use Rattle.laws.specs.Part.{part, part_length}
use Rattle.rooted_coder.specs.Ordered.{Exchanged}

pub part_at : (p x q : List ℕ) (a e : ℕ) → length p ≡ a → a + length x ≡ e → part a e (p ++ (x ++ q)) ≡ x
part_at p x q a e h k = rw (drop_at p (x ++ q) a h) (take_at x q (e - a) (omega arith))

-- what a copy into a part leaves in the whole
pub transferred : (src dst new : List ℕ) (a e at : ℕ) → a ≤ e → e ≤ length src → at + (e - a) ≤ length dst
    → new ≡ take (length (part a e src)) (part a e src) ++ drop (length (part a e src)) (mid_of at (at + (e - a) - at) dst)
    → put_mid at (at + (e - a) - at) dst new ≡ take at dst ++ (part a e src ++ drop (at + (e - a)) dst)
transferred src dst new a e at h k l n =
    let long : length (part a e src) ≡ e - a = part_length a e src k in
    let mid : length (mid_of at (at + (e - a) - at) dst) ≡ at + (e - a) - at = mid_len at (at + (e - a)) dst l in
    let none : drop (length (part a e src)) (mid_of at (at + (e - a) - at) dst) ≡ [] = drop_of_length-le (mid_of at (at + (e - a) - at) dst) {i = length (part a e src)} (omega arith) in
    let is : new ≡ part a e src = n ∙ ap₂ (λ x y. x ++ y) (take-length (part a e src)) none ∙ append-nil (part a e src) in
    ap₂ (λ x y. take at dst ++ (x ++ y)) is (Post-is at (at + (e - a)) dst (omega arith))

module _ (s held held1 s1 s2 : List ℕ) (a m b : ℕ) (h : a ≤ m) (k : m ≤ b)
    (first : held1 ≡ take 0 held ++ (part a b s ++ drop (0 + (b - a)) held))
    (next : s1 ≡ take a s ++ (part (m - a) (b - a) held1 ++ drop (a + (b - a - (m - a))) s))
    (last : s2 ≡ take (a + (b - m)) s1 ++ (part 0 (m - a) held1 ++ drop (a + (b - m) + (m - a - 0)) s1)) where
  pub exchanged : Exchanged s a m b s2
  exchanged p x y z e ep ex ey =
      let rest = drop (0 + (b - a)) held in
      let both : part a b s ≡ x ++ y = ap (part a b) (e ∙ ap (λ l. p ++ l) (sym (append_assoc x y z))) ∙ part_at p (x ++ y) z a b ep (rw length-append (omega arith)) in
      let held-is : held1 ≡ x ++ (y ++ rest) = first ∙ ap (λ l. l ++ rest) both ∙ append_assoc x y rest in
      let y-is : part (m - a) (b - a) held1 ≡ y = ap (part (m - a) (b - a)) held-is ∙ part_at x y rest (m - a) (b - a) (omega arith) (omega arith) in
      let x-is : part 0 (m - a) held1 ≡ x = ap (part 0 (m - a)) held-is ∙ part_at [] x (y ++ rest) 0 (m - a) refl (omega arith) in
      let front : take a s ≡ p = ap (take a) e ∙ take_at p (x ++ (y ++ z)) a ep in
      let tail = drop (a + (b - a - (m - a))) s in
      let s1-is : s1 ≡ (p ++ y) ++ tail = next ∙ ap₂ (λ l r. l ++ (r ++ tail)) front y-is ∙ sym (append_assoc p y tail) in
      let long : length (p ++ y) ≡ a + (b - m) = rw length-append (omega arith) in
      let front1 : take (a + (b - m)) s1 ≡ p ++ y = ap (take (a + (b - m))) s1-is ∙ take_at (p ++ y) tail (a + (b - m)) long in
      let all : length (p ++ (x ++ y)) ≡ a + (b - a - (m - a)) + (m - a - 0) = rw (length-append, length-append) (omega arith) in
      let behind : drop (a + (b - m) + (m - a - 0)) s1 ≡ z =
      sym (drop-drop (m - a - 0) (a + (b - m)) s1)
      ∙ ap (drop (m - a - 0)) (ap (drop (a + (b - m))) s1-is ∙ drop_at (p ++ y) tail (a + (b - m)) long)
      ∙ drop-drop (m - a - 0) (a + (b - a - (m - a))) s
      ∙ ap (drop (a + (b - a - (m - a)) + (m - a - 0))) (e ∙ simp (← append_assoc))
      ∙ drop_at (p ++ (x ++ y)) z (a + (b - a - (m - a)) + (m - a - 0)) all in
      last ∙ ap₂ (λ l r. l ++ r) front1 (ap₂ (λ l r. l ++ r) x-is behind) ∙ append_assoc p y (x ++ z)
