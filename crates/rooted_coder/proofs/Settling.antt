-- A part moved to its place: the parts before the place stay, those behind it change places with the new one, and their lengths with them.
-- Assumes nothing.
use mathlib.Core.Path.{◌≡◌, sym, ap, ap₂, subst, ◌∙◌}
use mathlib.Core.Logic.{⊎_elim}
use mathlib.Core.List.{List, [], ◌∷◌, ◌++◌, append_assoc, flatten}
use Prim.Native.Nat.{ℕ, ◌+◌, ◌-◌, ◌≤◌, ◌<◌}
use native.Mathlib.Nat.{add-zero}
use native.Mathlib.Omega.{arith}
use lib.ListN.{length, get_or, take, drop, length-append, take-append-drop, get_or-append}
use lib.Seq.{get_or-append-add, length-take-le, drop-drop}
use Rattle.laws.specs.Part.{part, part_length, part_join}
use Rattle.digit_code.specs.Parts.{flatten_append}
use Rattle.numbering.specs.Order.{place}
use Rattle.rooted_coder.specs.Ordered.{Heads, Standing, Spot, met, Exchanged, Waits, Settles}
use Rattle.rooted_coder.proofs.Copying.{part_at}
use Rattle.rooted_coder.proofs.Standing.{heads_join, heads_left, heads_right, heads_move}

-- nothing is exchanged where the first part is empty
pub idle : (s : List ℕ) (a m b : ℕ) → m ≤ a → Exchanged s a m b s
idle s a m b h p [] y z e k l n = e
idle s a m b h p (d ∷ x) y z e k l n = let w : ⊥ = omega arith in absurd w

-- what stands where, when two parts are exchanged
record Moved (s s' : List ℕ) (a m b : ℕ) : Type 0 where
  before : (i : ℕ) → i < a → get_or s' i 0 ≡ get_or s i 0
  second : (i : ℕ) → i < b - m → get_or s' (a + i) 0 ≡ get_or s (m + i) 0
  first : (i : ℕ) → i < m - a → get_or s' (a + (b - m) + i) 0 ≡ get_or s (a + i) 0
  behind : (i : ℕ) → b ≤ i → get_or s' i 0 ≡ get_or s i 0

-- the same by the lists' parts
at_third : (p x y : List ℕ) (n i : ℕ) → n ≡ length p + length x → get_or (p ++ (x ++ y)) (n + i) 0 ≡ get_or y i 0
at_third p x y n i e =
    ap (λ l. get_or l (n + i) 0) (sym (append_assoc p x y))
    ∙ ap (λ k. get_or ((p ++ x) ++ y) (k + i) 0) (e ∙ sym (length-append p x))
    ∙ get_or-append-add (p ++ x) y i 0

pub at_second : (p x y : List ℕ) (n i : ℕ) → n ≡ length p → i < length x → get_or (p ++ (x ++ y)) (n + i) 0 ≡ get_or x i 0
at_second p x y n i e h = ap (λ k. get_or (p ++ (x ++ y)) (k + i) 0) e ∙ get_or-append-add p (x ++ y) i 0 ∙ get_or-append x y 0 i h

module _ (p x y z : List ℕ) (a m b : ℕ) (lp : length p ≡ a) (lx : a + length x ≡ m) (ly : m + length y ≡ b) where
  at_fourth : (u v : List ℕ) (i : ℕ) → length u + length v ≡ b - a → b ≤ i → get_or (p ++ (u ++ (v ++ z))) i 0 ≡ get_or z (i - b) 0
  at_fourth u v i e h =
      let n : i ≡ b + (i - b) = omega arith in
      ap₂ (λ w j. get_or (p ++ w) j 0) (sym (append_assoc u v z)) n ∙ at_third p (u ++ v) z b (i - b) (rw length-append (omega arith))

  moved_parts : Moved (p ++ (x ++ (y ++ z))) (p ++ (y ++ (x ++ z))) a m b
  moved_parts = record {
    before = λ i j. get_or-append p (y ++ (x ++ z)) 0 i (omega arith) ∙ sym (get_or-append p (x ++ (y ++ z)) 0 i (omega arith));
    second = λ i j. at_second p y (x ++ z) a i (omega arith) (omega arith) ∙ sym (at_third p x (y ++ z) m i (omega arith) ∙ get_or-append y z 0 i (omega arith));
    first = λ i j.
        at_third p y (x ++ z) (a + (b - m)) i (omega arith) ∙ get_or-append x z 0 i (omega arith) ∙ sym (at_second p x (y ++ z) a i (omega arith) (omega arith));
    behind = λ i j. at_fourth y x i (omega arith) j ∙ sym (at_fourth x y i (omega arith) j);
  }

-- a list by two of its parts
split : (s : List ℕ) (a m b : ℕ) → a ≤ m → m ≤ b → s ≡ take a s ++ (part a m s ++ (part m b s ++ drop b s))
split s a m b h k =
    let e : a + (b - a) ≡ b = omega arith in
    sym (ap (λ w. take a s ++ w) (
    sym (append_assoc (part a m s) (part m b s) (drop b s))
    ∙ ap₂ (λ v w. v ++ w) (part_join a m b s h k) (sym (drop-drop (b - a) a s ∙ ap (λ i. drop i s) e))
    ∙ take-append-drop (b - a) (drop a s)
    ) ∙ take-append-drop a s)

moved : (s s' : List ℕ) (a m b : ℕ) → a ≤ m → m ≤ b → b ≤ length s → Exchanged s a m b s' → Moved s s' a m b
moved s s' a m b h k l e =
    let is = split s a m b h k in
    let lp : length (take a s) ≡ a = length-take-le a s (omega arith) in
    let lx : a + length (part a m s) ≡ m = omega (arith, part_length a m s (omega arith)) in
    let ly : m + length (part m b s) ≡ b = omega (arith, part_length m b s l) in
    let is' = e (take a s) (part a m s) (part m b s) (drop b s) is lp lx ly in
    let v = moved_parts (take a s) (part a m s) (part m b s) (drop b s) a m b lp lx ly in
    subst (λ u. Moved u s' a m b) (sym is) (subst (λ u. Moved (take a s ++ (part a m s ++ (part m b s ++ drop b s))) u a m b) (sym is') v)

module _ {s lens : List ℕ} {f m : ℕ} {p : List ℕ} {L : List (List ℕ)} {c q : List ℕ} (w : Waits s lens f m p L c q) where
  -- it is within the buffer
  pub room : m + length c ≤ length s
  room =
      let l : length s ≡ length p + (length (flatten L) + (length c + length q)) = ap length w.stand.whole ∙ simp length-append in
      omega (arith, w.stand.begins, w.stand.ends)

  pub standing : Standing s lens f m
  standing = record { before = p; parts = L; behind = c ++ q; stand = w.stand }

  -- the new part, where it stands
  new_part : (b : ℕ) → m + length c ≡ b → part m b s ≡ c
  new_part b h =
      let t = w.stand in
      let l : length (p ++ flatten L) ≡ m = rw length-append (omega (arith, t.begins, t.ends)) in
      ap (part m b) (t.whole ∙ sym (append_assoc p (flatten L) (c ++ q))) ∙ part_at (p ++ flatten L) c q m b l h

  settled : {k : List ℕ → List ℕ} {at n b : ℕ} {s' lens' : List ℕ} → m + length c ≡ b → b ≤ length lens → Spot k f L c at → n ≡ met k c L
      → Exchanged s at m b s' → Exchanged lens at m b lens' → Settles k lens s' lens' f m p L c q n
  unfolding flatten
  settled {k} {at} {n} {b} {s'} {lens'} h j u e x y =
      let t = w.stand in
      let front = u.front in
      let back = u.back in
      let flat : flatten (place k c L) ≡ flatten front ++ (c ++ flatten back) = ap flatten u.sorted ∙ flatten_append front (c ∷ back) in
      let parts : flatten L ≡ flatten front ++ flatten back = ap flatten u.parts ∙ flatten_append front back in
      let size : length (flatten L) ≡ length (flatten front) + length (flatten back) = ap length parts ∙ length-append (flatten front) (flatten back) in
      let size' : length (flatten (place k c L)) ≡ length (flatten front) + (length c + length (flatten back)) = ap length flat ∙ simp length-append in
      let here : s ≡ (p ++ flatten front) ++ (flatten back ++ (c ++ q)) = t.whole ∙ ap (λ l. p ++ (l ++ (c ++ q))) parts ∙ simp append_assoc in
      let regroup : (p ++ flatten front) ++ (c ++ (flatten back ++ q)) ≡ p ++ ((flatten front ++ (c ++ flatten back)) ++ q) = simp append_assoc in
      let a : length (p ++ flatten front) ≡ at = rw length-append (omega (arith, u.is, t.begins)) in
      let long : length c ≡ b - m = omega arith in
      let v : Moved lens lens' at m b = moved lens lens' at m b (omega (arith, u.is, t.ends)) (omega arith) j y in
      let heads : Heads lens f (front ++ back) = subst (Heads lens f) u.parts t.heads in
      let behind : Heads lens at back = subst (λ i. Heads lens i back) (sym u.is) (heads_right lens f front back heads) in
      let one : Heads lens' at (c ∷ back) = (
        ap (λ i. get_or lens' i 0) (sym (add-zero at)) ∙ v.second 0 (omega (arith, w.some)) ∙ ap (λ i. get_or lens i 0) (add-zero m) ∙ w.head,
        w.some,
        heads_move lens lens' at (at + length c) back (λ i l. ap (λ j. get_or lens' (at + j + i) 0) long ∙ v.first i (omega (arith, t.ends, u.is))) behind,
      ) in
      let all : Heads lens' f (front ++ (c ∷ back)) =
      heads_join lens' f front (c ∷ back) (heads_move lens lens' f f front (λ i l. v.before (f + i) (omega (arith, u.is))) (heads_left lens f front back heads))
      (subst (λ i. Heads lens' i (c ∷ back)) u.is one) in
      record {
        stand = record {
          whole = x (p ++ flatten front) (flatten back) c q here a (omega (arith, u.is, t.ends)) h ∙ regroup ∙ ap (λ l. p ++ (l ++ q)) (sym flat);
          begins = t.begins;
          ends = omega (arith, t.ends);
          heads = subst (Heads lens' f) (sym u.sorted) all;
        };
        kept = λ i o. ⊎_elim (λ l. v.before i (omega (arith, u.is))) (λ l. v.behind i (omega arith)) o;
        count = e;
      }

  -- where the place was found for the part as it stands
  pub settled_part : {k : List ℕ → List ℕ} {at n b : ℕ} {s' lens' : List ℕ} → b ≡ m + get_or lens m 0 → b ≤ length lens
      → Spot k f L (part m b s) at × (n ≡ met k (part m b s) L) → Exchanged s at m b s' → Exchanged lens at m b lens' → Settles k lens s' lens' f m p L c q n
  settled_part {k} {at} {n} {b} h j u x y =
      let e : m + length c ≡ b = omega (arith, w.head) in
      let is = new_part b e in
      settled e j (subst (λ d. Spot k f L d at) is u.0) (u.1 ∙ ap (λ d. met k d L) is) x y
