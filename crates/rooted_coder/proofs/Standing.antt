-- Parts that stand one behind the other, and their lengths: one more behind them, the first of them, and all moved to another place.
-- Assumes nothing.
use mathlib.Core.Path.{◌≡◌, refl, sym, ap, subst, ◌∙◌}
use mathlib.Core.List.{List, [], ◌∷◌, ◌++◌, append_assoc, append-nil, flatten}
use Prim.Native.Nat.{ℕ, ◌+◌, ◌≤◌, ◌<◌}
use native.Mathlib.Nat.{add-zero, add_assoc}
use native.Mathlib.Omega.{arith}
use lib.ListN.{length, get_or, length-append}
use Rattle.laws.specs.Part.{part}
use Rattle.digit_code.specs.Parts.{flatten_append}
use Rattle.rooted_coder.specs.Ordered.{Heads, Stand}
use Rattle.rooted_coder.proofs.Copying.{part_at}

pub flatten_one : (L : List (List ℕ)) (c : List ℕ) → flatten (L ++ (c ∷ [])) ≡ flatten L ++ c
unfolding flatten
flatten_one L c = flatten_append L (c ∷ []) ∙ ap (λ l. flatten L ++ l) (append-nil c)

pub length_one : (L : List (List ℕ)) (c : List ℕ) → length (flatten (L ++ (c ∷ []))) ≡ length (flatten L) + length c
length_one L c = ap length (flatten_one L c) ∙ length-append (flatten L) c

pub length_both : (K L : List (List ℕ)) → length (flatten (K ++ L)) ≡ length (flatten K) + length (flatten L)
length_both K L = ap length (flatten_append K L) ∙ length-append (flatten K) (flatten L)

pub length_first : (c : List ℕ) (L : List (List ℕ)) → length (flatten (c ∷ L)) ≡ length c + length (flatten L)
unfolding flatten
length_first c L = length-append c (flatten L)

-- the first of some parts
pub record First (L : List (List ℕ)) : Type 0 where
  pub first : List ℕ
  pub others : List (List ℕ)
  pub is : L ≡ first ∷ others

pub first_of : (L : List (List ℕ)) → 0 < length (flatten L) → First L
unfolding flatten
first_of [] h = let z : ⊥ = omega arith in absurd z
first_of (c ∷ L) h = record { first = c; others = L; is = refl }

-- parts that have no places are none
pub empty : (lens : List ℕ) (x : ℕ) (l : List (List ℕ)) → length (flatten l) ≡ 0 → Heads lens x l → l ≡ []
empty lens x [] e h = refl
empty lens x (d ∷ l) e h = let z : ⊥ = omega (arith, length_first d l, h.1) in absurd z

module _ (lens : List ℕ) where
  -- the lengths of parts and of further parts behind them
  pub heads_join : (x : ℕ) (K L : List (List ℕ)) → Heads lens x K → Heads lens (x + length (flatten K)) L → Heads lens x (K ++ L)
  unfolding flatten
  heads_join x [] L h k = subst (λ i. Heads lens i L) (omega arith) k
  heads_join x (c ∷ K) L h k =
      let e : x + length (c ++ flatten K) ≡ x + length c + length (flatten K) = rw length-append (omega arith) in
      (h.0, h.1, heads_join (x + length c) K L h.2 (subst (λ i. Heads lens i L) e k))

  pub heads_left : (x : ℕ) (K L : List (List ℕ)) → Heads lens x (K ++ L) → Heads lens x K
  heads_left x [] L h = tt
  heads_left x (c ∷ K) L h = (h.0, h.1, heads_left (x + length c) K L h.2)

  pub heads_right : (x : ℕ) (K L : List (List ℕ)) → Heads lens x (K ++ L) → Heads lens (x + length (flatten K)) L
  unfolding flatten
  heads_right x [] L h = subst (λ i. Heads lens i L) (omega arith) h
  heads_right x (c ∷ K) L h =
      let e : x + length c + length (flatten K) ≡ x + length (c ++ flatten K) = rw length-append (omega arith) in
      subst (λ i. Heads lens i L) e (heads_right (x + length c) K L h.2)

  -- the same lengths at another place
  pub heads_move : (lens' : List ℕ) (x y : ℕ) (L : List (List ℕ)) → ((i : ℕ) → i < length (flatten L) → get_or lens' (y + i) 0 ≡ get_or lens (x + i) 0)
      → Heads lens x L → Heads lens' y L
  unfolding flatten
  heads_move lens' x y [] e h = tt
  heads_move lens' x y (c ∷ L) e h =
      let long = length-append c (flatten L) in
      let k = h.1 in
      let here : get_or lens' y 0 ≡ get_or lens x 0 = ap (λ i. get_or lens' i 0) (sym (add-zero y)) ∙ e 0 (omega arith) ∙ ap (λ i. get_or lens i 0) (add-zero x) in (
        here ∙ h.0,
        k,
        heads_move lens' (x + length c) (y + length c) L (λ i l.
            ap (λ n. get_or lens' n 0) (add_assoc y (length c) i) ∙ e (length c + i) (omega arith) ∙ ap (λ n. get_or lens n 0) (sym (add_assoc x (length c) i))) h.2,
      )

-- one of the parts, where it stands
pub middle-part : {s : List ℕ} (p q : List ℕ) (K L : List (List ℕ)) (c : List ℕ) (x y : ℕ) → s ≡ p ++ (flatten (K ++ (c ∷ L)) ++ q)
    → length p + length (flatten K) ≡ x → x + length c ≡ y → part x y s ≡ c
unfolding flatten
middle-part p q K L c x y e h k =
    let regroup : p ++ ((flatten K ++ (c ++ flatten L)) ++ q) ≡ (p ++ flatten K) ++ (c ++ (flatten L ++ q)) = simp append_assoc in
    ap (part x y) (e ∙ ap (λ l. p ++ (l ++ q)) (flatten_append K (c ∷ L)) ∙ regroup)
    ∙ part_at (p ++ flatten K) c (flatten L ++ q) x y (rw length-append h) k

-- the parts are within the buffer
pub within : {s lens : List ℕ} {x y : ℕ} {p : List ℕ} {L : List (List ℕ)} {q : List ℕ} → Stand s lens x y p L q → y ≤ length s
within {s} {p = p} {L = L} {q = q} t =
    let l : length p + (length (flatten L) + length q) ≡ length s = sym (ap length t.whole ∙ simp length-append) in
    omega (arith, t.begins, t.ends)
