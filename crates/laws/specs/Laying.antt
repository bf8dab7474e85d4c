-- Laws of writing from the start of a lent output: none yet, one more, a loop that maps a list, and a further part.
-- Assumes nothing.
use Rattle.std.specs.Prelude.{◌≡◌, refl, List, [], ◌∷◌, ◌++◌, map, ℕ, ◌+◌, ◌-◌, ◌≤◌, ◌<◌, length, get_or, take, drop, set}
use Rattle.std.proofs.Common.{ap, ◌∙◌, append_assoc, append-nil, add-one, arith, length-set, length-append, length-take, drop_of_length-le, take-suc, take_all, take_at, drop_at, drop-drop}
use Rattle.std.proofs.lemmas.List.{map-append, length-map}
use borrow.Rule.Slice.PartMut.{mid_of, put_mid}
use Rattle.laws.specs.document.Laid.{laid_over}

pub laid_none : (old : List ℕ) → old ≡ laid_over [] old
unfolding laid_over
laid_none old = refl

-- what is written stands at the front
pub laid-front : (c old out : List ℕ) (n : ℕ) → out ≡ laid_over c old → length c ≡ n → take n out ≡ c
unfolding laid_over
laid-front c old out n e l = rw e (take_at c (drop (length c) old) n l)

laid-at : (c old : List ℕ) (b : ℕ) → length c < length old → set (laid_over c old) (length c) b ≡ laid_over (c ++ (b ∷ [])) old
unfolding laid_over
laid-at c [] b h = absurd (omega arith)
laid-at [] (y ∷ old) b h = refl
laid-at (x ∷ c) (y ∷ old) b h = ap (λ (l : List ℕ). x ∷ l) (laid-at c old b (omega arith))

-- one more number, behind the n that are written
pub laid_more :
    (c old out : List ℕ) (n b : ℕ) → out ≡ laid_over c old → length c ≡ n → n < length old → set out n b ≡ laid_over (c ++ (b ∷ [])) old
laid_more c old out n b q e h = rw (q, ← e) (laid-at c old b (omega arith))

-- A loop that writes what f maps each number of t to, one store a turn: before turn i.
pub record Mapped (f : ℕ → ℕ) (t old out : List ℕ) (i : ℕ) : Type 0 where
  pub within : i ≤ length t
  pub long : length out ≡ length old
  pub lies : out ≡ laid_over (map f (take i t)) old

module _ (f : ℕ → ℕ) (t old : List ℕ) (room : length t ≤ length old) where
  pub mapped-none : Mapped f t old old 0
  mapped-none = record { within = omega arith; long = refl; lies = laid_none old }

  pub mapped-more : {out : List ℕ} {i : ℕ} → Mapped f t old out i → i < length t → Mapped f t old (set out i (f (get_or t i 0))) (i + 1)
  mapped-more {out} {i} m h =
      let n : length (map f (take i t)) ≡ i = simp (length-map, length-take) (omega arith) in
      let e : map f (take (i + 1) t) ≡ map f (take i t) ++ (f (get_or t i 0) ∷ []) =
      rw (add-one, take-suc t i 0) (map-append f (take i t) (get_or t i 0 ∷ [])) in
      record {
        within = omega arith;
        long = simp length-set m.long;
        lies = rw e (laid_more (map f (take i t)) old out i (f (get_or t i 0)) m.lies n (omega arith));
      }

  pub mapped-all : {out : List ℕ} {i : ℕ} → Mapped f t old out i → length t ≤ i → out ≡ laid_over (map f t) old
  mapped-all {out} {i} m h = m.lies ∙ ap (λ (l : List ℕ). laid_over (map f l) old) (take_all i t h)

-- what a callee wrote from the start of `&mut out[n..]`, behind the n that are written
pub laid-part :
    (c old out ys : List ℕ) (n : ℕ) → out ≡ laid_over c old → length c ≡ n → n + length ys ≤ length old →
    put_mid n (length out - n) out (laid_over ys (mid_of n (length out - n) out)) ≡ laid_over (c ++ ys) old
unfolding laid_over
laid-part c old out ys n e l h =
    let d : List ℕ = drop (length c) old in
    let p : take n out ≡ c = rw e (take_at c d n l) in
    let q : drop n out ≡ d = rw e (drop_at c d n l) in
    let k : length d ≤ length out - n = omega (arith, simp length-append at (ap length e)) in
    let r : take (length out - n) (drop n out) ≡ d = ap (take (length out - n)) q ∙ take_all (length out - n) d k in
    let s : drop (length out - n) (drop n out) ≡ [] = ap (drop (length out - n)) q ∙ drop_of_length-le d k in
    rw (p, r, s) (simp (append-nil, append_assoc, drop-drop, length-append))
