-- A window onto bytes that are put one behind the other: what of them lies in what is lent. In order: what the window shows; bytes put
-- behind others; none yet; bytes behind bytes; what is taken of two lists. Assumes nothing.
use Rattle.std.specs.Prelude.{◌≡◌, refl, List, [], ◌∷◌, ◌++◌, ℕ, zero, suc, ◌-◌, ◌≤◌, min, length, take, drop}
use Rattle.std.proofs.Common.{sym, ap, ◌∙◌, append_assoc, arith, length-take, take_all}
use Rattle.std.proofs.Math.Nat.{zero-sub, sub-zero, suc-sub-suc}
use Rattle.std.proofs.Math.Decide.{dec_le}
use Rattle.std.proofs.Math.Seq.{take-nil, drop-nil}
use Rattle.laws.specs.document.Laid.{Laid}
use Rattle.laws.specs.Laying.{laid_none}

-- The bytes l were put, and what of them stands from byte `from` on lies in what is lent, as far as it has room: `done` bytes of them.
-- The window begins `skip` bytes behind the last of them.
pub record Shown (l : List ℕ) (from : ℕ) (old new : List ℕ) (skip done : ℕ) : Type 0 where
  pub laid : Laid (take (length old) (drop from l)) old new done
  pub ahead : skip ≡ from - length l

-- the bytes p are put behind whatever was put before
abbrev pub Puts : List ℕ → List ℕ → ℕ → ℕ → List ℕ → ℕ → ℕ → Type 0
Puts p out skip done out' skip' done' =
    (l old : List ℕ) (from : ℕ) → Shown l from old out skip done → Shown (l ++ p) from old out' skip' done'

pub shown-none : (from : ℕ) (old : List ℕ) → Shown [] from old old from 0
shown-none from old =
    let e : take (length old) (drop from []) ≡ [] = ap (take (length old)) (drop-nil from) ∙ take-nil (length old) in
    record { laid = record { count = ap length (sym e); lies = rw e (laid_none old) }; ahead = omega arith }

-- two, one behind the other
pub puts_then :
    {p q out₀ out₁ out₂ : List ℕ} {s₀ d₀ s₁ d₁ s₂ d₂ : ℕ} → Puts p out₀ s₀ d₀ out₁ s₁ d₁ → Puts q out₁ s₁ d₁ out₂ s₂ d₂
    → Puts (p ++ q) out₀ s₀ d₀ out₂ s₂ d₂
puts_then {p} {q} f g l old from h = rw (← append_assoc l p q) (g (l ++ p) old from (f l old from h))

module _ {A : Type 0} where
  drop_append : (n : ℕ) (x y : List A) → drop n (x ++ y) ≡ drop n x ++ drop (n - length x) y
  drop_append zero [] y = refl
  drop_append (suc n) [] y = rw (sub-zero (suc n))
  drop_append zero (a ∷ x) y = rw (zero-sub (length (a ∷ x)))
  drop_append (suc n) (a ∷ x) y = rw (suc-sub-suc n (length x)) (drop_append n x y)

  take_append : (n : ℕ) (x y : List A) → take n (x ++ y) ≡ take n x ++ take (n - length x) y
  take_append zero [] y = refl
  take_append (suc n) [] y = rw (sub-zero (suc n))
  take_append zero (a ∷ x) y = rw (zero-sub (length (a ∷ x)))
  take_append (suc n) (a ∷ x) y = rw (suc-sub-suc n (length x)) (ap (λ (l : List A). a ∷ l) (take_append n x y))

  -- what is taken is no more than there is
  pub take_least : (l : List A) (r k : ℕ) → k ≡ min r (length l) → take r l ≡ take k l
  take_least l r k e = go (dec_le r (length l))
    where
      go : Dec (r ≤ length l) → take r l ≡ take k l
      go (yes h) = let q : r ≡ k = omega arith in ap (λ (i : ℕ). take i l) q
      go (no h) = take_all r l (omega arith) ∙ sym (take_all k l (omega arith))

  -- what is taken of y is what there is room for behind what is taken of x
  pub window_append :
      (room from : ℕ) (x y : List A)
      → take room (drop from (x ++ y)) ≡ take room (drop from x) ++ take (room - length (take room (drop from x))) (drop (from - length x) y)
  window_append room from x y =
      let d : List A = drop (from - length x) y in
      let n : room - length (drop from x) ≡ room - length (take room (drop from x)) = simp length-take (omega arith) in
      ap (take room) (drop_append from x y)
      ∙ take_append room (drop from x) d
      ∙ ap (λ (i : ℕ). take room (drop from x) ++ take i d) n
