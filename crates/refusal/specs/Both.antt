-- Laws of the calls that write a result in two parts, as `Giving` has them for one. What rests on `First` is in `proofs.Both`. Assumes nothing.
use Rattle.std.specs.Prelude.{◌≡◌, refl, List, [], ◌∷◌, ◌++◌, ℕ, ◌≤◌, length, take}
use Rattle.std.proofs.Common.{arith}
use Rattle.laws.specs.Laying.{laid-front}
use Rattle.refusal.specs.document.Table.{Row, Clear, FirstRefusal, gives, refuses, Promise, kept, left}
use Rattle.refusal.specs.document.Both.{TwoOutputs, WritesBoth, short_first, short_second, short_both, GivesBoth}
use Rattle.refusal.specs.Laws.{clear_one, clear_both, clear_left, refusal_front}

-- ---- it is one

-- ---- the promise kept

-- every right result has parts of n and m bytes
abbrev pub Sized : (List ℕ → List ℕ → Type 0) → ℕ → ℕ → Type 0
Sized Right n m = (c l : List ℕ) → Right c l → (length c ≡ n) × (length l ≡ m)

module _ (Right : List ℕ → List ℕ → Type 0) (old : TwoOutputs) {n m : ℕ} (sized : Sized Right n m) where
  pub first-room : n ≤ length old.0 → Clear (short_first Right old ∷ [])
  first-room h = clear_one {r = short_first Right old} (λ p (c, (l, r), (e, i)). let s = sized c l r in let z : ⊥ = omega (arith, s.0) in z)

  second-room : m ≤ length old.1 → Clear (short_second Right old ∷ [])
  second-room h = clear_one {r = short_second Right old} (λ p (l, (c, r), (e, i)). let s = sized c l r in let z : ⊥ = omega (arith, s.1) in z)

module _ {rs : List Row} {Right : List ℕ → List ℕ → Type 0} {old : TwoOutputs} where
  -- a refusal by one of rs
  pub both_first : {new : TwoOutputs} {k p : ℕ} → FirstRefusal rs k p → new ≡ old → GivesBoth rs Right old new (refuses k p)
  both_first l e = record { promise = left (refusal_front (short_both Right old) l) e }

  module _ (clear : Clear rs) {n m : ℕ} (sized : Sized Right n m) where
    -- both fit
    pub both-given : {new : TwoOutputs} → n ≤ length old.0 → m ≤ length old.1 → WritesBoth Right old n new → GivesBoth rs Right old new (gives n)
    both-given f h w = record { promise = kept (clear_both clear (clear_both (first-room Right old sized f) (second-room Right old sized h))) w }

-- ---- a part of a call that writes

-- ---- two calls in a row

-- what a call gave: no row refused, and what stands at the start of both outputs is right
pub gave_both :
    {rs : List Row} {Right : List ℕ → List ℕ → Type 0} {old new : TwoOutputs} {n : ℕ} → GivesBoth rs Right old new (gives n)
    → Clear rs × ((c l : List ℕ) × Right c l × (n ≡ length c) × (take (length c) new.0 ≡ c) × (take (length l) new.1 ≡ l))
gave_both {rs} {Right} {old} {new} {n} g = by_cases g.promise
  where
    by_cases : Promise (rs ++ short_both Right old) (WritesBoth Right old) old new (gives n)
        → Clear rs × ((c l : List ℕ) × Right c l × (n ≡ length c) × (take (length c) new.0 ≡ c) × (take (length l) new.1 ≡ l))
    by_cases (kept k w) = (
      clear_left rs (short_both Right old) k,
      (
        w.first,
        w.second,
        w.right,
        w.count,
        laid-front w.first old.0 new.0 (length w.first) w.first_lies refl,
        laid-front w.second old.1 new.1 (length w.second) w.second_lies refl,
      ),
    )

-- ---- what is told fits into bytes
