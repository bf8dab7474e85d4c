-- The edges and letters of a right code with letters: how many bytes they are. Assumes nothing.
use mathlib.Core.Path.{◌≡◌, refl, sym, ap, ◌∙◌, subst}
use mathlib.Core.List.{List, [], ◌++◌}
use Prim.Native.Nat.{ℕ, ◌-◌, ◌*◌, ◌≤◌}
use native.Mathlib.Omega.{arith}
use lib.ListN.{length, take, drop}
use lib.Seq.{take_all}
use Rattle.laws.specs.document.Laid.{laid_over, Laid}
use Rattle.refusal.specs.document.Table.{Row, Clear, Outcome, gives}
use Rattle.refusal.specs.document.Both.{TwoOutputs, GivesBoth}
use Rattle.refusal.specs.Both.{Sized, both-given}
use Rattle.refusal.proofs.Both.{both_behind}
use Rattle.digit_code.specs.document.Code.{decode}
use Rattle.digit_code.specs.Ends.{ends_sum}
use Rattle.texts.specs.Judging.{none}
use Rattle.zurkhovel.specs.Rooting.{EndsWhole}
use Rattle.zurkhovel.specs.Places.{edges-of}

-- what is copied lies at the start
pub copied : (s old : List ℕ) {new : List ℕ} → new ≡ take (length s) s ++ drop (length s) old → new ≡ laid_over s old
unfolding laid_over
copied s old e = e ∙ ap (λ (x : List ℕ). x ++ drop (length s) old) (take_all (length s) s (omega arith))

-- a code that ends has a digit
pub some_digit : (c : List ℕ) → EndsWhole c → 1 ≤ length c
some_digit c k = omega (arith, ends_sum 1 c k.0)

-- its edges are two bytes for each vertex but the root
pub edges-sized : (c s : List ℕ) → EndsWhole c → Sized (λ E l. (E ≡ decode c) × (l ≡ s)) (2 * (length c - 1)) (length s)
edges-sized c s k E l (e, f) = (ap length e ∙ edges-of c k.0, ap length f)

-- both are written
pub both-laid :
    (c s : List ℕ) → EndsWhole c → {old new : TwoOutputs} {n : ℕ} → 2 * (length c - 1) ≤ length old.0 → length s ≤ length old.1 → Laid (decode c) old.0 new.0 n
    → new.1 ≡ laid_over s old.1 → GivesBoth [] (λ E l. (E ≡ decode c) × (l ≡ s)) old new (gives n)
both-laid c s w {old} {new} {n} h i l e =
    let z = edges-sized c s w (decode c) s (refl, refl) in
    subst (λ m. GivesBoth [] (λ E l. (E ≡ decode c) × (l ≡ s)) old new (gives m)) (sym (l.count ∙ z.0))
    (both-given none (edges-sized c s w) h i (record { first = decode c; second = s; right = (refl, refl); count = sym z.0; first_lies = l.lies; second_lies = e }))

-- the edges and letters, written or found too long, answer for a table that is clear
pub decoded :
    {rs : List Row} (c s : List ℕ) {old new : TwoOutputs} {o : Outcome ℕ} → EndsWhole c → Clear rs → GivesBoth [] (λ E l. (E ≡ decode c) × (l ≡ s)) old new o
    → GivesBoth rs (λ E l. (E ≡ decode c) × (l ≡ s)) old new o
decoded c s w k g = both_behind k (edges-sized c s w) (λ E l h. h) g
