-- The definitions, run on figures of codes with letters. Assumes nothing.
use Rattle.std.specs.Prelude.{◌≡◌, refl, ℕ, zero, suc, ◌<◌}
use Rattle.std.proofs.Common.{inl, inr, ⊎_elim, arith}
use mathlib.Core.List.{List, [], ◌∷◌, flatten}
use Rattle.std.proofs.Math.Decide.{dec_lt, ℕ_discrete}
use Rattle.laws.specs.document.Order.{◌≽◌, dec≽, insert}
use Rattle.refusal.specs.document.Table.{FirstRefusal}
use Rattle.refusal.specs.Laws.{clear_one, refusal_front}
use Rattle.refusal.proofs.Laws.{first-place, refusal_back}
use Rattle.digit_code.specs.document.Code.{codes, row10}
use Rattle.skeleton.specs.document.Label.{digits, row20}
use Rattle.skeleton.specs.document.Atom.{bonds}
use Rattle.skeleton.specs.document.AtomMarks.{atoms}
use Rattle.form.specs.document.Labelled.{IsCentredₗ, Own}
use Rattle.skeleton.specs.document.Atom.{atom_of}
use Rattle.lettered_check.specs.document.Lettered.{marks_of}
use Rattle.lettered_check.specs.Rows.{lettered_rows}
use Rattle.centred_check.specs.Middle.{top, peak, second, heights, branch, rest, turned, other}
use Rattle.centred_check.specs.Theorems.{rooted-centredₗ}

-- 210110 CNCCCC and 211010 CCNCCC are the codes at the two middles of one skeleton
abbrev larger : List ℕ
larger = 6 ∷ 4 ∷ 0 ∷ 3 ∷ 3 ∷ 0 ∷ []

abbrev smaller : List ℕ
smaller = 6 ∷ 3 ∷ 4 ∷ 0 ∷ 3 ∷ 0 ∷ []

larger-marks : marks_of (2 ∷ 1 ∷ 0 ∷ 1 ∷ 1 ∷ 0 ∷ []) (67 ∷ 78 ∷ 67 ∷ 67 ∷ 67 ∷ 67 ∷ []) ≡ larger
unfolding marks_of atom_of ℕ_discrete
larger-marks = refl

smaller-marks : marks_of (2 ∷ 1 ∷ 1 ∷ 0 ∷ 1 ∷ 0 ∷ []) (67 ∷ 67 ∷ 78 ∷ 67 ∷ 67 ∷ 67 ∷ []) ≡ smaller
unfolding marks_of atom_of ℕ_discrete
smaller-marks = refl

other_of_larger : other atoms larger ≡ smaller
unfolding heights top peak dec_lt other branch turned rest codes flatten insert dec≽ ℕ_discrete
other_of_larger = refl

other_of_smaller : other atoms smaller ≡ larger
unfolding heights top peak dec_lt other branch turned rest codes flatten insert dec≽ ℕ_discrete
other_of_smaller = refl

-- the first is the centred code: its digits alone would not be a plain one
is_centred : Own atoms (IsCentredₗ atoms) larger
unfolding digits codes flatten heights top second dec_lt
is_centred =
    (rooted-centredₗ atoms larger tt ((inl (omega arith), tt), (tt, (tt, (tt, (tt, (tt, tt))))))).0
    (inr (refl, rw other_of_larger (inr (refl, inl (omega arith)))))

-- the second is 14
not_centred : Own atoms (IsCentredₗ atoms) smaller → ⊥
unfolding digits codes flatten heights top second dec_lt
not_centred o =
    ⊎_elim (λ e. omega arith) (λ e. beaten (rw other_of_smaller at e.1))
    ((rooted-centredₗ atoms smaller tt ((inr (refl, inl (omega arith)), tt), (tt, (tt, (tt, (tt, (tt, tt))))))).1 o)
  where
    beaten : smaller ≽ larger → ⊥
    beaten h = ⊎_elim (λ l. omega arith) (λ t. ⊎_elim (λ l. omega arith) (λ u. omega (arith, u.0)) t.1) h

-- 004 COC is 10 at 3
too_many : FirstRefusal (lettered_rows 4 (0 ∷ 0 ∷ 4 ∷ []) (67 ∷ 79 ∷ 67 ∷ [])) 10 3
too_many =
    refusal_front {xs = row10 4 (0 ∷ 0 ∷ 4 ∷ []) ∷ []} _ (first-place {r = row10 4 (0 ∷ 0 ∷ 4 ∷ [])} (omega arith, omega arith, omega arith) earlier)
  where
    earlier : (q : ℕ) → q < 3 → (row10 4 (0 ∷ 0 ∷ 4 ∷ [])).applies q → ⊥
    earlier zero l a = omega (arith, a.0)
    earlier (suc zero) l a = omega (arith, a.2)
    earlier (suc (suc zero)) l a = omega (arith, a.2)
    earlier (suc (suc (suc q))) l a = omega arith

-- 002 CCO is 20 at 3, and not 11
too_many_bonds : FirstRefusal (lettered_rows 4 (0 ∷ 0 ∷ 2 ∷ []) (67 ∷ 67 ∷ 79 ∷ [])) 20 3
unfolding marks_of atom_of ℕ_discrete
too_many_bonds =
    refusal_back {xs = row10 4 (0 ∷ 0 ∷ 2 ∷ []) ∷ []} (clear_one few)
    (refusal_front {xs = row20 atoms bonds (0 ∷ 0 ∷ 8 ∷ []) ∷ []} _
    (first-place {r = row20 atoms bonds (0 ∷ 0 ∷ 8 ∷ [])} (omega arith, omega arith, omega arith) earlier))
  where
    few : (q : ℕ) → (row10 4 (0 ∷ 0 ∷ 2 ∷ [])).applies q → ⊥
    few zero a = omega (arith, a.0)
    few (suc zero) a = omega (arith, a.2)
    few (suc (suc zero)) a = omega (arith, a.2)
    few (suc (suc (suc zero))) a = omega (arith, a.2)
    few (suc (suc (suc (suc q)))) a = omega (arith, a.1)

    earlier : (q : ℕ) → q < 3 → (row20 atoms bonds (0 ∷ 0 ∷ 8 ∷ [])).applies q → ⊥
    earlier zero l a = omega (arith, a.0)
    earlier (suc zero) l a = omega (arith, a.2)
    earlier (suc (suc zero)) l a = omega (arith, a.2)
    earlier (suc (suc (suc q))) l a = omega arith
