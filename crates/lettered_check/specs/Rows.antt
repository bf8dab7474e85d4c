-- Marks of digits and letters: that a right code is what the rows before 14 let pass, and the marks as a loop makes them. Assumes nothing.
use Rattle.std.specs.Prelude.{◌≡◌, refl, ◌↔◌, List, [], ◌∷◌, ◌++◌, ℕ, ◌+◌, ◌-◌, ◌*◌, ◌%◌, ◌≤◌, ◌<◌, length, get_or}
use Rattle.std.proofs.Common.{sym, ap, subst, ◌∙◌, arith}
use Rattle.std.proofs.lemmas.List.{length-map}
use Rattle.laws.specs.document.Laid.{laid_over}
use Rattle.laws.specs.document.Each.{Each}
use Rattle.laws.specs.Each.{each_of}
use Rattle.limits.specs.document.Limits.{size, valence}
use Rattle.refusal.specs.document.Table.{Row, Clear, row3}
use Rattle.refusal.specs.Checks.{Check, Answers, passes, fails}
use Rattle.refusal.specs.Laws.{refusal_front, never, others, clear_both, clear_right, size_clear}
use Rattle.refusal.proofs.Laws.{goes_on, refusal_behind}
use Rattle.digit_code.specs.document.Code.{cap, digit, row10}
use Rattle.digit_code.specs.Editions.{cap-rises, cap_most}
use Rattle.digit_code.specs.Digits as CodeSaid
use Rattle.digit_code.specs.Right.{Rightₗ}
use Rattle.skeleton.specs.document.Label.{digits, row20}
use Rattle.skeleton.specs.Label.{mark_rows}
use Rattle.skeleton.specs.document.Atom.{Atom, C, N, O, rank, named, bonds, atom_of}
use Rattle.skeleton.specs.document.AtomMarks.{atoms}
use Rattle.skeleton.specs.Accepted.{right_marks}
use Rattle.skeleton.specs.Atoms.{rank-named, rank-under}
use Rattle.lettered_check.specs.document.Lettered.{marks_of, named_digit_rows}
use Rattle.lettered_check.specs.Lettered.{length_marks, mark-at}
use Rattle.lettered_check.specs.declared.Caps.{Caps}
use Rattle.lettered_check.specs.declared.Caps.TheVariants.{High, Crowded, Kept}
use Rattle.form.specs.document.Labelled.{IsCentredₗ, row14ₗ}

-- what is refused of digits with their letters that are to be a centred code
abbrev pub lettered_rows : ℕ → List ℕ → List ℕ → List Row
lettered_rows R ds ls = named_digit_rows R ds (marks_of ds ls) ++ (row14ₗ atoms (IsCentredₗ atoms) (marks_of ds ls) ∷ [])

-- as many as the mark's atom allows
abbrev pub bonded : ℕ → ℕ
bonded m = bonds (atoms.atom m)

bonds_most : (a : Atom) → bonds a ≤ valence
bonds_most C = omega arith
bonds_most N = omega arith
bonds_most O = omega arith

-- the rows of marks, by the digits in a list of their own
two-rows : (R : ℕ) (ds c : List ℕ) → ds ≡ CodeSaid.digits atoms.arity c → named_digit_rows R ds c ≡ mark_rows atoms R bonds c
unfolding digits
two-rows R ds c e = ap (λ (d : List ℕ). named_digit_rows R d c) e

module _ {ds c : List ℕ} (e : ds ≡ CodeSaid.digits atoms.arity c) where
  passed : Rightₗ atoms.arity bonded size c ↔ Clear (row3 size (length c) ∷ named_digit_rows valence ds c)
  passed =
      subst (λ (rs : List Row). Rightₗ atoms.arity bonded size c ↔ Clear (row3 size (length c) ∷ rs)) (sym (two-rows valence ds c e))
      (right_marks atoms c size valence bonds bonds_most)

  -- a right code is what they let pass
  pub right_named : Rightₗ atoms.arity bonded size c → Clear (named_digit_rows valence ds c)
  right_named r = others (passed.0 r)

  pub named_right : 1 ≤ length ds → length ds ≤ size → Clear (named_digit_rows valence ds c) → Rightₗ atoms.arity bonded size c
  named_right l m k =
      let n : length ds ≡ length c = ap length e ∙ length-map c atoms.arity in
      passed.1 (clear_both {xs = row3 size (length c) ∷ []} (size_clear (omega arith) (omega arith)) k)

  -- where 20 does not apply, no atom's limit but the edition's is left to be looked at
  pub kept_right : Clear (row20 atoms bonds c ∷ []) → Rightₗ atoms.arity (λ m. valence) size c → Rightₗ atoms.arity bonded size c
  kept_right k r = record {
    some = r.some;
    few = r.few;
    small = λ p a b. let n : cap (bonded (digit c p)) p < atoms.arity (digit c p) → ⊥ = λ l. never k p (a, b, l) in omega arith;
    ends = r.ends;
    ordered = r.ordered;
  }

  pub bonded_right : Rightₗ atoms.arity bonded size c → Rightₗ atoms.arity (λ m. valence) size c
  bonded_right r = record {
    some = r.some;
    few = r.few;
    small = λ p a b. omega (arith, r.small p a b, cap-rises (bonds_most (atoms.atom (digit c p))) p);
    ends = r.ends;
    ordered = r.ordered;
  }

-- a table of which a row is known to apply answers for any that it begins
pub ends_there : {xs : List Row} (ys : List Row) {r : Check} → (Clear xs → ⊥) → Answers xs r → Answers (xs ++ ys) r
ends_there ys n (passes k) = absurd (n k)
ends_there ys n (fails l) = fails (refusal_front ys l)

-- and behind a clear one the rest answers
pub clear_on : {xs ys : List Row} {r : Check} → Clear xs → Answers ys r → Answers (xs ++ ys) r
clear_on k a = goes_on (passes k) refl a

-- what answers for rows behind clear ones answers for the rest
pub answers-behind : (xs ys : List Row) {r : Check} → Clear xs → Answers (xs ++ ys) r → Answers ys r
answers-behind xs ys k (passes c) = passes (clear_right xs ys c)
answers-behind xs ys k (fails l) = fails (refusal_behind xs ys k l)

-- ---- marks of digits and letters

-- what is written of the marks of ds and ls, and how the digits stand to their limits: row 10 applies to one, or row 20, or row 20 to none
pub record Made (ds ls old new : List ℕ) (r : Caps) : Type 0 where
  pub high : r ≡ High → Clear (row10 valence ds ∷ []) → ⊥
  pub crowded : r ≡ Crowded → (new ≡ laid_over (marks_of ds ls) old) × (Clear (row20 atoms bonds (marks_of ds ls) ∷ []) → ⊥)
  pub kept : r ≡ Kept → (new ≡ laid_over (marks_of ds ls) old) × Clear (row20 atoms bonds (marks_of ds ls) ∷ [])

-- each case is none of the others
pub is_high : {ds ls old new : List ℕ} → (Clear (row10 valence ds ∷ []) → ⊥) → Made ds ls old new High
is_high n = record {
  high = λ e. n;
  crowded = λ e. let z : ◌≡◌ {A = ℕ} 0 1 = cc in absurd (let x : ⊥ = omega arith in x);
  kept = λ e. let z : ◌≡◌ {A = ℕ} 0 1 = cc in absurd (let x : ⊥ = omega arith in x);
}

module _ {ds ls old new : List ℕ} (w : new ≡ laid_over (marks_of ds ls) old) where
  pub is_crowded : (Clear (row20 atoms bonds (marks_of ds ls) ∷ []) → ⊥) → Made ds ls old new Crowded
  is_crowded n = record {
    high = λ e. let z : ◌≡◌ {A = ℕ} 0 1 = cc in absurd (let x : ⊥ = omega arith in x);
    crowded = λ e. (w, n);
    kept = λ e. let z : ◌≡◌ {A = ℕ} 0 1 = cc in absurd (let x : ⊥ = omega arith in x);
  }

  pub is_kept : Clear (row20 atoms bonds (marks_of ds ls) ∷ []) → Made ds ls old new Kept
  is_kept k = record {
    high = λ e. let z : ◌≡◌ {A = ℕ} 0 1 = cc in absurd (let x : ⊥ = omega arith in x);
    crowded = λ e. let z : ◌≡◌ {A = ℕ} 0 1 = cc in absurd (let x : ⊥ = omega arith in x);
    kept = λ e. (w, k);
  }

-- a digit that is not above the edition's limit
abbrev pub Low : ℕ → Type 0
Low k = k ≤ valence

-- where row 10 applies to none, all are low
pub all-low : (ds : List ℕ) → Clear (row10 valence ds ∷ []) → Each Low ds
all-low ds k = each_of Low ds (λ i l. let e : i + 1 - 1 ≡ i = omega arith in
    let n : valence < get_or ds i 0 → ⊥ = λ h. never k (i + 1) (omega arith, omega arith, rw e (omega (arith, cap_most valence (i + 1)))) in
    omega arith)

-- what an atom allows by its rank
bonds-rank : (a : Atom) → bonds a ≡ 4 - rank a
bonds-rank C = refl
bonds-rank N = refl
bonds-rank O = refl

pub bonds_are : (m : ℕ) → 4 - m % 3 ≡ bonded m
bonds_are m = omega (arith, bonds-rank (named (m % 3)), rank-named (m % 3) (omega arith))

-- row 20 at a digit, by the rank r of its letter's atom
module _ (ds ls : List ℕ) (l : length ls ≡ length ds) (i : ℕ) (h : i < length ds) {r : ℕ} (q : r ≡ rank (atom_of (get_or ls i 0))) where
  marked : get_or (marks_of ds ls) i 0 ≡ 3 * get_or ds i 0 + r
  marked = omega (arith, mark-at ds ls i l h, q)

  abbrev Above : ℕ → Type 0
  Above x = cap (bonded (get_or (marks_of ds ls) x 0)) (i + 1) < atoms.arity (get_or (marks_of ds ls) x 0)

  here : Above i ↔ (cap (4 - r) (i + 1) < get_or ds i 0)
  here =
      let low : r < 3 = omega (arith, q, rank-under (atom_of (get_or ls i 0))) in
      let allowed : bonded (get_or (marks_of ds ls) i 0) ≡ 4 - r = omega (arith, bonds_are (get_or (marks_of ds ls) i 0), marked) in
      let same = ap (λ (x : ℕ). cap x (i + 1)) allowed in
      ((λ a. omega (arith, a, same, marked)), (λ a. omega (arith, a, same, marked)))

  place : i + 1 - 1 ≡ i
  place = omega arith

  pub above_applies : cap (4 - r) (i + 1) < get_or ds i 0 → (row20 atoms bonds (marks_of ds ls)).applies (i + 1)
  above_applies a = (omega arith, omega (arith, length_marks ds ls l), subst Above (sym place) (here.1 a))

  pub within_passes : (cap (4 - r) (i + 1) < get_or ds i 0 → ⊥) → (row20 atoms bonds (marks_of ds ls)).applies (i + 1) → ⊥
  within_passes n (a, b, z) = n (here.0 (subst Above place z))
