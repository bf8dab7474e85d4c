-- "A place is always below 256": so number, place and list are read back from the whole number, and two answers never pack alike.
--
-- In order: a refusal taken apart; the answer of a call that writes or only checks, the verdict, the answer of a call on maps, and of a call that is asked for a
-- value; what a C function promises, of the answer that is read back. Assumes nothing.
use Rattle.std.specs.Prelude.{◌≡◌, refl, true, false, ℕ, ◌+◌, ◌*◌, ◌/◌, ◌≤◌, ◌<◌, eqb}
use Rattle.std.proofs.Common.{sym, ap, ap₂, subst, ◌∙◌, inl, inr, arith}
use Rattle.std.proofs.Math.Logic.{ite, if_pos, if_neg}
use Rattle.std.proofs.Math.Decide.{dec_lt, ℕ_discrete}
use Rattle.refusal.specs.document.Table.{OutcomeOf, Outcome, gives, refuses}
use Rattle.refusal.specs.document.Small.{byte_values, Small, SmallOf, SmallAnswer, SmallRefusal}
use Rattle.zurkhovel.specs.document.Same.{Finding}
use Rattle.zurkhovel.specs.document.Maps.{MapOutcome}
use Rattle.packing.specs.document.Packing.{packed, truth, with_list, held, number_in, place_in, list_in, unpacked, unpacked_finding, unpacked_mapping, unpacked_value, PackedAnswer, PackedFinding, PackedMapping, PackedValue}

-- ---- a refusal taken apart

number-back : (k p : ℕ) → k < byte_values → p < byte_values → number_in (byte_values * k + p) ≡ k
number-back k p a b = omega arith

place-back : (k p : ℕ) → p < byte_values → place_in (byte_values * k + p) ≡ p
place-back k p b = omega arith

-- below 256 there is no refusal
below : {A : Type 0} (x y : A) (r : ℕ) → r < byte_values → ite (dec_lt r byte_values) x y ≡ x
below x y r l = step (dec_lt r byte_values)
  where
    step : (d : Dec (r < byte_values)) → ite d x y ≡ x
    step (yes h) = refl
    step (no n) = absurd (n l)

-- from 256 on there is
above : {A : Type 0} (x y : A) (r : ℕ) → byte_values ≤ r → ite (dec_lt r byte_values) x y ≡ y
above x y r l = step (dec_lt r byte_values)
  where
    step : (d : Dec (r < byte_values)) → ite d x y ≡ y
    step (yes h) = let z : ⊥ = omega arith in absurd z
    step (no n) = refl

-- ---- each kind of answer

pub answer_back : (o : Outcome ℕ) → SmallAnswer o → unpacked (packed (λ k. k) (λ n. n) o) ≡ o
answer_back (gives n) s = below (gives n) (refuses (number_in n) (place_in n)) n s
answer_back (refuses k p) ((a, b), l) =
    let r : ℕ = byte_values * k + p in
    above (gives r) (refuses (number_in r) (place_in r)) r (omega arith) ∙ ap₂ refuses (number-back k p b l) (place-back k p l)

pub value-back : {A : Type 0} (o : Outcome A) (old : A) → SmallRefusal o → unpacked_value (packed (λ k. k) (λ a. 0) o) (held old o) ≡ o
value-back (gives a) old s = below (gives a) (refuses 0 0) 0 (omega arith)
value-back (refuses k p) old ((a, b), l) =
    let r : ℕ = byte_values * k + p in
    above (gives old) (refuses (number_in r) (place_in r)) r (omega arith) ∙ ap₂ refuses (number-back k p b l) (place-back k p l)

-- a refusal belongs to one of at most so many lists, or to none
pub few_lists : {most i k : ℕ} → SmallOf most (i, k) → i ≤ most
few_lists (inl (z, n)) = omega arith
few_lists (inr (x, n, m)) = omega arith

-- 22 is not one of the lists', and any other number is
told_22 : (n x : ℕ) → n ≡ 22 → ite (ℕ_discrete n 22) 0 x ≡ 0
told_22 n x e = if_pos {C = ℕ} (ℕ_discrete n 22) e 0 x

told-other : (n x : ℕ) → (n ≡ 22 → ⊥) → ite (ℕ_discrete n 22) 0 x ≡ x
told-other n x m = if_neg {C = ℕ} (ℕ_discrete n 22) m 0 x

-- one of several lists, where v is read of a success
list_back :
    {A : Type 0} (v : ℕ → A) (most i k p : ℕ) → most ≤ 3 → SmallOf most (i, k) → p < byte_values
    → let r : ℕ = byte_values * with_list (i, k) + p in ◌≡◌ {A = OutcomeOf (ℕ × ℕ) A} (ite (dec_lt r byte_values) (gives (v r)) (refuses (list_in r, number_in r) (place_in r))) (refuses (i, k) p)
list_back v most i k p t (inl (z, n)) l =
    let r : ℕ = byte_values * with_list (i, k) + p in
    let number : number_in r ≡ k = omega arith in
    let list : list_in r ≡ i = told_22 (number_in r) _ (number ∙ n) ∙ sym z in
    let place : place_in r ≡ p = omega arith in
    above (gives (v r)) (refuses (list_in r, number_in r) (place_in r)) r (omega arith) ∙ ap₂ refuses (ap₂ (λ (x y : ℕ). (x, y)) list number) place
list_back v most i k p t (inr ((x, y), (a, b), n)) l =
    let r : ℕ = byte_values * with_list (i, k) + p in
    let number : number_in r ≡ k = omega arith in
    let list : list_in r ≡ i = told-other (number_in r) _ (λ e. n (sym number ∙ e)) ∙ (let q : r / (byte_values * byte_values) + 1 ≡ i = omega arith in q) in
    let place : place_in r ≡ p = omega arith in
    above (gives (v r)) (refuses (list_in r, number_in r) (place_in r)) r (omega arith) ∙ ap₂ refuses (ap₂ (λ (x y : ℕ). (x, y)) list number) place

pub finding_back : (o : Finding) → Small (SmallOf 2) (λ b. Unit {0}) o → unpacked_finding (packed with_list truth o) ≡ o
finding_back (gives true) s = below (gives true) (refuses (list_in 1, number_in 1) (place_in 1)) 1 (omega arith)
finding_back (gives false) s = below (gives false) (refuses (list_in 0, number_in 0) (place_in 0)) 0 (omega arith)
finding_back (refuses (i, k) p) (d, l) = list_back (λ r. eqb r 1) 2 i k p (omega arith) d l

pub mapping_back : (o : MapOutcome) → Small (SmallOf 3) (λ n. n < byte_values) o → unpacked_mapping (packed with_list (λ n. n) o) ≡ o
mapping_back (gives n) s = below (gives n) (refuses (list_in n, number_in n) (place_in n)) n s
mapping_back (refuses (i, k) p) (d, l) = list_back (λ r. r) 3 i k p (omega arith) d l

-- ---- what a C function promises, of the answer that is read back

pub answer-read : {P : Outcome ℕ → Type 0} {r : ℕ} → ((o : Outcome ℕ) → P o → SmallAnswer o) → PackedAnswer P r → P (unpacked r)
answer-read {P} s (o, x, e) = subst P (sym (ap unpacked e ∙ answer_back o (s o x))) x

pub finding_read :
    {P : Finding → Type 0} {r : ℕ} → ((o : Finding) → P o → Small (SmallOf 2) (λ b. Unit {0}) o) → PackedFinding P r → P (unpacked_finding r)
finding_read {P} s (o, x, e) = subst P (sym (ap unpacked_finding e ∙ finding_back o (s o x))) x

pub mapping_read :
    {P : MapOutcome → Type 0} {r : ℕ} → ((o : MapOutcome) → P o → Small (SmallOf 3) (λ n. n < byte_values) o) → PackedMapping P r → P (unpacked_mapping r)
mapping_read {P} s (o, x, e) = subst P (sym (ap unpacked_mapping e ∙ mapping_back o (s o x))) x

pub value_read :
    {A : Type 0} {P : Outcome A → Type 0} {old new : A} {r : ℕ} → ((o : Outcome A) → P o → SmallRefusal o) → PackedValue P old new r
    → P (unpacked_value r new)
value_read {P = P} {old} s (o, x, e, f) = subst P (sym (ap₂ unpacked_value e f ∙ value-back o old (s o x))) x
