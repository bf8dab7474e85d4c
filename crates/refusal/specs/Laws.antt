-- Laws of refusal tables, once for every call.
--
-- In order: one answer, and one result with one state of what was lent; a table of one row; tables one behind the other; how an answer of one check becomes an answer of
-- the whole; tables that apply alike; rows under other names; row 3. Calls that write are in `Giving`. What rests on `First` is in `proofs.Laws`. Assumes nothing.
use Rattle.std.specs.Prelude.{◌≡◌, refl, ◌⊎◌, ◌↔◌, List, [], ◌∷◌, ◌++◌, map, ℕ, ◌≤◌, ◌<◌, Ok, Err}
use Rattle.std.proofs.Common.{sym, ap, ◌∙◌, subst, inl, inr, ⊎_elim, arith}
use Rattle.refusal.specs.declared.Refusal.{Refusal}
use Rattle.refusal.specs.Checks.{Check, Answers, passes, fails}
use Rattle.refusal.specs.document.Outcome.{told, unwritten}
use Rattle.refusal.specs.document.Table.{RowOf, Row, renamed, of_list, Applies, Clear, First, FirstRefusal, Outcome, Answered, kept, left, row3}

-- ---- one answer

first_applies : {K : Type 0} (rs : List (RowOf K)) (k : K) (p : ℕ) → First rs k p → Applies rs k p
first_applies (r ∷ rs) k p (inl a) = inl (a.0, a.1)
first_applies (r ∷ rs) k p (inr a) = inr (first_applies rs k p a.1)
-- what refuses applies
first_applies {K = K} [] k p x' = elim x' [ ]

pub applied : {K : Type 0} {rs : List (RowOf K)} {k : K} {p : ℕ} → FirstRefusal rs k p → Applies rs k p
applied {rs = rs} {k} {p} l = first_applies rs k p l.is

-- a table is clear, or refuses
pub not_both : {K A : Type 0} {rs : List (RowOf K)} {k : K} {p : ℕ} → Clear rs → FirstRefusal rs k p → A
not_both {k = k} {p} c l = absurd (c.nowhere k p (applied l))

-- ---- a table of one row

module _ {K : Type 0} {r : RowOf K} where
  pub clear_one : ((p : ℕ) → r.applies p → ⊥) → Clear (r ∷ [])
  clear_one f = record { nowhere = λ k p a. ⊎_elim (λ h. f p h.1) (λ n. n) a }

-- ---- tables one behind the other

module _ {K : Type 0} where
  applies_left : (xs ys : List (RowOf K)) (k : K) (p : ℕ) → Applies xs k p → Applies (xs ++ ys) k p
  applies_left (r ∷ xs) ys k p (inl h) = inl h
  applies_left (r ∷ xs) ys k p (inr h) = inr (applies_left xs ys k p h)
  applies_left [] ys k p x' = elim x' [ ]

  applies_right : (xs ys : List (RowOf K)) (k : K) (p : ℕ) → Applies ys k p → Applies (xs ++ ys) k p
  applies_right [] ys k p h = h
  applies_right (r ∷ xs) ys k p h = inr (applies_right xs ys k p h)

  applies_either : (xs ys : List (RowOf K)) (k : K) (p : ℕ) → Applies (xs ++ ys) k p → Applies xs k p ⊎ Applies ys k p
  applies_either [] ys k p h = inr h
  applies_either (r ∷ xs) ys k p (inl h) = inl (inl h)
  applies_either (r ∷ xs) ys k p (inr h) = ⊎_elim (λ a. inl (inr a)) (λ b. inr b) (applies_either xs ys k p h)

  pub clear_both : {xs ys : List (RowOf K)} → Clear xs → Clear ys → Clear (xs ++ ys)
  clear_both {xs} {ys} c d = record { nowhere = λ k p a. ⊎_elim (c.nowhere k p) (d.nowhere k p) (applies_either xs ys k p a) }

  pub clear_left : (xs ys : List (RowOf K)) → Clear (xs ++ ys) → Clear xs
  clear_left xs ys c = record { nowhere = λ k p a. c.nowhere k p (applies_left xs ys k p a) }

  pub clear_right : (xs ys : List (RowOf K)) → Clear (xs ++ ys) → Clear ys
  clear_right xs ys c = record { nowhere = λ k p a. c.nowhere k p (applies_right xs ys k p a) }

  -- of a clear table, the first row applies nowhere
  pub never : {r : RowOf K} {rs : List (RowOf K)} → Clear (r ∷ rs) → (p : ℕ) → r.applies p → ⊥
  never {r} c p h = c.nowhere r.number p (inl (refl, h))

  -- and the others are clear
  pub others : {r : RowOf K} {rs : List (RowOf K)} → Clear (r ∷ rs) → Clear rs
  others c = record { nowhere = λ k p a. c.nowhere k p (inr a) }

-- ---- an answer of one check as an answer of the whole

module _ {K : Type 0} (k : K) (p : ℕ) where
  first-front : (xs ys : List (RowOf K)) → First xs k p → First (xs ++ ys) k p
  first-front (r ∷ xs) ys (inl h) = inl h
  first-front (r ∷ xs) ys (inr h) = inr (h.0, first-front xs ys h.1)
  first-front [] ys x' = elim x' [ ]

module _ {K : Type 0} {k : K} {p : ℕ} where
  -- a refusal by the front of the table is the table's
  pub refusal_front : {xs : List (RowOf K)} (ys : List (RowOf K)) → FirstRefusal xs k p → FirstRefusal (xs ++ ys) k p
  refusal_front {xs} ys l = record { is = first-front k p xs ys l.is }

-- what a check answered, as its caller learns it
pub was_clear : {rs : List Row} {a : Check} {u : Unit {0}} → Answers rs a → a ≡ Ok u → Clear rs
was_clear (passes c) e = c
was_clear (fails l) e = absurd cc

pub was_refused : {rs : List Row} {a : Check} {r : Refusal} → Answers rs a → a ≡ Err r → FirstRefusal rs r.row r.place
was_refused (passes c) e = absurd cc
was_refused {r = r} (fails {r = s} l) e = let a : s ≡ r = cc in rw (← a) l

-- a check that refuses answers for the whole table
pub stops : {xs : List Row} (ys : List Row) {a : Check} {r : Refusal} → Answers xs a → a ≡ Err r → Answers (xs ++ ys) (Err r)
stops ys h e = fails (refusal_front ys (was_refused h e))

-- one row more behind a clear table, whose place is 0
module _ {rs : List Row} (k : Clear rs) (r : Row) where
  pub then_passed : ((p : ℕ) → r.applies p → ⊥) → Answers (rs ++ (r ∷ [])) (Ok tt)
  then_passed e = passes (clear_both k (clear_one {r = r} e))

-- ---- tables that apply alike

-- row by row: the second table's is called by f what the first's is called, and applies at the same places
abbrev pub RowByRow : {K L : Type 0} → (K → L) → List (RowOf K) → List (RowOf L) → Type 0
RowByRow f [] [] = Unit {0}
RowByRow f [] (s ∷ ys) = ⊥
RowByRow f (r ∷ xs) [] = ⊥
RowByRow f (r ∷ xs) (s ∷ ys) = (s.number ≡ f r.number) × ((p : ℕ) → r.applies p ↔ s.applies p) × RowByRow f xs ys

pub record AlikeBy {K L : Type 0} (f : K → L) (xs : List (RowOf K)) (ys : List (RowOf L)) : Type 0 where
  pub rows : RowByRow f xs ys

-- under the same numbers
abbrev pub Alike : List Row → List Row → Type 0
Alike xs ys = AlikeBy (λ k. k) xs ys

module _ {K L : Type 0} (f : K → L) where
  applies_to : (xs : List (RowOf K)) (ys : List (RowOf L)) (k : K) (p : ℕ) → RowByRow f xs ys → Applies xs k p → Applies ys (f k) p
  applies_to (r ∷ xs) (s ∷ ys) k p m (inl h) = inl (ap f h.0 ∙ sym m.0, (m.1 p).0 h.1)
  applies_to (r ∷ xs) (s ∷ ys) k p m (inr h) = inr (applies_to xs ys k p m.2 h)
  applies_to [] ys k p m x'' = elim x'' [ ]
  applies_to (r ∷ xs) [] k p m _ = elim m [ ]

  applies_from : (xs : List (RowOf K)) (ys : List (RowOf L)) (j : L) (p : ℕ) → RowByRow f xs ys → Applies ys j p → (k : K) × Applies xs k p
  applies_from [] (s ∷ ys) j p m h = absurd m
  applies_from (r ∷ xs) (s ∷ ys) j p m (inl h) = (r.number, inl (refl, (m.1 p).1 h.1))
  applies_from (r ∷ xs) (s ∷ ys) j p m (inr h) = let (k, a) = applies_from xs ys j p m.2 h in (k, inr a)
  applies_from [] [] j p m h = elim h [ ]
  applies_from (r ∷ xs) [] j p m h = elim m [ ]

  renamed_rows : (rs : List (RowOf K)) → RowByRow f rs (map (renamed f) rs)
  renamed_rows [] = tt
  renamed_rows (r ∷ rs) = (refl, (λ p. ((λ h. h), (λ h. h))), renamed_rows rs)

  pub renamed-alike : (rs : List (RowOf K)) → AlikeBy f rs (map (renamed f) rs)
  renamed-alike rs = record { rows = renamed_rows rs }

module _ {K L : Type 0} {f : K → L} {xs : List (RowOf K)} {ys : List (RowOf L)} (a : AlikeBy f xs ys) where
  -- both are clear, or none
  pub alike_clear : Clear xs ↔ Clear ys
  alike_clear = (
    (λ c. record { nowhere = λ j p h. let (k, b) = applies_from f xs ys j p a.rows h in c.nowhere k p b }),
    (λ c. record { nowhere = λ k p h. c.nowhere (f k) p (applies_to f xs ys k p a.rows h) }),
  )

-- the table of one list among several
module _ (i : ℕ) (rs : List Row) where
  pub list_clear : Clear rs ↔ Clear (of_list i rs)
  list_clear = alike_clear (renamed-alike (λ k. (i, k)) rs)

-- ---- row 3

-- where 3 does not apply, the number is at least 1 and at most `most`
pub at_most : {most n : ℕ} {rs : List Row} → Clear (row3 most n ∷ rs) → n ≤ most
at_most {most} {n} c = let z : most < n → ⊥ = λ l. never c 0 (refl, inr l) in omega arith

pub at_least : {most n : ℕ} {rs : List Row} → Clear (row3 most n ∷ rs) → 1 ≤ n
at_least {most} {n} c = let z : n ≡ 0 → ⊥ = λ e. never c 0 (refl, inl e) in omega arith

-- and where it is, 3 does not apply
pub size_clear : {most n : ℕ} → 1 ≤ n → n ≤ most → Clear (row3 most n ∷ [])
size_clear l m = clear_one (λ p a. ⊎_elim (λ h. omega (arith, h)) (λ h. omega (arith, h)) a.1)

-- a check of the whole table keeps the promise of a call that only checks
pub check-answered : {rs : List Row} {a : Check} {o : Outcome ℕ} → Answers rs a → o ≡ told (unwritten a) → Answered rs (λ n. n ≡ 0) o
check-answered {rs} (passes c) e = subst (Answered rs (λ n. n ≡ 0)) (sym e) (kept c refl)
check-answered {rs} (fails l) e = subst (Answered rs (λ n. n ≡ 0)) (sym e) (left l refl)
