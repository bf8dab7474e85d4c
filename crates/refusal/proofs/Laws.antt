-- Laws of refusal tables, once for every call. Here stands what rests on `First`; the rest is in `specs.Laws`. Assumes nothing.
use Rattle.std.specs.Prelude.{◌≡◌, refl, ◌⊎◌, List, [], ◌∷◌, ◌++◌, ℕ, ◌≤◌, ◌<◌, Result, Ok, Err, IsErrAnd, OnOk}
use Rattle.std.proofs.Common.{sym, ap, ap₂, ◌∙◌, subst, inl, inr, ⊎_elim, arith}
use Rattle.std.proofs.lemmas.Result.{err_from_is_err_and}
use Rattle.refusal.specs.declared.Refusal.{Refusal}
use Rattle.refusal.specs.Checks.{Check, Answers, passes, fails}
use Rattle.refusal.specs.document.Table.{RowOf, Row, row15, of_list, Applies, Clear, First, FirstRefusal, OutcomeOf, gives, refuses, Promise, kept, left}
use Rattle.refusal.specs.Laws.{applied, not_both, clear_one, clear_both, never, others, was_clear, was_refused, stops, RowByRow, AlikeBy, Alike, renamed-alike, alike_clear}

one-first : {K : Type 0} (rs : List (RowOf K)) (k j : K) (p q : ℕ) → First rs k p → First rs j q → (k ≡ j) × (p ≡ q)
one-first (r ∷ rs) k j p q (inl a) (inl b) =
    let m : q < p → ⊥ = λ l. a.2 q l b.1 in
    let n : p < q → ⊥ = λ l. b.2 p l a.1 in
    (a.0 ∙ sym b.0, omega arith)
one-first (r ∷ rs) k j p q (inl a) (inr b) = absurd (b.0 p a.1)
one-first (r ∷ rs) k j p q (inr a) (inl b) = absurd (a.0 q b.1)
one-first (r ∷ rs) k j p q (inr a) (inr b) = one-first rs k j p q a.1 b.1
-- the refusal and its place are one
one-first {K = K} [] k j p q x'' _ = elim x'' [ ]

one_refusal : {K : Type 0} {rs : List (RowOf K)} {k j : K} {p q : ℕ} → FirstRefusal rs k p → FirstRefusal rs j q → (k ≡ j) × (p ≡ q)
one_refusal {rs = rs} {k} {j} {p} {q} a b = one-first rs k j p q a.is b.is

-- of a call: where what is right is one of an input that no row refuses, the answer is one, and so is what the lent output holds then
pub one_accepted :
    {K A S : Type 0} {rs : List (RowOf K)} {right : A → S → Type 0} {old s t : S} {o u : OutcomeOf K A}
    → (Clear rs → (a b : A) → right a s → right b t → (a ≡ b) × (s ≡ t)) → Promise rs right old s o → Promise rs right old t u → (o ≡ u) × (s ≡ t)
one_accepted one (kept {a} c r) (kept {a = b} d q) = let e = one c a b r q in (ap gives e.0, e.1)
one_accepted one (kept c r) (left l e) = not_both c l
one_accepted one (left l e) (kept c r) = not_both c l
one_accepted one (left l e) (left m f) = let n = one_refusal l m in (ap₂ refuses n.0 n.1, e ∙ sym f)

-- and where it is one of any input
pub one_result :
    {K A S : Type 0} {rs : List (RowOf K)} {right : A → S → Type 0} {old s t : S} {o u : OutcomeOf K A}
    → ((a b : A) → right a s → right b t → (a ≡ b) × (s ≡ t)) → Promise rs right old s o → Promise rs right old t u → (o ≡ u) × (s ≡ t)
one_result one p q = one_accepted (λ c. one) p q

module _ {K : Type 0} {r : RowOf K} where
  -- it applies at p, and at no place before
  pub first-place : {p : ℕ} → r.applies p → ((q : ℕ) → q < p → r.applies q → ⊥) → FirstRefusal (r ∷ []) r.number p
  first-place h f = record { is = inl (refl, h, f) }

module _ {K : Type 0} (k : K) (p : ℕ) where
  first_back : (xs ys : List (RowOf K)) → Clear xs → First ys k p → First (xs ++ ys) k p
  first_back [] ys c h = h
  first_back (r ∷ xs) ys c h = inr (never c, first_back xs ys (others c) h)

  first_either : (xs ys : List (RowOf K)) → First (xs ++ ys) k p → First xs k p ⊎ (Clear xs × First ys k p)
  first_either [] ys h = inr (record { nowhere = λ j q a. a }, h)
  first_either (r ∷ xs) ys (inl h) = inl (inl h)
  first_either (r ∷ xs) ys (inr h) =
      ⊎_elim (λ a. inl (inr (h.0, a))) (λ b. inr (clear_both (clear_one {r = r} h.0) b.0, b.1)) (first_either xs ys h.1)

module _ {K : Type 0} {k : K} {p : ℕ} where
  -- a refusal by the rest of the table is the table's, where its front is clear
  pub refusal_back : {xs ys : List (RowOf K)} → Clear xs → FirstRefusal ys k p → FirstRefusal (xs ++ ys) k p
  refusal_back {xs} {ys} c l = record { is = first_back k p xs ys c l.is }

  -- and the table has no others
  pub refusal_either : (xs ys : List (RowOf K)) → FirstRefusal (xs ++ ys) k p → FirstRefusal xs k p ⊎ (Clear xs × FirstRefusal ys k p)
  refusal_either xs ys l = ⊎_elim (λ a. inl (record { is = a })) (λ b. inr (b.0, record { is = b.1 })) (first_either k p xs ys l.is)

  -- so it is that of the rest where the front is clear
  pub refusal_behind : (xs ys : List (RowOf K)) → Clear xs → FirstRefusal (xs ++ ys) k p → FirstRefusal ys k p
  refusal_behind xs ys c l = ⊎_elim (λ a. not_both c a) (λ b. b.1) (refusal_either xs ys l)

  -- and that of the front where the rest is clear with it
  pub refusal_before : (xs ys : List (RowOf K)) → (Clear xs → Clear ys) → FirstRefusal (xs ++ ys) k p → FirstRefusal xs k p
  refusal_before xs ys f l = ⊎_elim (λ a. a) (λ b. not_both (f b.0) b.1) (refusal_either xs ys l)

-- behind a check that passes, the rest answers for the whole table
pub goes_on : {xs ys : List Row} {a b : Check} {u : Unit {0}} → Answers xs a → a ≡ Ok u → Answers ys b → Answers (xs ++ ys) b
goes_on h e (passes c) = passes (clear_both (was_clear h e) c)
goes_on h e (fails l) = fails (refusal_back (was_clear h e) l)

-- the same of a check that `?` goes on behind, and what `?` hands on of one that refuses
pub clear_of : {rs : List Row} {u : Unit {0}} → Answers rs (Ok u) → Clear rs
clear_of h = was_clear h refl

pub refusal_of : {rs : List Row} {r : Refusal} → Answers rs (Err r) → FirstRefusal rs r.row r.place
refusal_of h = was_refused h refl

pub behind : {xs ys : List Row} {u : Unit {0}} {b : Check} → Answers xs (Ok u) → Answers ys b → Answers (xs ++ ys) b
behind h k = goes_on h refl k

pub is_refusal : {A E : Type 0} {r : E} (a : Result A E) → IsErrAnd a (λ d. d ≡ r) → a ≡ Err r
is_refusal a h = let p = err_from_is_err_and a h in p.1 ∙ ap Err p.2

-- row 15: there is room, or what `?` hands on is 15 with what is needed
pub room_of : {need lent : ℕ} {u : Unit {0}} → Answers (row15 need lent ∷ []) (Ok u) → need ≤ lent
room_of {need} {lent} h = let n : lent < need → ⊥ = λ l. never (clear_of h) need (refl, l) in omega arith

pub short_of :
    {A : Type 0} {need lent : ℕ} {r : Refusal} (a : Result A Refusal) → IsErrAnd a (λ d. d ≡ r) → Answers (row15 need lent ∷ []) (Err r)
    → (a ≡ Err (record { row = 15; place = need })) × (lent < need)
short_of {need = need} {lent} {r} a h k = by_cases (applied (refusal_of k))
  where
    by_cases : Applies (row15 need lent ∷ []) r.row r.place → (a ≡ Err (record { row = 15; place = need })) × (lent < need)
    by_cases (inl (e, (q, l))) = (is_refusal a h ∙ ap Err (ap₂ (λ (k p : ℕ). record { row = k; place = p }) e q), l)
    by_cases (inr n) = absurd n

-- what a clause says of a check that passes
pub on_passed : {P : Type 0} (a : Check) → ((u : Unit {0}) → a ≡ Ok u → P) → OnOk a P
on_passed (Ok u) f = f u refl
on_passed (Err r) f = tt

pub exits : {xs : List Row} (ys : List Row) {r : Refusal} {a : Check} → IsErrAnd a (λ d. d ≡ r) → Answers xs (Err r) → Answers (xs ++ ys) a
exits ys {a = a} h k = rw (is_refusal a h) (stops ys k refl)

-- one row more behind a clear table, whose place is 0
module _ {rs : List Row} (k : Clear rs) (r : Row) where
  pub then_refused : r.applies 0 → Answers (rs ++ (r ∷ [])) (Err (record { row = r.number; place = 0 }))
  then_refused d = fails (refusal_back k (first-place {r = r} d (λ q l a. let z : ⊥ = omega arith in z)))

module _ {K L : Type 0} (f : K → L) where
  first_to : (xs : List (RowOf K)) (ys : List (RowOf L)) (k : K) (p : ℕ) → RowByRow f xs ys → First xs k p → First ys (f k) p
  first_to (r ∷ xs) (s ∷ ys) k p m (inl h) =
      inl (ap f h.0 ∙ sym m.0, (m.1 p).0 h.1, λ q l a. h.2 q l ((m.1 q).1 a))
  first_to (r ∷ xs) (s ∷ ys) k p m (inr h) = inr ((λ q a. h.0 q ((m.1 q).1 a)), first_to xs ys k p m.2 h.1)
  first_to [] ys k p m x'' = elim x'' [ ]
  first_to (r ∷ xs) [] k p m _ = elim m [ ]

  first-from : (xs : List (RowOf K)) (ys : List (RowOf L)) (j : L) (p : ℕ) → RowByRow f xs ys → First ys j p → (k : K) × (j ≡ f k) × First xs k p
  first-from [] (s ∷ ys) j p m h = absurd m
  first-from (r ∷ xs) (s ∷ ys) j p m (inl h) = (r.number, h.0 ∙ m.0, inl (refl, (m.1 p).1 h.1, λ q l a. h.2 q l ((m.1 q).0 a)))
  first-from (r ∷ xs) (s ∷ ys) j p m (inr h) =
      let (k, e, a) = first-from xs ys j p m.2 h.1 in
      (k, e, inr ((λ q b. h.0 q ((m.1 q).0 b)), a))
  -- a table whose rows are only called otherwise
  first-from [] [] j p m h = elim h [ ]
  first-from (r ∷ xs) [] j p m h = elim m [ ]

module _ {K L : Type 0} {f : K → L} {xs : List (RowOf K)} {ys : List (RowOf L)} (a : AlikeBy f xs ys) where
  -- and they refuse alike
  pub alike_refusal : {k : K} {p : ℕ} → FirstRefusal xs k p → FirstRefusal ys (f k) p
  alike_refusal {k} {p} l = record { is = first_to f xs ys k p a.rows l.is }

  alike-back : {j : L} {p : ℕ} → FirstRefusal ys j p → (k : K) × (j ≡ f k) × FirstRefusal xs k p
  alike-back {j} {p} l = let (k, e, b) = first-from f xs ys j p a.rows l.is in (k, e, record { is = b })

pub alike-answers : {xs ys : List Row} {r : Check} → Alike xs ys → Answers xs r → Answers ys r
alike-answers a (passes c) = passes ((alike_clear a).0 c)
alike-answers a (fails l) = fails (alike_refusal a l)

-- the table of one list among several
module _ (i : ℕ) (rs : List Row) where
  pub list-refused : {k p : ℕ} → FirstRefusal rs k p → FirstRefusal (of_list i rs) (i, k) p
  list-refused l = alike_refusal (renamed-alike (λ k. (i, k)) rs) l

  -- it names its list, and says what the list alone says
  pub list-told : {j k p : ℕ} → FirstRefusal (of_list i rs) (j, k) p → (j ≡ i) × FirstRefusal rs k p
  list-told {j} {k} {p} l =
      let (n, e, a) = alike-back (renamed-alike (λ k. (i, k)) rs) l in
      (ap (λ (x : ℕ × ℕ). x.0) e, subst (λ (m : ℕ). FirstRefusal rs m p) (sym (ap (λ (x : ℕ × ℕ). x.1) e)) a)
