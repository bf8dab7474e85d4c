-- Two tables that differ in one row, of one number: the stricter table's applies wherever the other's does, and maybe at more places. Here stands what rests on `First`;
-- the rest is in `specs.Stricter`. Assumes nothing.
use Rattle.std.specs.Prelude.{◌≡◌, ◌⊎◌, List, [], ◌∷◌, ◌++◌, ℕ}
use Rattle.std.proofs.Common.{ap, inl, inr}
use Rattle.refusal.specs.document.Table.{RowOf, Clear, First, FirstRefusal, OutcomeOf, refuses, Promise, kept, left}
use Rattle.refusal.specs.Laws.{not_both, clear_one, clear_both, clear_left, clear_right, never, others, refusal_front}
use Rattle.refusal.proofs.Laws.{refusal_back, refusal_either}
use Rattle.refusal.specs.Stricter.{RefusedBy, Told}

module _ {K : Type 0} (xs ys : List (RowOf K)) (r s : RowOf K) (more : (p : ℕ) → s.applies p → r.applies p) where
  fewer : Clear (r ∷ []) → Clear (s ∷ [])
  fewer c = clear_one {r = s} (λ p a. never c p (more p a))

  pub relaxed_clear : Clear (xs ++ (r ∷ ys)) → Clear (xs ++ (s ∷ ys))
  relaxed_clear c =
      let d = clear_right xs (r ∷ ys) c in
      clear_both (clear_left xs (r ∷ ys) c) (clear_both (fewer (clear_left (r ∷ []) ys d)) (others d))

  pub relaxed_refusal : {k : K} {p : ℕ} → FirstRefusal (xs ++ (r ∷ ys)) k p → (k ≡ r.number) ⊎ FirstRefusal (xs ++ (s ∷ ys)) k p
  relaxed_refusal {k} {p} l = go (refusal_either xs (r ∷ ys) l)
    where
      by_row : FirstRefusal (r ∷ []) k p → k ≡ r.number
      by_row h = which h.is
        where
          which : First (r ∷ []) k p → k ≡ r.number
          which (inl a) = a.0
          which (inr b) = absurd b.1

      behind : Clear xs → FirstRefusal (r ∷ []) k p ⊎ (Clear (r ∷ []) × FirstRefusal ys k p) → (k ≡ r.number) ⊎ FirstRefusal (xs ++ (s ∷ ys)) k p
      behind c (inl a) = inl (by_row a)
      behind c (inr b) = inr (refusal_back c (refusal_back (fewer b.0) b.1))

      go : FirstRefusal xs k p ⊎ (Clear xs × FirstRefusal (r ∷ ys) k p) → (k ≡ r.number) ⊎ FirstRefusal (xs ++ (s ∷ ys)) k p
      go (inl a) = inr (refusal_front (s ∷ ys) a)
      go (inr b) = behind b.0 (refusal_either (r ∷ []) ys b.1)

  -- an answer that the stricter table allows, the other allows, or it is a refusal by the row in which they differ
  pub relaxed :
      {A S : Type 0} {right : A → S → Type 0} {old new : S} {o : OutcomeOf K A}
      → Promise (xs ++ (r ∷ ys)) right old new o → Promise (xs ++ (s ∷ ys)) right old new o ⊎ RefusedBy r.number o
  relaxed (kept c h) = inl (kept (relaxed_clear c) h)
  relaxed {A} {S} {right} {old} {new} (left {k} {p} l e) = go (relaxed_refusal l)
    where
      go : (k ≡ r.number) ⊎ FirstRefusal (xs ++ (s ∷ ys)) k p → Promise (xs ++ (s ∷ ys)) right old new (refuses k p) ⊎ RefusedBy {A = A} r.number (refuses k p)
      go (inl z) = inr (record { place = p; is = ap (λ j. refuses j p) z })
      go (inr m) = inl (left m e)

  -- ---- back

  -- what the other table lets pass, the stricter does, or it refuses by that row
  pub tightened_clear : Told r → Clear (xs ++ (s ∷ ys)) → Clear (xs ++ (r ∷ ys)) ⊎ ((q : ℕ) × FirstRefusal (xs ++ (r ∷ ys)) r.number q)
  tightened_clear (inl c) d = inl (clear_both (clear_left xs (s ∷ ys) d) (clear_both c (others (clear_right xs (s ∷ ys) d))))
  tightened_clear (inr (q, l)) d = inr (q, refusal_back (clear_left xs (s ∷ ys) d) (refusal_front ys l))

  -- what the other refuses, the stricter refuses alike, or by that row
  pub tightened_refusal :
      {k : K} {p : ℕ} → Told r → FirstRefusal (xs ++ (s ∷ ys)) k p → FirstRefusal (xs ++ (r ∷ ys)) k p ⊎ ((q : ℕ) × FirstRefusal (xs ++ (r ∷ ys)) r.number q)
  tightened_refusal {k} {p} t l = go t (refusal_either xs (s ∷ ys) l)
    where
      behind : Clear xs → Clear (r ∷ []) → FirstRefusal (s ∷ []) k p ⊎ (Clear (s ∷ []) × FirstRefusal ys k p) → FirstRefusal (xs ++ (r ∷ ys)) k p
      behind c d (inl a) = not_both (fewer d) a
      behind c d (inr b) = refusal_back c (refusal_back d b.1)

      go : Told r → FirstRefusal xs k p ⊎ (Clear xs × FirstRefusal (s ∷ ys) k p) → FirstRefusal (xs ++ (r ∷ ys)) k p ⊎ ((q : ℕ) × FirstRefusal (xs ++ (r ∷ ys)) r.number q)
      go t (inl a) = inl (refusal_front (r ∷ ys) a)
      go (inl d) (inr b) = inl (behind b.0 d (refusal_either (s ∷ []) ys b.1))
      go (inr (q, m)) (inr b) = inr (q, refusal_back b.0 (refusal_front ys m))
