-- Laws of the calls that write a result in two parts, as `Giving` has them for one. Here stands what rests on `First`; the rest is in `specs.Both`. Assumes nothing.
use Rattle.std.specs.Prelude.{◌≡◌, refl, List, [], ◌∷◌, ℕ, ◌≤◌, ◌<◌, length}
use Rattle.std.proofs.Common.{sym, ap, ap₂, ◌∙◌, subst, inl, inr, arith}
use Rattle.laws.specs.document.Laid.{laid_over}
use Rattle.refusal.specs.document.Table.{Row, Clear, First, Outcome, gives, refuses, Promise, kept, left}
use Rattle.refusal.specs.document.Small.{byte_values, SmallAnswer, Bounded}
use Rattle.refusal.specs.document.Both.{TwoOutputs, WritesBoth, short_first, short_second, short_both, GivesBoth}
use Rattle.refusal.specs.Bounded.{bounded_rows, small}
use Rattle.refusal.proofs.Bounded.{bounded_both}
use Rattle.refusal.specs.Laws.{never, others, clear_left, refusal_front}
use Rattle.refusal.proofs.Laws.{one_accepted, first-place, refusal_back}
use Rattle.refusal.specs.Both.{Sized, first-room, both-given}

-- what is written is one, where the right result is one
one-both-written :
    {Right : List ℕ → List ℕ → Type 0} {old s t : TwoOutputs} → ((c l d m : List ℕ) → Right c l → Right d m → (c ≡ d) × (l ≡ m)) → (n m : ℕ)
    → WritesBoth Right old n s → WritesBoth Right old m t → (n ≡ m) × (s ≡ t)
one-both-written {old = old} one n m v w =
    let (e, f) = one v.first v.second w.first w.second v.right w.right in (
      v.count ∙ ap length e ∙ sym w.count,
      ap₂ (λ (a b : List ℕ). (a, b)) (v.first_lies ∙ ap (λ c. laid_over c old.0) e ∙ sym w.first_lies) (v.second_lies ∙ ap (λ c. laid_over c old.1) f ∙ sym w.second_lies),
    )

-- one answer and one state of both outputs, where a right result of an input that no row refuses is one
pub one-both :
    {rs : List Row} {Right : List ℕ → List ℕ → Type 0} {old s t : TwoOutputs} {o u : Outcome ℕ}
    → (Clear rs → (c l d m : List ℕ) → Right c l → Right d m → (c ≡ d) × (l ≡ m)) → GivesBoth rs Right old s o → GivesBoth rs Right old t u → (o ≡ u) × (s ≡ t)
one-both {rs} {Right} {old} one g h = one_accepted (λ c. one-both-written (one (clear_left rs (short_both Right old) c))) g.promise h.promise

module _ {rs : List Row} {Right : List ℕ → List ℕ → Type 0} {old : TwoOutputs} where
  module _ (clear : Clear rs) {n m : ℕ} (sized : Sized Right n m) where
    -- the first part does not fit
    pub both-short : {new : TwoOutputs} {c l : List ℕ} → Right c l → length old.0 < n → new ≡ old → GivesBoth rs Right old new (refuses 15 n)
    both-short {c = c} {l} r h e =
        let s = sized c l r in
        record {
          promise =
              left
              (refusal_back clear
              (refusal_front (short_second Right old ∷ [])
              (first-place {r = short_first Right old} (c, (l, r), (sym s.0, omega (arith, s.0))) (λ q i (d, (k, g), (x, y)). let t = sized d k g in let z : ⊥ = omega (arith, t.0) in z)))) e;
        }

    -- the first fits, and the second does not
    pub both-short-second :
        {new : TwoOutputs} {c l : List ℕ} → Right c l → n ≤ length old.0 → length old.1 < m → new ≡ old → GivesBoth rs Right old new (refuses 15 m)
    both-short-second {c = c} {l} r f h e =
        let s = sized c l r in
        record {
          promise =
              left
              (refusal_back clear
              (refusal_back (first-room Right old sized f)
              (first-place {r = short_second Right old} (l, (c, r), (sym s.1, omega (arith, s.1))) (λ q i (k, (d, g), (x, y)). let t = sized d k g in let z : ⊥ = omega (arith, t.1) in z)))) e;
        }

-- What was written, or found too short, of a result that is right answers for a table that is clear, where all right results have the same lengths.
pub both_behind :
    {rs : List Row} {Part Right : List ℕ → List ℕ → Type 0} {old new : TwoOutputs} {n m : ℕ} {o : Outcome ℕ} → Clear rs → Sized Right n m
    → ((c l : List ℕ) → Part c l → Right c l) → GivesBoth [] Part old new o → GivesBoth rs Right old new o
both_behind {rs} {Part} {Right} {old} {new} {n} {m} clear sized to g = by_cases g.promise
  where
    by_cases : {o : Outcome ℕ} → Promise (short_both Part old) (WritesBoth Part old) old new o → GivesBoth rs Right old new o
    by_cases (kept k w) =
        let r = to w.first w.second w.right in
        let z = sized w.first w.second r in
        let f : length old.0 < length w.first → ⊥ = λ i. never k (length w.first) (w.first, (w.second, w.right), (refl, i)) in
        let h : length old.1 < length w.second → ⊥ = λ i. never (others k) (length w.second) (w.second, (w.first, w.right), (refl, i)) in
        let e : n ≡ _ = sym (w.count ∙ z.0) in
        subst (λ x. GivesBoth rs Right old new (gives x)) e
        (both-given clear sized (omega (arith, z.0)) (omega (arith, z.1))
        (record { first = w.first; second = w.second; right = r; count = sym z.0; first_lies = w.first_lies; second_lies = w.second_lies }))
    by_cases (left l e) = refused l.is e
      where
        refused : {k p : ℕ} → First (short_both Part old) k p → new ≡ old → GivesBoth rs Right old new (refuses k p)
        refused {k} {p} (inl (i, (c, (l, x), (j, y)), f)) e =
            let r = to c l x in
            let z = sized c l r in
            subst (λ q. GivesBoth rs Right old new (refuses q p)) (sym i) (subst (λ q. GivesBoth rs Right old new (refuses 15 q)) (sym z.0 ∙ sym j) (both-short clear sized r (omega (arith, z.0)) e))
        refused {k} {p} (inr (f, inl (i, (l, (c, x), (j, y)), g))) e =
            let r = to c l x in
            let z = sized c l r in
            let h : length old.0 < length c → ⊥ = λ i. f (length c) (c, (l, x), (refl, i)) in
            subst (λ q. GivesBoth rs Right old new (refuses q p)) (sym i)
            (subst (λ q. GivesBoth rs Right old new (refuses 15 q)) (sym z.1 ∙ sym j) (both-short-second clear sized r (omega (arith, z.0)) (omega (arith, z.1)) e))
        refused (inr (f, inr (g, z))) e = absurd z

-- where both parts of a right result of an input that no row refuses have fewer than 256 bytes
pub small-both :
    {rs : List Row} {Right : List ℕ → List ℕ → Type 0} {old new : TwoOutputs} {o : Outcome ℕ} → Bounded rs
    → (Clear rs → (c l : List ℕ) → Right c l → (length c < byte_values) × (length l < byte_values)) → GivesBoth rs Right old new o → SmallAnswer o
small-both {rs} {Right} {old} b v g =
    small
    (bounded_both rs (short_both Right old) b (λ k.
    bounded_rows refl ((λ p (c, (l, r), (e, f)). omega (arith, (v k c l r).0)), ((λ p (l, (c, r), (e, f)). omega (arith, (v k c l r).1)), tt))))
    (λ k n w. omega (arith, w.count, (v (clear_left rs (short_both Right old) k) w.first w.second w.right).0)) g.promise
