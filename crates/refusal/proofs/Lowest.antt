-- In a table whose numbers rise the lowest number wins, at its first place: the two are stated in `document.Lowest`. Here stands what rests on `First`; the rest is in
-- `specs.Lowest`. Assumes nothing.
use Rattle.std.specs.Prelude.{◌≡◌, refl, ◌⊎◌, true, List, [], ◌∷◌, ℕ, ◌≤◌, ◌<◌, ltb}
use Rattle.std.proofs.Common.{inl, inr, ⊎_elim, arith, ltb-true}
use Rattle.refusal.specs.document.Table.{Row, Applies, First}
use Rattle.refusal.specs.Laws.{applied}
use Rattle.refusal.specs.document.Lowest.{LowestWins, above, rises}
use Rattle.refusal.specs.Lowest.{both_left, both_right}

below_all : (k : ℕ) (rs : List Row) → above k rs ≡ true → (j q : ℕ) → Applies rs j q → k < j
below_all k (r ∷ rs) t j q (inl h) = let l = ltb-true k r.number (both_left _ (above r.number rs) t) in omega (arith, h.0)
below_all k (r ∷ rs) t j q (inr h) =
    let l = ltb-true k r.number (both_left _ (above r.number rs) t) in
    let m = below_all r.number rs (both_right (ltb k r.number) _ t) j q h in
    omega arith
below_all k [] t j q x'' = elim x'' [ ]

above-rises : (k : ℕ) (rs : List Row) → above k rs ≡ true → rises rs ≡ true
above-rises k [] t = refl
above-rises k (r ∷ rs) t = both_right (ltb k r.number) _ t

first_lowest : (rs : List Row) (k p : ℕ) → rises rs ≡ true → First rs k p → (j q : ℕ) → Applies rs j q → (k < j) ⊎ ((k ≡ j) × (p ≤ q))
first_lowest (r ∷ rs) k p t (inl a) j q (inl b) =
    let n : q < p → ⊥ = λ l. a.2 q l b.1 in
    inr (omega (arith, a.0, b.0), omega arith)
first_lowest (r ∷ rs) k p t (inl a) j q (inr b) = inl (let l = below_all r.number rs t j q b in omega (arith, a.0))
first_lowest (r ∷ rs) k p t (inr a) j q (inl b) = absurd (a.0 q b.1)
first_lowest (r ∷ rs) k p t (inr a) j q (inr b) = first_lowest rs k p (above-rises r.number rs t) a.1 j q b
first_lowest [] k p t x3 j q _ = elim x3 [ ]

lowest_first : (rs : List Row) (k p : ℕ) → rises rs ≡ true → Applies rs k p → ((j q : ℕ) → Applies rs j q → (k < j) ⊎ ((k ≡ j) × (p ≤ q))) → First rs k p
lowest_first (r ∷ rs) k p t (inl a) f = inl (a.0, a.1, λ q l b. ⊎_elim (λ h. omega arith) (λ h. omega (arith, h.1)) (f k q (inl (a.0, b))))
lowest_first (r ∷ rs) k p t (inr a) f =
    let l = below_all r.number rs t k p a in
    inr (
      (λ q b. ⊎_elim (λ h. omega arith) (λ h. omega (arith, h.0)) (f r.number q (inl (refl, b)))),
      lowest_first rs k p (above-rises r.number rs t) a (λ j q b. f j q (inr b)),
    )
lowest_first [] k p t x3 f = elim x3 [ ]

pub lowest_number : {rs : List Row} → rises rs ≡ true → LowestWins rs
lowest_number {rs} t k p = (
  (λ l. record { here = applied l; lowest = first_lowest rs k p t l.is }),
  (λ l. record { is = lowest_first rs k p t l.here l.lowest }),
)
