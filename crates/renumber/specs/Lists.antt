-- A list by its entries: the one with given entries; what is written over the start of another. Assumes nothing.
use Rattle.std.specs.Prelude.{◌≡◌, refl, List, [], ◌∷◌, ◌++◌, ℕ, zero, suc, ◌+◌, ◌≤◌, ◌<◌, length, get_or, take, drop}
use Rattle.std.proofs.Common.{sym, ap, ◌∙◌, arith, length-append, take-append-drop, get_or-append-add, length-take-le}
use Rattle.std.proofs.Math.Decide.{dec_lt}
use Rattle.std.proofs.Math.ListN.{get_or-append}
use Rattle.laws.specs.document.Laid.{laid_over}

-- f of 1 to n
unfoldable pub entries : (ℕ → ℕ) → ℕ → List ℕ
entries f zero = []
entries f (suc n) = entries f n ++ (f (suc n) ∷ [])

pub entries_length : (f : ℕ → ℕ) (n : ℕ) → length (entries f n) ≡ n
unfolding entries
entries_length f zero = refl
entries_length f (suc n) = omega (arith, length-append (entries f n) (f (suc n) ∷ []), entries_length f n)

pub entries_at : (f : ℕ → ℕ) (n i : ℕ) → i < n → get_or (entries f n) i 0 ≡ f (suc i)
unfolding entries
entries_at f zero i h = absurd (let z : ⊥ = omega arith in z)
entries_at f (suc n) i h = step (dec_lt i n) (entries_at f n i)
  where
    step : Dec (i < n) → (i < n → get_or (entries f n) i 0 ≡ f (suc i)) → get_or (entries f n ++ (f (suc n) ∷ [])) i 0 ≡ f (suc i)
    step (yes l) r = get_or-append (entries f n) (f (suc n) ∷ []) 0 i (omega (arith, entries_length f n)) ∙ r l
    step (no l) r =
        let e : i ≡ n = omega arith in
        let k : i ≡ length (entries f n) + 0 = omega (arith, entries_length f n) in
        ap (λ j. get_or (entries f n ++ (f (suc n) ∷ [])) j 0) k ∙ get_or-append-add (entries f n) (f (suc n) ∷ []) 0 0 ∙ ap (λ j. f (suc j)) (sym e)

-- what has changed in its first n alone is its first n over what it was
pub laid-first : (n : ℕ) (old new : List ℕ) → n ≤ length new → drop n new ≡ drop n old → new ≡ laid_over (take n new) old
unfolding laid_over
laid-first n old new h e =
    let l : length (take n new) ≡ n = length-take-le n new h in
    sym (take-append-drop n new) ∙ ap (λ r. take n new ++ r) (e ∙ ap (λ k. drop k old) (sym l))
