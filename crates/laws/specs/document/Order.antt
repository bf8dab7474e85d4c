-- Document 01, "Codes": "largest first in dictionary order".
--
-- Here: the dictionary's order of lists of numbers, and sorting by it, largest first. Laws of both are in `Sorting`.
-- Assumes nothing.
use Rattle.std.specs.Prelude.{◌≡◌, ◌⊎◌, List, [], ◌∷◌, ℕ, ◌<◌}
use Rattle.std.proofs.Common.{inl, inr}
use Rattle.std.proofs.Math.Logic.{ite}
use Rattle.std.proofs.Math.Decide.{dec_lt, ℕ_discrete}

infix 40 ◌≽◌
-- xs stands at or after ys in the dictionary; a proper prefix stands before
abbrev pub ◌≽◌ : List ℕ → List ℕ → Type 0
xs ≽ [] = Unit {0}
[] ≽ (y ∷ ys) = ⊥
(x ∷ xs) ≽ (y ∷ ys) = (y < x) ⊎ ((x ≡ y) × (xs ≽ ys))

-- which of the two it is
unfoldable pub dec≽ : (xs ys : List ℕ) → Dec (xs ≽ ys)
dec≽ [] [] = yes tt
dec≽ (x ∷ xs) [] = yes tt
dec≽ [] (y ∷ ys) = no (λ h. h)
dec≽ (x ∷ xs) (y ∷ ys) = step (dec_lt y x) (ℕ_discrete x y) (dec≽ xs ys)
  where
    step : Dec (y < x) → Dec (x ≡ y) → Dec (xs ≽ ys) → Dec ((x ∷ xs) ≽ (y ∷ ys))
    step (yes l) e r = yes (inl l)
    step (no l) (no e) r = no (λ h. elim h [ inl a ↦ l a | inr b ↦ e b.0 ])
    step (no l) (yes e) (yes r) = yes (inr (e, r))
    step (no l) (yes e) (no r) = no (λ h. elim h [ inl a ↦ l a | inr b ↦ r b.1 ])

-- c put before the first of ds that it stands at or after
unfoldable pub insert : List ℕ → List (List ℕ) → List (List ℕ)
insert c [] = c ∷ []
insert c (d ∷ ds) = ite (dec≽ c d) (c ∷ d ∷ ds) (d ∷ insert c ds)

-- largest first
unfoldable pub sort : List (List ℕ) → List (List ℕ)
sort [] = []
sort (c ∷ cs) = insert c (sort cs)
