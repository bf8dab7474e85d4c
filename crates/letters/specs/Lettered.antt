-- Letters that no row refuses: each names an atom, and there is one for each vertex; and letters of carbon alone. Assumes nothing.
use Rattle.std.specs.Prelude.{◌≡◌, refl, List, [], ◌∷◌, ℕ, zero, suc, ◌-◌, length, get_or}
use Rattle.std.proofs.Common.{ap}
use Rattle.std.proofs.Math.Decide.{ℕ_discrete}
use Rattle.laws.specs.document.Each.{Each}
use Rattle.laws.specs.Each.{each_follows}
use Rattle.skeleton.specs.document.Atom.{C, N, O, Letter, atom_of, atom_at}
use Rattle.letters.specs.document.Letters.{row2-letters, row21-letters, AllCarbon}

-- the letters name atoms, one for each of n vertices
pub record Lettered (n : ℕ) (s : List ℕ) : Type 0 where
  pub many : length s ≡ n
  pub each : Each Letter s

-- a byte is a letter, or is not
pub letter? : (b : ℕ) → Dec (Letter b)
letter? b = step (ℕ_discrete b 67) (ℕ_discrete b 78) (ℕ_discrete b 79)
  where
    step : Dec (b ≡ 67) → Dec (b ≡ 78) → Dec (b ≡ 79) → Dec (Letter b)
    step (yes e) y z = yes (C, e)
    step (no x) (yes e) z = yes (N, e)
    step (no x) (no y) (yes e) = yes (O, e)
    step (no x) (no y) (no z) = no none
      where
        none : Letter b → ⊥
        none (C, e) = x e
        none (N, e) = y e
        none (O, e) = z e

each? : (s : List ℕ) → Dec (Each Letter s)
each? [] = yes tt
each? (b ∷ s) = step (letter? b) (each? s)
  where
    step : Dec (Letter b) → Dec (Each Letter s) → Dec (Letter b × Each Letter s)
    step (yes l) (yes m) = yes (l, m)
    step (no n) d = no (λ h. n h.0)
    step (yes l) (no n) = no (λ h. n h.1)

pub each-letter : (s : List ℕ) → ((p : ℕ) → (row2-letters s).applies p → ⊥) → Each Letter s
each-letter s c = step (each? s)
  where
    step : Dec (Each Letter s) → Each Letter s
    step (yes l) = l
    step (no n) = absurd (c 0 (refl, n))

pub so_many : (n : ℕ) (s : List ℕ) → ((p : ℕ) → (row21-letters n s).applies p → ⊥) → length s ≡ n
so_many n s c = step (ℕ_discrete (length s) n)
  where
    step : Dec (length s ≡ n) → length s ≡ n
    step (yes e) = e
    step (no k) = absurd (c 0 (refl, k))

pub carbon-at : (s : List ℕ) → AllCarbon s → (v : ℕ) → atom_at s v ≡ C
unfolding atom_of ℕ_discrete
carbon-at s h v = at s h (v - 1)
  where
    at : (s : List ℕ) → AllCarbon s → (i : ℕ) → atom_of (get_or s i 0) ≡ C
    at [] h i = refl
    at (x ∷ s) h zero = ap atom_of h.0
    at (x ∷ s) h (suc i) = at s h.1 i

pub carbon-letters : (s : List ℕ) → AllCarbon s → Each Letter s
carbon-letters s h = each_follows (λ a e. (C, e)) s h
