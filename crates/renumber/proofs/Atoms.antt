-- Atoms by their ranks, as a map's entries are judged by them. Assumes nothing.
use mathlib.Core.Path.{◌≡◌, refl, sym, ap, ◌∙◌}
use mathlib.Core.Logic.{◌↔◌, inl, inr}
use mathlib.Core.List.{List}
use Prim.Native.Nat.{ℕ, ◌-◌, ◌≤◌, ◌<◌}
use native.Mathlib.Decide.{dec_lt}
use native.Mathlib.Omega.{arith}
use lib.ListN.{get_or, replicate, length-replicate, get_or-replicate, get_or-eq_default}
use Rattle.refusal.specs.document.Table.{Outside}
use Rattle.limits.specs.document.Limits.{size}
use Rattle.skeleton.specs.document.Atom.{Atom, rank, named}
use Rattle.skeleton.specs.Atoms.{named-rank}
use Rattle.skeleton.specs.Carbon.{carbon}
use Rattle.letters.specs.Named.{rank_at, Named, Ranked}

pub inside : {n v : ℕ} → (Outside n v → ⊥) → (1 ≤ v) × (v ≤ n)
inside {n} {v} f = (
  elim (dec_lt 0 v) [ yes h ↦ h | no h ↦ absurd (f (inl (omega arith))) ],
  elim (dec_lt n v) [ yes h ↦ absurd (f (inr h)) | no h ↦ omega arith ],
)

-- equal ranks are equal atoms
pub same_ranks : {N : ℕ} {l k : ℕ → Atom} {a b : List ℕ} → Named N l a → Named N k b → (p x : ℕ) → (1 ≤ p) × (p ≤ N) → (1 ≤ x) × (x ≤ N) → (rank_at a p ≡ rank_at b x) ↔ (k x ≡ l p)
same_ranks {l = l} {k = k} f g p x (h, i) (j, m) = (
  λ e. sym (named-rank (k x)) ∙ ap named (sym (g.ranks x j m) ∙ sym e ∙ f.ranks p h i) ∙ named-rank (l p),
  λ e. f.ranks p h i ∙ ap rank (sym e) ∙ sym (g.ranks x j m),
)

-- zeros are carbon for any number of vertices
pub zeros-named : (N : ℕ) → Named N carbon (replicate size 0)
zeros-named N = record { long = refl; ranks = λ v i j. at (v - 1) (dec_lt (v - 1) size) }
  where
    at : (i : ℕ) → Dec (i < size) → ◌≡◌ {A = ℕ} (get_or (replicate size 0) i 0) 0
    at i (yes h) = get_or-replicate {A = ℕ} size i 0 0 h
    at i (no h) = get_or-eq_default {A = ℕ} (replicate size 0) 0 {n = i} (omega (arith, length-replicate {A = ℕ} size 0))

pub zeros-ranked : (N : ℕ) → Ranked N (replicate size 0)
zeros-ranked N = record { label = carbon; named = zeros-named N }
