-- Where a byte stands in a list: `meet` compares two cuts of one list at the same byte, and `seek` finds the first.
-- Assumes nothing.
use Rattle.std.specs.Prelude.{◌≡◌, refl, List, [], ◌∷◌, ◌++◌, ℕ, ◌≤◌, length}
use Rattle.std.proofs.Common.{ap, arith, length-append}
use Rattle.std.proofs.Math.Decide.{ℕ_discrete}
use Rattle.texts.specs.document.Bytes.{Other, Free, Cut}
use Rattle.laws.specs.Each.{each_right}

-- what holds k is not free of it
pub not_free : (k : ℕ) (s t : List ℕ) → Free k (s ++ (k ∷ t)) → ⊥
not_free k s t f = (each_right (Other k) s (k ∷ t) f).0 refl

-- two cuts of one list at k, of which the second is at the first k: they are the same, or the first is further back
pub data Meet (k : ℕ) (x y b rest : List ℕ) : Type 0 where
  same : x ≡ b → y ≡ rest → Meet k x y b rest
  further : (z : List ℕ) → x ≡ b ++ (k ∷ z) → rest ≡ z ++ (k ∷ y) → Meet k x y b rest

pub meet : (k : ℕ) (x y b rest : List ℕ) → Free k b → x ++ (k ∷ y) ≡ b ++ (k ∷ rest) → Meet k x y b rest
meet k [] y [] rest f e = same refl (cc)
meet k [] y (a ∷ b) rest f e = absurd (f.0 (cc))
meet k (c ∷ x) y [] rest f e = further x (cc) (cc)
meet k (c ∷ x) y (a ∷ b) rest f e = onward (meet k x y b rest f.1 (cc))
  where
    onward : Meet k x y b rest → Meet k (c ∷ x) y (a ∷ b) rest
    onward (same p q) = same (cc) q
    onward (further z p q) = further z (cc) q

pub cut_some : {k : ℕ} {t b rest : List ℕ} → Cut k t b rest → 1 ≤ length t
cut_some c = omega (arith, simp length-append at (ap length c.parts))

-- a list has one first k
pub cut_once : (k : ℕ) (t b rest d more : List ℕ) → Cut k t b rest → Cut k t d more → (b ≡ d) × (rest ≡ more)
cut_once k t b rest d more u v = go (meet k b rest d more v.free (cc))
  where
    go : Meet k b rest d more → (b ≡ d) × (rest ≡ more)
    go (same p q) = (p, q)
    go (further z p q) = absurd (not_free k d z (rw p at u.free))

-- a list has no k, or a first one
pub data Seek (k : ℕ) (t : List ℕ) : Type 0 where
  nowhere : Free k t → Seek k t
  found : (b rest : List ℕ) → Cut k t b rest → Seek k t

pub seek : (k : ℕ) (t : List ℕ) → Seek k t
seek k [] = nowhere tt
seek k (a ∷ t) = step (ℕ_discrete a k) (seek k t)
  where
    step : Dec (a ≡ k) → Seek k t → Seek k (a ∷ t)
    step (yes e) s = found [] t (record { parts = cc; free = tt })
    step (no n) (nowhere f) = nowhere (n, f)
    step (no n) (found b rest u) = found (a ∷ b) rest (record { parts = cc; free = (n, u.free) })
