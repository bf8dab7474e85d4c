-- The open places of a code that is being decoded, kept as a stack in an array. Assumes nothing.
use Rattle.std.specs.Prelude.{◌≡◌, refl, List, [], ◌∷◌, ◌++◌, ℕ, zero, suc, ◌+◌, ◌≤◌, ◌<◌, length, get_or, set, replicate}
use Rattle.std.proofs.Common.{ap₂, ◌∙◌, subst, le_antisymm, add-one, arith, length-set, get_or-set_same, get_or-set_other}

-- the first t numbers of an array, the last of them nearest
unfoldable pub stack : List ℕ → ℕ → List ℕ
stack s zero = []
stack s (suc t) = get_or s t 0 ∷ stack s t

-- v is put k times on top of the first t numbers
pub record Pushed (old new : List ℕ) (t v k r : ℕ) : Type 0 where
  pub count : r ≡ t + k
  pub long : length new ≡ length old
  pub places : stack new r ≡ replicate k v ++ stack old t

-- a store above the first t numbers does not change them
stack_set : (s : List ℕ) (t i v : ℕ) → t ≤ i → stack (set s i v) t ≡ stack s t
unfolding stack
stack_set s zero i v h = refl
stack_set s (suc t) i v h =
    let n : t ≡ i → ⊥ = λ e. (let z : ⊥ = omega arith in z) in ap₂ ◌∷◌ (get_or-set_other s i t v 0 n) (stack_set s t i v (omega arith))

pub push-none : (s : List ℕ) (t v : ℕ) → Pushed s s t v 0 t
push-none s t v = record { count = omega arith; long = refl; places = refl }

pub push-one : {old new : List ℕ} {t v k r : ℕ} → Pushed old new t v k r → r < length new → Pushed old (set new r v) t v (k + 1) (r + 1)
unfolding stack
push-one {old} {new} {t} {v} {k} {r} p h =
    record {
      count = omega (arith, p.count);
      long = length-set new r v ∙ p.long;
      places =
          rw (add-one r, add-one k) (ap₂ ◌∷◌ (get_or-set_same new r v 0 h) (stack_set new r r v (omega arith) ∙ p.places));
    }

pub push-all : {old new : List ℕ} {t v i k r : ℕ} → Pushed old new t v i r → i ≤ k → k ≤ i → Pushed old new t v k r
push-all {old} {new} {t} {v} {i} {k} {r} p a b = subst (λ (n : ℕ). Pushed old new t v n r) (le_antisymm a b) p
