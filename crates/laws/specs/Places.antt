-- Lists in which nothing stands twice (`Once`), further: two such lists joined, and the images of one; then the place of a number in a
-- list. Assumes nothing.
use Rattle.std.specs.Prelude.{◌≡◌, refl, ℕ, zero, suc, ◌<◌, length, get_or}
use Rattle.std.proofs.Common.{ap, sym, ◌∙◌, ⊎_elim, arith}
use Rattle.std.proofs.Math.Logic.{ite, if_pos, if_neg}
use mathlib.Core.List.Memᴰ
use mathlib.Core.List.{List, [], ◌∷◌, ◌++◌, map, Memᴰ}
use Rattle.std.proofs.Math.Decide.{ℕ_discrete}
use Rattle.laws.specs.document.Once.{Once}

module _ {A : Type 0} where
  pub once_join : (l m : List A) → Once l → Once m → ((x : A) → Memᴰ x l → Memᴰ x m → ⊥) → Once (l ++ m)
  once_join [] m o p d = p
  once_join (x ∷ l) m o p d = (
    λ h. ⊎_elim o.0 (d x (Memᴰ.head refl)) (Memᴰ.append_cases l h),
    once_join l m o.1 p (λ y h k. d y (Memᴰ.tail h) k),
  )

  pub at_in : (l : List A) (i : ℕ) (d : A) → i < length l → Memᴰ (get_or l i d) l
  at_in [] i d h = let z : ⊥ = omega arith in absurd z
  at_in (x ∷ l) zero d h = Memᴰ.head refl
  at_in (x ∷ l) (suc i) d h = Memᴰ.tail (at_in l i d (omega arith))

pub once_map : {A B : Type 0} (g : A → B) (l : List A) → ((x y : A) → Memᴰ x l → Memᴰ y l → g x ≡ g y → x ≡ y) → Once l → Once (map g l)
once_map g [] h o = tt
once_map g (x ∷ l) h o = (
  λ m. let (y, k, e) = Memᴰ.of_map g l m in o.0 (Memᴰ.cast (h x y (Memᴰ.head refl) (Memᴰ.tail k) (sym e)) k),
  once_map g l (λ a b p q. h a b (Memᴰ.tail p) (Memᴰ.tail q)) o.1,
)

-- the place of v in a list, from 0
unfoldable pub place : ℕ → List ℕ → ℕ
place v [] = 0
place v (x ∷ l) = ite (ℕ_discrete v x) 0 (suc (place v l))

pub place_here : (v x : ℕ) (l : List ℕ) → v ≡ x → place v (x ∷ l) ≡ 0
unfolding place
place_here v x l e = if_pos (ℕ_discrete v x) e 0 (suc (place v l))

pub place_past : (v x : ℕ) (l : List ℕ) → (v ≡ x → ⊥) → place v (x ∷ l) ≡ suc (place v l)
unfolding place
place_past v x l n = if_neg (ℕ_discrete v x) n 0 (suc (place v l))

-- where it is, there it stands
pub place_at : (v : ℕ) (l : List ℕ) → Memᴰ v l → (place v l < length l) × (get_or l (place v l) 0 ≡ v)
unfolding place
place_at v [] m = absurd (Memᴰ.not-nil m)
place_at v (x ∷ l) m = step (ℕ_discrete v x) (place_at v l)
  where
    step : (d : Dec (v ≡ x)) → (Memᴰ v l → (place v l < length l) × (get_or l (place v l) 0 ≡ v)) → (ite d 0 (suc (place v l)) < suc (length l)) × (get_or (x ∷ l) (ite d 0 (suc (place v l))) 0 ≡ v)
    step (yes e) r = (omega arith, sym e)
    step (no n) r = let (a, b) = r (⊎_elim (λ e. absurd (n e)) (λ h. h) (Memᴰ.cases_cons m)) in (omega arith, b)

pub at_place : (l : List ℕ) (i : ℕ) → Once l → i < length l → place (get_or l i 0) l ≡ i
at_place [] i o h = let z : ⊥ = omega arith in absurd z
at_place (x ∷ l) zero o h = place_here x x l refl
at_place (x ∷ l) (suc i) o h = place_past (get_or l i 0) x l (λ e. o.0 (Memᴰ.cast (sym e) (at_in l i 0 (omega arith)))) ∙ ap suc (at_place l i o.1 (omega arith))
