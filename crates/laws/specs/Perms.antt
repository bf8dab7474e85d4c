-- Rearrangements, as data (`List.Permᴰ`): what they keep, and the one law of rearranging that proofs about arcs use.
-- Assumes nothing.
use Rattle.std.specs.Prelude.{◌≡◌, refl, ℕ, suc, length}
use Rattle.std.proofs.Common.{ap, ◌∙◌, ⊎_elim}
use mathlib.Core.List.Memᴰ
use mathlib.Core.List.Permᴰ
use mathlib.Core.List.{List, [], ◌∷◌, ◌++◌, Memᴰ, Permᴰ}
use Rattle.std.proofs.Math.Decide.{ℕ_discrete}

module _ {A : Type 0} where
  -- what is in a list is in its rearrangements
  pub perm_in : {a : A} {l m : List A} → Permᴰ l m → Memᴰ a l → Memᴰ a m
  perm_in Permᴰ.nil h = h
  perm_in (Permᴰ.cons e d) (Memᴰ.head p) = Memᴰ.head (p ∙ e)
  perm_in (Permᴰ.cons e d) (Memᴰ.tail h) = Memᴰ.tail (perm_in d h)
  perm_in (Permᴰ.swap e f) (Memᴰ.head p) = Memᴰ.tail (Memᴰ.head (p ∙ e))
  perm_in (Permᴰ.swap e f) (Memᴰ.tail (Memᴰ.head p)) = Memᴰ.head (p ∙ f)
  perm_in (Permᴰ.swap e f) (Memᴰ.tail (Memᴰ.tail h)) = Memᴰ.tail (Memᴰ.tail h)
  perm_in (Permᴰ.trans d e) h = perm_in e (perm_in d h)

  pub perm_length : {l m : List A} → Permᴰ l m → length l ≡ length m
  perm_length Permᴰ.nil = refl
  perm_length (Permᴰ.cons e d) = ap suc (perm_length d)
  perm_length (Permᴰ.swap e f) = refl
  perm_length (Permᴰ.trans d e) = perm_length d ∙ perm_length e

  -- the middle of three parts goes to the front
  pub front : (x y z : List A) → Permᴰ (x ++ (y ++ z)) (y ++ (x ++ z))
  front [] y z = Permᴰ.refl (y ++ z)
  front (a ∷ x) y z = Permᴰ.trans (Permᴰ.cons refl (front x y z)) (Permᴰ.symm (Permᴰ.middle a y (x ++ z)))

-- whether a number is in a list
unfoldable pub dec_in : (v : ℕ) (l : List ℕ) → Dec (Memᴰ v l)
dec_in v [] = no Memᴰ.not-nil
dec_in v (x ∷ l) = step (ℕ_discrete v x) (dec_in v l)
  where
    step : Dec (v ≡ x) → Dec (Memᴰ v l) → Dec (Memᴰ v (x ∷ l))
    step (yes e) r = yes (Memᴰ.head e)
    step (no e) (yes r) = yes (Memᴰ.tail r)
    step (no e) (no r) = no (λ h. ⊎_elim e r (Memᴰ.cases_cons h))
