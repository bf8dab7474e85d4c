-- Looking for the first earlier vertex that is joined to a vertex: what is left of the search from a place on finds what the whole does.
-- Assumes nothing.
use mathlib.Core.Path.{◌≡◌, refl, sym, ap, ◌∙◌}
use mathlib.Core.Logic.{if_pos, if_neg}
use mathlib.Core.List.{List, ◌∷◌}
use Prim.Native.Nat.{ℕ, suc, ◌+◌, ◌≤◌, ◌<◌}
use native.Mathlib.Numerals.{add-one}
use native.Mathlib.Omega.{arith}
use lib.ListN.{length, get_or, take, drop, drop_of_length-le}
use lib.Seq.{drop-cons, get_or-take, length-take-le}
use Rattle.orbits.specs.Found.{class_of}

module _ {R : ℕ → ℕ → Type 0} (R? : (u v : ℕ) → Dec (R u v)) where
  -- none of the first u vertices is joined to that of place v
  pub record Looking (known : List ℕ) (v new u : ℕ) : Type 0 where
    pub within : u ≤ v
    pub rest : class_of R? (suc v) new 1 (take v known) ≡ class_of R? (suc v) new (suc u) (drop u (take v known))

  module _ {known : List ℕ} {v new : ℕ} where
    pub look_none : Looking known v new 0
    look_none = record { within = omega arith; rest = refl }

    -- behind the last there is none
    pub look_all : {u : ℕ} → Looking known v new u → v ≤ length known → v ≤ u → new ≡ class_of R? (suc v) new 1 (take v known)
    unfolding class_of
    look_all {u} l h k =
        sym (l.rest ∙ ap (class_of R? (suc v) new (suc u)) (drop_of_length-le (take v known) {i = u} (omega (arith, length-take-le v known h))))

    module _ {u : ℕ} (l : Looking known v new u) (h : v ≤ length known) (k : u < v) where
      next : drop u (take v known) ≡ get_or known u 0 ∷ drop (suc u) (take v known)
      next = drop-cons (take v known) u 0 (omega (arith, length-take-le v known h)) ∙ ap (λ (x : ℕ). x ∷ drop (suc u) (take v known)) (get_or-take v known u 0 k)

      pub look_here : R (suc u) (suc v) → get_or known u 0 ≡ class_of R? (suc v) new 1 (take v known)
      unfolding class_of
      look_here r = sym (l.rest ∙ ap (class_of R? (suc v) new (suc u)) next ∙ if_pos (R? (suc u) (suc v)) r _ _)

      pub look_past : (R (suc u) (suc v) → ⊥) → Looking known v new (u + 1)
      unfolding class_of
      look_past n =
          record {
            within = omega arith;
            rest = rw (add-one u) (l.rest ∙ ap (class_of R? (suc v) new (suc u)) next ∙ if_neg (R? (suc u) (suc v)) n _ _);
          }
