-- Half way along a path that notes lead along, while another goes all the way.
--
-- In order: where the notes lead from a vertex of the path; how many steps are left; the two on the path; its middle. Assumes nothing.
use mathlib.Core.Path.{◌≡◌, refl, sym, ap, ◌∙◌}
use mathlib.Core.Logic.{ite, if_pos, if_neg}
use mathlib.Core.List.{List, [], ◌∷◌}
use Prim.Native.Nat.{ℕ, zero, suc, ◌+◌, ◌*◌, ◌-◌, ◌/◌, ◌≤◌, ◌<◌}
use native.Mathlib.Decide.{ℕ_discrete, dec_lt}
use native.Mathlib.Omega.{arith}
use lib.ListN.{length, get_or}
use Rattle.limits.specs.document.Limits.{size}
use Rattle.laws.specs.document.Once.{Once}
use Rattle.laws.specs.Once.{fits, up_to, up_to_length, up_to_in}
use Rattle.laws.specs.Places.{at_in, place, at_place}
use Rattle.longest_path.specs.document.Path.{middle₁, middle₂}
use Rattle.centre.specs.Walking.{Leads, Trail}

-- ---- where the notes lead from a vertex of the path

on : (up q : List ℕ) → Leads up q → (i : ℕ) → suc i < length q → get_or up (get_or q i 0) 0 ≡ get_or q (suc i) 0
on up [] l i h = let z : ⊥ = omega arith in absurd z
on up (x ∷ []) l i h = let z : ⊥ = omega arith in absurd z
on up (x ∷ y ∷ q) l zero h = l.0
on up (x ∷ y ∷ q) l (suc i) h = on up (y ∷ q) l.1 i (omega arith)

stop : (up q : List ℕ) → Leads up q → (i : ℕ) → suc i ≡ length q → get_or up (get_or q i 0) 0 ≡ get_or q i 0
stop up [] l i h = let z : ⊥ = omega arith in absurd z
stop up (x ∷ []) l zero h = l
stop up (x ∷ []) l (suc i) h = let z : ⊥ = omega arith in absurd z
stop up (x ∷ y ∷ q) l zero h = let z : ⊥ = omega arith in absurd z
stop up (x ∷ y ∷ q) l (suc i) h = stop up (y ∷ q) l.1 i (omega arith)

differ : (q : List ℕ) → Once q → (i : ℕ) → suc i < length q → get_or q (suc i) 0 ≡ get_or q i 0 → ⊥
differ q o i h e = omega (arith, at_place q i o (omega arith), at_place q (suc i) o h, ap (λ x. place x q) e)

-- ---- how many steps are left

-- steps from v to one that leads to itself, where they are at most f
pub steps : ℕ → List ℕ → ℕ → ℕ
steps zero up v = 0
steps (suc f) up v = ite (ℕ_discrete (get_or up v 0) v) 0 (suc (steps f up (get_or up v 0)))

steps_are : (up q : List ℕ) → Leads up q → Once q → (f i : ℕ) → i < length q → length q ≤ suc (f + i) → steps f up (get_or q i 0) + suc i ≡ length q
unfolding steps
steps_are up q l o zero i h k = omega arith
steps_are up q l o (suc f) i h k = step (dec_lt (suc i) (length q)) (steps_are up q l o f (suc i))
  where
    step : Dec (suc i < length q) → (suc i < length q → length q ≤ suc (f + suc i) → steps f up (get_or q (suc i) 0) + suc (suc i) ≡ length q) → steps (suc f) up (get_or q i 0) + suc i ≡ length q
    step (yes m) r =
        let e = on up q l i m in
        let n : steps (suc f) up (get_or q i 0) ≡ suc (steps f up (get_or q (suc i) 0)) =
        if_neg (ℕ_discrete (get_or up (get_or q i 0) 0) (get_or q i 0)) (λ z. differ q o i m (sym e ∙ z)) 0 (suc (steps f up (get_or up (get_or q i 0) 0))) ∙ ap (λ x. suc (steps f up x)) e in
        omega (arith, r m (omega arith))
    step (no m) r =
        let n : steps (suc f) up (get_or q i 0) ≡ 0 =
        if_pos (ℕ_discrete (get_or up (get_or q i 0) 0) (get_or q i 0)) (stop up q l i (omega arith)) 0 (suc (steps f up (get_or up (get_or q i 0) 0))) in
        omega arith

-- ---- the two on the path

-- one has gone k steps along q, and the other twice as many
pub record Half (q : List ℕ) (slow fast : ℕ) : Type 0 where
  pub gone : ℕ
  pub within : 2 * gone < length q
  pub is_slow : slow ≡ get_or q gone 0
  pub is_fast : fast ≡ get_or q (2 * gone) 0

module _ {up : List ℕ} {v : ℕ} {p : List ℕ} (t : Trail up v p) where
  pub begin : Half (v ∷ p) v v
  begin = record { gone = 0; within = omega arith; is_slow = refl; is_fast = refl }

  short : length (v ∷ p) ≤ size
  short = omega (arith, up_to_length size, fits (v ∷ p) (up_to size) t.once (λ w m. let i = t.inside w m in up_to_in size w i.0 i.1))

  at : (i : ℕ) → i < length (v ∷ p) → (1 ≤ get_or (v ∷ p) i 0) × (get_or (v ∷ p) i 0 ≤ size)
  at i l = t.inside (get_or (v ∷ p) i 0) (at_in (v ∷ p) i 0 l)

  module _ {slow fast : ℕ} (h : Half (v ∷ p) slow fast) where
    pub slow_in : slow ≤ size
    slow_in = rw h.is_slow (at h.gone (omega (arith, h.within))).1

    pub fast_in : fast ≤ size
    fast_in = rw h.is_fast (at (2 * h.gone) h.within).1

    -- the note at the place where one stands
    ends : (i x : ℕ) → x ≡ get_or (v ∷ p) i 0 → i < length (v ∷ p) → get_or up x 0 ≡ x → suc i ≡ length (v ∷ p)
    ends i x q l e = step (dec_lt (suc i) (length (v ∷ p)))
      where
        step : Dec (suc i < length (v ∷ p)) → suc i ≡ length (v ∷ p)
        step (yes m) = absurd (differ (v ∷ p) t.once i m (sym (on up (v ∷ p) t.leads i m) ∙ rw q at e))
        step (no m) = omega arith

    goes : (i x : ℕ) → x ≡ get_or (v ∷ p) i 0 → i < length (v ∷ p) → (get_or up x 0 ≡ x → ⊥) → suc i < length (v ∷ p)
    goes i x q l n = step (dec_lt (suc i) (length (v ∷ p)))
      where
        step : Dec (suc i < length (v ∷ p)) → suc i < length (v ∷ p)
        step (yes m) = m
        step (no m) = absurd (n (rw q (stop up (v ∷ p) t.leads i (omega arith))))

    -- ---- its middle

    -- the other is at the end
    pub one : get_or up fast 0 ≡ fast → (slow ≡ middle₁ (v ∷ p)) × (slow ≡ middle₂ (v ∷ p))
    unfolding middle₁ middle₂
    one e =
        let l : suc (2 * h.gone) ≡ length (v ∷ p) = ends (2 * h.gone) fast h.is_fast h.within e in
        let a : (length (v ∷ p) - 1) / 2 ≡ h.gone = omega arith in
        let b : length (v ∷ p) / 2 ≡ h.gone = omega arith in
        (h.is_slow ∙ rw a refl, h.is_slow ∙ rw b refl)

    module _ (n : get_or up fast 0 ≡ fast → ⊥) where
      past : suc (2 * h.gone) < length (v ∷ p)
      past = goes (2 * h.gone) fast h.is_fast h.within n

      is_next : get_or up fast 0 ≡ get_or (v ∷ p) (suc (2 * h.gone)) 0
      is_next = rw h.is_fast (on up (v ∷ p) t.leads (2 * h.gone) past)

      slow_next : get_or up slow 0 ≡ get_or (v ∷ p) (suc h.gone) 0
      slow_next = rw h.is_slow (on up (v ∷ p) t.leads h.gone (omega (arith, past)))

      pub next_in : get_or up fast 0 ≤ size
      next_in = rw is_next (at (suc (2 * h.gone)) past).1

      -- the other is next to the end
      pub two : get_or up (get_or up fast 0) 0 ≡ get_or up fast 0 → (slow ≡ middle₁ (v ∷ p)) × (get_or up slow 0 ≡ middle₂ (v ∷ p))
      unfolding middle₁ middle₂
      two e =
          let l : suc (suc (2 * h.gone)) ≡ length (v ∷ p) = ends (suc (2 * h.gone)) (get_or up fast 0) is_next past e in
          let a : (length (v ∷ p) - 1) / 2 ≡ h.gone = omega arith in
          let b : length (v ∷ p) / 2 ≡ suc h.gone = omega arith in
          (h.is_slow ∙ rw a refl, slow_next ∙ rw b refl)

      module _ (m : get_or up (get_or up fast 0) 0 ≡ get_or up fast 0 → ⊥) where
        further : suc (suc (2 * h.gone)) < length (v ∷ p)
        further = goes (suc (2 * h.gone)) (get_or up fast 0) is_next past m

        is_second : get_or up (get_or up fast 0) 0 ≡ get_or (v ∷ p) (2 * suc h.gone) 0
        is_second =
            let e : 2 * suc h.gone ≡ suc (suc (2 * h.gone)) = omega arith in
            rw (is_next, e) (on up (v ∷ p) t.leads (suc (2 * h.gone)) further)

        pub again : Half (v ∷ p) (get_or up slow 0) (get_or up (get_or up fast 0) 0)
        again = record { gone = suc h.gone; within = omega (arith, further); is_slow = slow_next; is_fast = is_second }

        pub less : steps size up (get_or up (get_or up fast 0) 0) < steps size up fast
        less =
            let a = steps_are up (v ∷ p) t.leads t.once size (2 * h.gone) h.within (omega (arith, short)) in
            let b = steps_are up (v ∷ p) t.leads t.once size (2 * suc h.gone) (omega (arith, further)) (omega (arith, short)) in
            rw (is_second, h.is_fast) (omega (arith, a, b))
