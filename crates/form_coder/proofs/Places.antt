-- The numbering by code, from the order of the vertices: a table with the place of each, and the ends of the edges looked up in it.
--
-- In order: filling the table; the edges. Assumes nothing.
use mathlib.Core.Path.{◌≡◌, refl, sym, ap, ◌∙◌}
use mathlib.Core.List.{List, map, Memᴰ}
use Prim.Native.Nat.{ℕ, ◌+◌, ◌≤◌, ◌<◌}
use native.Mathlib.Decide.{ℕ_discrete}
use native.Mathlib.Numerals.{add-one}
use native.Mathlib.Omega.{arith}
use lib.ListN.{length, get_or, take, set, length-set, length-map}
use lib.Seq.{length-take-le, take_all, get_or-take, get_or-set_same, get_or-set_other}
use Rattle.laws.specs.document.Once.{Once}
use Rattle.laws.specs.document.Laid.{laid_over}
use Rattle.laws.specs.Places.{place, place_at, at_place}
use Rattle.refusal.specs.document.Table.{Writes}
use Rattle.skeleton.specs.document.Skeleton.{IsTree}
use Rattle.numbering.specs.document.Order.{order}
use Rattle.numbering.specs.Numbers.{Numbers}
use Rattle.numbering.proofs.Numbers.{order-numbers}
use Rattle.numbering.specs.Same.{map_in}
use Rattle.rooted_coder.specs.Ordered.{mark_of}
use Rattle.form_coder.specs.Numbered.{Numbered, Counts, ByPlace}

-- ---- the table

-- before the one at i
pub record Counted (o : List ℕ) (n : ℕ) (t : List ℕ) (i : ℕ) : Type 0 where
  pub within : i ≤ n
  pub long : length t ≡ 256
  pub counts : Counts o i t

pub counted_none : (o : List ℕ) (n : ℕ) {t : List ℕ} → length t ≡ 256 → Counted o n t 0
counted_none o n h = record { within = omega arith; long = h; counts = λ i l. let z : ⊥ = omega arith in absurd z }

module _ (o : List ℕ) (n : ℕ) (fits : n ≤ length o) (once : Once (take n o)) where
  -- each stands at one place
  placed : (i : ℕ) → i < n → place (get_or o i 0) (take n o) ≡ i
  placed i h = ap (λ v. place v (take n o)) (sym (get_or-take n o i 0 h)) ∙ at_place (take n o) i once (omega (arith, length-take-le n o fits))

  pub counted-more : {t : List ℕ} {i : ℕ} → Counted o n t i → i < n → get_or o i 0 < 256 → Counted o n (set t (get_or o i 0) (i + 1)) (i + 1)
  counted-more {t} {i} c h l =
      record {
        within = omega arith;
        long = simp length-set c.long;
        counts = λ j k. elim (ℕ_discrete j i) [
          | yes e ↦ rw e (get_or-set_same t (get_or o i 0) (i + 1) 0 (omega (arith, c.long)) ∙ add-one i)
          | no m ↦ get_or-set_other t (get_or o i 0) (get_or o j 0) (i + 1) 0 (λ e. m (sym (placed j (omega arith)) ∙ ap (λ v. place v (take n o)) e ∙ placed i h)) ∙ c.counts j (omega arith)
        ];
      }

-- ---- the edges

module _ {N : ℕ} {E : List ℕ} (o : List ℕ) {c : List ℕ} (tree : IsTree N E) (x : Numbered N E (take N o) c) where
  numbered_by : Numbers N E x.root (order N E x.root)
  numbered_by = order-numbers N E x.root tree x.inside.0 x.inside.1

  pub order_once : Once (take N o)
  order_once = rw x.order numbered_by.once

  pub by_code-written :
      (t old : List ℕ) {new : List ℕ} → Counts o N t → new ≡ laid_over (map (mark_of t) (take (length E) E)) old → Writes (ByPlace N E) old (length E) new
  by_code-written t old k e =
      let (ρ, first, to, from) = numbered_by.numbers in
      let found : (v : ℕ) → Memᴰ v E → get_or t v 0 ≡ ρ.to v = λ v m.
      let (a, b) = tree.inside v m in
      let (h, at) = place_at v (order N E x.root) (numbered_by.has v a b) in
      let i : ℕ = place v (order N E x.root) in
      let l : i < N = omega (arith, numbered_by.all) in
      let there : get_or o i 0 ≡ v = sym (get_or-take N o i 0 l) ∙ ap (λ s. get_or s i 0) x.order ∙ at in
      ap (λ u. get_or t u 0) (sym there) ∙ k i l ∙ sym (to v) in
      record {
        result = map ρ.to E;
        right = record { root = x.root; right = rw x.code at x.right; numbering = ρ; places = to; is = refl };
        count = sym (length-map E ρ.to);
        lies = e ∙ ap (λ l. laid_over l old) (ap (map (mark_of t)) (take_all (length E) E (omega arith)) ∙ map_in (mark_of t) ρ.to E found);
      }
