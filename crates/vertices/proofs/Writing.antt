-- Writing the classes one by one: those written, and the greatest of them. Assumes nothing.
use mathlib.Core.Path.{◌≡◌, refl, sym, ap, ◌∙◌}
use mathlib.Core.List.{List, [], ◌∷◌, ◌++◌}
use Prim.Native.Nat.{ℕ, suc, max, ◌+◌, ◌≤◌, ◌<◌}
use native.Mathlib.Nat.{le_antisymm}
use native.Mathlib.Numerals.{add-one}
use native.Mathlib.Omega.{arith}
use lib.ListN.{length, take, set}
use Rattle.laws.specs.Laid.{laid_length}
use Rattle.laws.specs.document.Laid.{laid_over, Laid}
use Rattle.laws.specs.Laying.{laid_none, laid-front, laid_more}
use Rattle.skeleton.specs.document.Label.{digits}
use Rattle.skeleton.specs.document.AtomMarks.{atoms}
use Rattle.orbits.specs.Found.{greatest, class_of}
use Rattle.orbits.specs.Appearance.{greatest-more}
use Rattle.orbits.specs.Classes.{toldₗ, told_length, told_most, classesₗ}
use Rattle.vertices.specs.Search.{test?}

-- the classes of the first n vertices
abbrev told : List ℕ → ℕ → List ℕ
told c n = toldₗ atoms (digits atoms c) c n

-- the classes of the first i vertices are written over `old`, and the greatest of them is top
pub record Writing (c old out : List ℕ) (top i : ℕ) : Type 0 where
  pub within : i ≤ length c
  pub room : length c ≤ length old
  pub lies : out ≡ laid_over (told c i) old
  pub last : top ≡ greatest (told c i)

pub writing_none : {c old : List ℕ} → length c ≤ length old → Writing c old old 0 0
unfolding toldₗ greatest
writing_none {old = old} h = record { within = omega arith; room = h; lies = laid_none old; last = refl }

module _ {c old out : List ℕ} {top i : ℕ} (w : Writing c old out top i) where
  -- the output keeps its length
  pub writing_length : length out ≡ length old
  writing_length = ap length w.lies ∙ laid_length (told c i) old (omega (arith, w.within, w.room, told_length atoms (digits atoms c) c i))

  -- no class is above the number of vertices
  pub writing_low : top ≤ i
  writing_low = omega (arith, w.last, told_most atoms (digits atoms c) c i)

  pub writing_next :
      {k m : ℕ} → i < length c → k ≡ class_of (test? c (take i out)) (suc i) (top + 1) 1 (take i out) → m ≡ max top k → Writing c old (set out i k) m (i + 1)
  writing_next {k} {m} h e f =
      record {
        within = omega arith;
        room = w.room;
        lies = laid_more (told c i) old out i k w.lies (told_length atoms (digits atoms c) c i) (omega (arith, w.room)) ∙ ap (λ (l : List ℕ). laid_over l old) (sym more);
        last = omega (arith, f, w.last, ap greatest more, greatest-more (told c i) k);
      }
    where
      given : k ≡ class_of (test? c (told c i)) (suc i) (suc (greatest (told c i))) 1 (told c i)
      given =
          e
          ∙ ap (λ (l : List ℕ). class_of (test? c l) (suc i) (top + 1) 1 l) (laid-front (told c i) old out i w.lies (told_length atoms (digits atoms c) c i))
          ∙ ap (λ (x : ℕ). class_of (test? c (told c i)) (suc i) x 1 (told c i)) (add-one top ∙ ap suc w.last)

      more : told c (i + 1) ≡ told c i ++ (k ∷ [])
      more = unfold toldₗ in ap (told c) (add-one i) ∙ ap (λ (x : ℕ). told c i ++ (x ∷ [])) (sym given)

  -- all classes are written
  pub writing_all : length c ≤ i → Laid (classesₗ atoms (digits atoms c) c) old out i
  unfolding classesₗ
  writing_all h =
      let e : i ≡ length c = le_antisymm w.within h in
      record { count = e ∙ sym (told_length atoms (digits atoms c) c (length c)); lies = w.lies ∙ ap (λ (n : ℕ). laid_over (told c n) old) e }
