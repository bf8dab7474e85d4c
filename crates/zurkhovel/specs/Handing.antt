-- Two lists, by any tables and any codes: the verdict by their codes as they are compared, and the map that is handed out as it was found. Assumes nothing.
use Rattle.std.specs.Prelude.{◌≡◌, refl, true, false, List, [], ◌∷◌, ℕ, length}
use Rattle.std.proofs.Common.{sym, ◌∙◌, subst, inl, inr, arith}
use Rattle.refusal.specs.document.Table.{RowOf, Row, Clear, Outcome, gives, refuses, Answered, kept, left, short}
use Rattle.refusal.specs.document.Lists.{HandsOut}
use Rattle.refusal.specs.Laws.{clear_one}
use Rattle.refusal.proofs.Laws.{first-place}
use Rattle.refusal.specs.Lists.{maps_clear}
use Rattle.refusal.proofs.WhichList.{maps_third}
use Rattle.renumber.specs.Parts.{FoundBy, hands, lacks, differs}
use Rattle.zurkhovel.specs.document.Same.{OneCode}
use Rattle.zurkhovel.specs.document.Maps.{MapOutcome}

-- a list has one code
abbrev pub Only : (List ℕ → Type 0) → Type 0
Only C = (c d : List ℕ) → C c → C d → c ≡ d

-- the verdict on codes a and b
module _ {rows : List (RowOf (ℕ × ℕ))} {C D : List ℕ → Type 0} (k : Clear rows) {a b : List ℕ} (x : C a) (y : D b) where
  pub judged-same : a ≡ b → Answered rows (OneCode C D) (gives true)
  judged-same e = kept {a = true} k (a, x, subst D (sym e) y)

  pub judged-other : Only C → Only D → (a ≡ b → ⊥) → Answered rows (OneCode C D) (gives false)
  judged-other one two n = kept {a = false} k (λ c u v. n (one a c x u ∙ two c b v y))

-- what is told of the map
abbrev pub map_outcome : Outcome ℕ → MapOutcome
map_outcome (gives n) = gives n
map_outcome (refuses k p) = refuses (3, k) p

-- the map that is handed out, of two accepted lists
module _ {Z A B : List Row} (z : Clear Z) (k : Clear A) (l : Clear B) {N : ℕ} {Handed One Other : List ℕ → Type 0} (long : (w : List ℕ) → Handed w → length w ≡ N)
    (codes : (w : List ℕ) → Handed w → OneCode One Other true) where
  abbrev None : Type 0
  None = OneCode One Other false

  -- there is none to be written
  pub hands_none : {old new : List ℕ} → None → new ≡ old → HandsOut Z A B Handed None old new (gives 0)
  hands_none {old} n e =
      kept {a = 0}
      ((maps_clear Z A B (short Handed (length old) ∷ [])).1 (z, k, l, clear_one {r = short Handed (length old)} (λ p (w, x, a). let (c, y, q) = codes w x in n c y q)))
      (inr (refl, e, n))

  pub hands_found : {old new : List ℕ} {o : Outcome ℕ} → FoundBy Handed One Other N old new o → HandsOut Z A B Handed None old new (map_outcome o)
  hands_found {old} (hands h w) =
      kept
      ((maps_clear Z A B (short Handed (length old) ∷ [])).1
      (z, k, l, clear_one {r = short Handed (length old)} (λ p (c, x, (e, m)). let q : ⊥ = omega (arith, long c x) in q)))
      (inl w)
  hands_found {old} (lacks {w} x h e) =
      let g : length w ≡ N = long w x in
      left
      (maps_third Z A B (short Handed (length old) ∷ []) z k l
      (first-place {r = short Handed (length old)} (w, x, (sym g, omega arith)) (λ q m (c, y, (f, n)). let r : ⊥ = omega (arith, long c y) in r))) e
  hands_found (differs n e) = hands_none n e
