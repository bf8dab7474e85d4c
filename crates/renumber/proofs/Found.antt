-- Two skeletons with N vertices and the atoms l and k, of which the marks of the centred codes are written, each with its order: what is answered, as the
-- codes are equal or not. Then where every vertex is carbon. Assumes nothing.
use mathlib.Core.Path.{◌≡◌, refl, sym, ◌∙◌}
use mathlib.Core.List.{List, map}
use Prim.Native.Nat.{ℕ, ◌≤◌, ◌<◌}
use lib.ListN.{length, take}
use Rattle.refusal.specs.document.Table.{Outcome, gives, refuses, Writes}
use Rattle.refusal.specs.Giving.{written}
use Rattle.skeleton.specs.document.Skeleton.{IsTree}
use Rattle.skeleton.specs.document.Label.{rootedₗ}
use Rattle.skeleton.specs.document.Atom.{Atom}
use Rattle.skeleton.specs.document.AtomMarks.{atoms}
use Rattle.skeleton.specs.Carbon.{carbon, carbon_mark}
use Rattle.form.specs.Labelled.{centred_formₗ}
use Rattle.form.specs.Rewritten.{centred-carbon}
use Rattle.form_coder.specs.Numbered.{Numberedₗ}
use Rattle.form_coder.specs.Sums.{middles-carbon}
use Rattle.renumber.specs.Parts.{Listed, Placed, FoundKept, Found, hands, lacks, differs, LookedKept, LookedAt, both}
use Rattle.renumber.specs.Kept.{some_handed_kept, placed_handed_kept, listed_kept, handed-carbon}

module _ (l k : ℕ → Atom) {N : ℕ} {E F : List ℕ} (t : IsTree N E) (u : IsTree N F) (o p : List ℕ) {old a rest b : List ℕ}
    (v : Writes (Numberedₗ l N E (take N o)) old N a) (w : Writes (Numberedₗ k N F (take N p)) rest N b) where
  -- as they are compared
  codes : take N a ≡ take N b → rootedₗ atoms l N E v.right.root ≡ rootedₗ atoms k N F w.right.root
  codes e = sym v.right.code ∙ sym (written v) ∙ e ∙ written w ∙ w.right.code

  pub found-listed : Listed N o
  found-listed = listed_kept atoms l k t v.right.rule o v.right.order

  module _ {out new : List ℕ} where
    pub found-other : (take N a ≡ take N b → ⊥) → new ≡ out → FoundKept l k N E F out new (gives 0)
    found-other n e =
        differs (λ c x y. n (written v ∙ (centred_formₗ atoms).one N E l t v.right.right x ∙ (centred_formₗ atoms).one N F k u y w.right.right ∙ sym (written w))) e

    pub found-short : take N a ≡ take N b → length out < N → new ≡ out → FoundKept l k N E F out new (refuses 15 N)
    found-short e h f = lacks (some_handed_kept atoms l k t u v.right.rule w.right.rule (codes e)).1 h f

    pub found-same : take N a ≡ take N b → N ≤ length out → Placed N o p out new N → FoundKept l k N E F out new (gives N)
    found-same e h z = hands h (placed_handed_kept atoms l k t u v.right.rule w.right.rule (codes e) o p out v.right.order w.right.order h z)

-- ---- carbon

module _ {N : ℕ} {E F : List ℕ} where
  pub found-carbon : {old new : List ℕ} {o : Outcome ℕ} → FoundKept carbon carbon N E F old new o → Found N E F old new o
  found-carbon (hands h w) = hands h (record { result = w.result; right = (handed-carbon N E N F w.result).0 w.right; count = w.count; lies = w.lies })
  found-carbon (lacks {w} x h e) = lacks ((handed-carbon N E N F w).0 x) h e
  found-carbon (differs n e) =
      differs (λ c x y. n (map carbon_mark c) ((centred-carbon N E (map carbon_mark c)).1 (c, refl, x)) ((centred-carbon N F (map carbon_mark c)).1 (c, refl, y))) e

  pub looked-carbon : {n : ℕ} → IsTree N E → IsTree N F → LookedKept carbon carbon N E F n → LookedAt N E F n
  looked-carbon t u (both x y) = both (middles-carbon t x) (middles-carbon u y)
