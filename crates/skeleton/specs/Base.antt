-- Document 01's rooted codes are the labelled ones at one label, where a vertex's mark is its digit; and the caps on digits are the bound
-- on degrees. Assumes nothing.
use Rattle.std.specs.Prelude.{◌≡◌, refl, ◌↔◌, List, [], ◌∷◌, map, ℕ, zero, suc, ◌+◌, ◌≤◌, length}
use Rattle.std.proofs.Common.{sym, ◌∙◌, map-id, arith}
use Rattle.laws.specs.Places.{place_at}
use Rattle.digit_code.specs.document.Code.{digit, sum, cap}
use Rattle.digit_code.specs.Ends.{Ends, ends_open}
use Rattle.skeleton.specs.document.Skeleton.{Arc, arcs, children, join, code_at, rooted}
use Rattle.skeleton.specs.IsRooted.{IsRooted}
use Rattle.skeleton.specs.Forest.{Forest}
use Rattle.skeleton.specs.document.Label.{Marks, joinₗ, codeₗ, rootedₗ, digits}
use Rattle.skeleton.specs.Label.{IsRootedₗ, Fits}
use Rattle.skeleton.specs.Decoding.{shape, marks, marks-digits}
use Rattle.skeleton.specs.Degree.{fits_capped}

-- one label, and the digit for the mark
abbrev pub base : Marks
base = record { Label = Unit {0}; mark = λ k a. k; arity = λ m. m; atom = λ m. tt; arity_mark = λ k a. refl; atom_mark = λ k a. refl; mark_of = λ m. refl }

pub code-base : (l : ℕ → Unit {0}) (n : ℕ) (A : List Arc) (p v : ℕ) → codeₗ base l n A p v ≡ code_at n A p v
unfolding codeₗ code_at join joinₗ
code-base l zero A p v = refl
code-base l (suc n) A p v = λ i. join (map (λ w. code-base l n A v w i) (children A p v))

pub rooted-base : (l : ℕ → Unit {0}) (N : ℕ) (E : List ℕ) (r : ℕ) → rootedₗ base l N E r ≡ rooted N E r
unfolding rootedₗ rooted
rooted-base l N E r = code-base l N (arcs E) 0 r

pub digits-base : (c : List ℕ) → digits base c ≡ c
unfolding digits
digits-base c = map-id c

pub is_rooted : (c : List ℕ) → IsRooted c ↔ IsRootedₗ base c
is_rooted c = (
  λ x. record {
    number = x.number;
    edges = x.edges;
    label = λ v. tt;
    root = x.root;
    tree = x.tree;
    inside = x.inside;
    is = x.is ∙ sym (rooted-base (λ v. tt) x.number x.edges x.root);
  },
  λ x. record {
    number = x.number;
    edges = x.edges;
    root = x.root;
    tree = x.tree;
    inside = x.inside;
    is = x.is ∙ rooted-base x.label x.number x.edges x.root;
  },
)

pub marks-base : (l : ℕ → Unit {0}) (f : Forest) → marks base l f ≡ shape f
marks-base l f = sym (digits-base (marks base l f)) ∙ marks-digits base l f

-- every digit respects the caps
pub caps : (R : ℕ) (c : List ℕ) → Ends 1 c → Fits base (λ a. R) c ↔ ((p : ℕ) → 1 ≤ p → p ≤ length c → digit c p ≤ cap R p)
unfolding sum
caps R [] h = absurd h
caps R (k ∷ ds) h =
    fits_capped base (λ a. R) k ds (λ g d m. let (i, e) = place_at d ds m in omega (arith, g 1 (omega arith) (omega arith), ends_open (k + 0) ds h 0 (omega arith)))
