-- Document 01, "Skeletons to hold it against": the rows marked P and 001's line below them, as one table about the definitions that the
-- promises of the calls cite. The rows of butane, neopentane and 2-methylpentane have the classes of document 02, wish 3, beside them.
--
-- Where a skeleton has a name, its longest chain is numbered along, and its branches behind that. 002's example has the numbers of its code,
-- and 001's skeleton has 001's own. What a row says is in `document.Figures`. Assumes nothing.
use Rattle.std.specs.Prelude.{◌≡◌, refl, ℕ, ◌-◌, ◌*◌, ◌^◌, ◌<◌, length}
use Rattle.std.proofs.Common.{subst, arith}
use Rattle.std.proofs.Math.Logic.{Dec.and as dec_and, Dec.not as dec_not}
use mathlib.Core.List.{List, [], ◌∷◌, ◌++◌, flatten}
use Rattle.std.proofs.Math.Decide.{ℕ_discrete, dec_lt}
use Rattle.laws.specs.document.Order.{dec≽, insert, sort}
use Rattle.laws.specs.Perms.{dec_in}
use Rattle.laws.specs.Once.{up_to}
use Rattle.limits.specs.document.Limits.{size, valence}
use Rattle.digit_code.specs.document.Code.{codes, sum, edges_from, decode}
use Rattle.skeleton.specs.document.Skeleton.{arcs, neighbours, degree, IsSkeleton, children, join, code_at, rooted}
use Rattle.numbering.specs.document.Decoded.{parent}
use Rattle.longest_path.specs.document.Path.{middle₁, middle₂}
use Rattle.longest_path.specs.Run.{seek, sift, dec_two, peel}
use Rattle.form.specs.document.Form.{IsNTuple, IsCentred}
use Rattle.form.specs.One.{largest, some_n_tuple}
use Rattle.form.specs.Computed.{left, larger, computed}
use Rattle.bits.specs.document.Bits.{bit, bits, word}
use Rattle.adjacency.specs.document.Mixed.{mixed}
use Rattle.adjacency.specs.document.Adjacency as A
use Rattle.adjacency.specs.Entries.{none, more, cam-physical}
use Rattle.orbits.specs.document.Carried.{ClassesOf}
use Rattle.orbits.specs.Found.{greatest, class_of, same?}
use Rattle.orbits.specs.Classes.{testₗ, toldₗ, classesₗ, classes}
use Rattle.orbits.proofs.Theorems.{classes_of}
use Rattle.zurkhovel.specs.document.Matrix.{ByCode}
use Rattle.zurkhovel.specs.document.Figures.{Figure, Classed, Numbered}

row :
    {N : ℕ} {E c d : List ℕ} {x : ℕ} → IsSkeleton size valence N E × IsCentred N E c × IsNTuple N E d → word (2 * length c - 1) x ≡ bits c ++ []
    → x < 2 ^ (2 * length c - 1) → Figure N E c d x
row (s, c, d) e l =
    record { skeleton = s; centre = c; n-tuple = d; whole = record { carries = record { fill = []; same = e; may = refl }; below = l } }

classed : {N : ℕ} {E c d : List ℕ} {x : ℕ} {l : List ℕ} → Figure N E c d x → classes c ≡ l → Classed N E c d x l
classed {N} {E} {c} r e = record { figure = r; alike = subst (ClassesOf c) e (classes_of N E c r.skeleton.tree r.centre) }

-- the numbering by code is that of the row's centred code
by_code : {B : Type 0} {of : List ℕ → B} {N : ℕ} {E c : List ℕ} {b : B} → IsCentred N E c → b ≡ of (decode c) → ByCode of N E b
by_code {c = c} x e = record { edges = decode c; numbering = record { code = c; right = x; edges = refl }; is = e }

numbered :
    {N : ℕ} {E c d : List ℕ} {x : ℕ} {f : List ℕ} {z a : ℕ} {g : List ℕ} {y : ℕ} → Figure N E c d x → E ≡ A.cam_edges_lem f → A.Physical N E → f ≡ A.cam N E
    → z ≡ A.zero_a_lem (A.cam N E) → a ≡ A.a_zero_lem N E → g ≡ A.cam N (decode c) → y ≡ A.zero_a_lem (A.cam N (decode c)) → Numbered N E c d x f z a g y
numbered r e p f z a g y =
    record { figure = r; edges = e; physical = p; cam = f; zero_a_lem = z; a_zero_lem = a; cam-by-code = by_code r.centre g; zeroA-by-code = by_code r.centre y }

pub table :
    -- one vertex
    Figure 1 [] (0 ∷ []) (0 ∷ []) 0
    -- two
    × Figure 2 (1 ∷ 2 ∷ []) (1 ∷ 0 ∷ []) (1 ∷ 0 ∷ []) 4
    -- propane
    × Figure 3 (1 ∷ 2 ∷ 2 ∷ 3 ∷ []) (2 ∷ 0 ∷ 0 ∷ []) (2 ∷ 0 ∷ 0 ∷ []) 24
    -- butane
    × Classed 4 (1 ∷ 2 ∷ 2 ∷ 3 ∷ 3 ∷ 4 ∷ []) (2 ∷ 1 ∷ 0 ∷ 0 ∷ []) (2 ∷ 1 ∷ 0 ∷ 0 ∷ []) 104 (1 ∷ 1 ∷ 2 ∷ 2 ∷ [])
    -- isobutane
    × Figure 4 (1 ∷ 2 ∷ 2 ∷ 3 ∷ 2 ∷ 4 ∷ []) (3 ∷ 0 ∷ 0 ∷ 0 ∷ []) (3 ∷ 0 ∷ 0 ∷ 0 ∷ []) 112
    -- neopentane
    × Classed 5 (1 ∷ 2 ∷ 2 ∷ 3 ∷ 2 ∷ 4 ∷ 2 ∷ 5 ∷ []) (4 ∷ 0 ∷ 0 ∷ 0 ∷ 0 ∷ []) (4 ∷ 0 ∷ 0 ∷ 0 ∷ 0 ∷ []) 480 (1 ∷ 2 ∷ 2 ∷ 2 ∷ 2 ∷ [])
    -- 2-methylpentane, the whole number of its centred code
    × Classed 6 (1 ∷ 2 ∷ 2 ∷ 3 ∷ 3 ∷ 4 ∷ 4 ∷ 5 ∷ 2 ∷ 6 ∷ []) (2 ∷ 2 ∷ 0 ∷ 0 ∷ 1 ∷ 0 ∷ []) (3 ∷ 1 ∷ 1 ∷ 0 ∷ 0 ∷ 0 ∷ []) 1732 (1 ∷ 2 ∷ 3 ∷ 3 ∷ 4 ∷ 5 ∷ [])
    -- 3-methylhexane
    × Figure 7 (1 ∷ 2 ∷ 2 ∷ 3 ∷ 3 ∷ 4 ∷ 4 ∷ 5 ∷ 5 ∷ 6 ∷ 3 ∷ 7 ∷ []) (3 ∷ 1 ∷ 1 ∷ 0 ∷ 1 ∷ 0 ∷ 0 ∷ []) (3 ∷ 1 ∷ 1 ∷ 0 ∷ 1 ∷ 0 ∷ 0 ∷ []) 7496
    -- 002's example
    × Figure 8 (1 ∷ 2 ∷ 2 ∷ 3 ∷ 3 ∷ 4 ∷ 2 ∷ 5 ∷ 1 ∷ 6 ∷ 6 ∷ 7 ∷ 1 ∷ 8 ∷ []) (3 ∷ 2 ∷ 1 ∷ 0 ∷ 0 ∷ 1 ∷ 0 ∷ 0 ∷ []) (3 ∷ 2 ∷ 1 ∷ 0 ∷ 0 ∷ 1 ∷ 0 ∷ 0 ∷ []) 30344
    -- 001's line: 3-methylhexane in 001's numbering
    × Numbered 7 (1 ∷ 2 ∷ 2 ∷ 3 ∷ 2 ∷ 4 ∷ 3 ∷ 5 ∷ 1 ∷ 6 ∷ 6 ∷ 7 ∷ []) (3 ∷ 1 ∷ 1 ∷ 0 ∷ 1 ∷ 0 ∷ 0 ∷ []) (3 ∷ 1 ∷ 1 ∷ 0 ∷ 1 ∷ 0 ∷ 0 ∷ []) 7496
    (1 ∷ 2 ∷ 2 ∷ 3 ∷ 1 ∷ 6 ∷ []) 545 1646688 (1 ∷ 2 ∷ 3 ∷ 1 ∷ 5 ∷ 1 ∷ []) 624
unfolding classesₗ toldₗ testₗ class_of greatest same? parent codes rooted code_at join children neighbours degree arcs sort insert dec≽ flatten ℕ_discrete dec_lt dec_and dec_not dec_in seek sift dec_two peel left larger up_to middle₁ middle₂ largest some_n_tuple word bit bits decode edges_from sum mixed A.from A.lower A.entry A.cam A.entry_edges A.zero_a_lem A.column_sum A.powers A.a_zero_lem
table = (
  row (computed size valence 0 refl (omega arith) (omega arith) refl refl) refl (omega arith),
  row (computed size valence 0 refl (omega arith) (omega arith) refl refl) refl (omega arith),
  row (computed size valence 1 refl (omega arith) (omega arith) refl refl) refl (omega arith),
  classed (row (computed size valence 1 refl (omega arith) (omega arith) refl refl) refl (omega arith)) refl,
  row (computed size valence 1 refl (omega arith) (omega arith) refl refl) refl (omega arith),
  classed (row (computed size valence 1 refl (omega arith) (omega arith) refl refl) refl (omega arith)) refl,
  classed (row (computed size valence 2 refl (omega arith) (omega arith) refl refl) refl (omega arith)) refl,
  row (computed size valence 2 refl (omega arith) (omega arith) refl refl) refl (omega arith),
  row (computed size valence 2 refl (omega arith) (omega arith) refl refl) refl (omega arith),
  numbered
      (row (computed size valence 2 refl (omega arith) (omega arith) refl refl) refl (omega arith))
      refl
      (cam-physical
      7
      (1 ∷ 2 ∷ 2 ∷ 3 ∷ 1 ∷ 6 ∷ [])
      refl
      (more (omega arith) (omega arith) (more (omega arith) (omega arith) (more (omega arith) (omega arith) (more (omega arith) (omega arith) (more (omega arith) (omega arith) (more (omega arith) (omega arith) none)))))))
      refl
      refl
      refl
      refl
      refl,
)
