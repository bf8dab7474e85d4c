-- Document 01, "Skeletons to hold it against": a row of the table, about the definitions that the promises cite; and document 02, wish 3: "For 220010
-- the classes then read 1 2 3 3 4 5." The table is `table`. Assumes nothing.
use Rattle.std.specs.Prelude.{◌≡◌, List, ℕ}
use Rattle.limits.specs.document.Limits.{size, valence}
use Rattle.skeleton.specs.document.Skeleton.{IsSkeleton}
use Rattle.form.specs.document.Form.{IsNTuple, IsCentred}
use Rattle.bits.specs.document.Written.{Numbers}
use Rattle.adjacency.specs.document.Adjacency as A
use Rattle.orbits.specs.document.Carried.{ClassesOf}
use Rattle.zurkhovel.specs.document.Matrix.{ByCode}

-- a row: the skeleton of N vertices with the edges E has the centred code c and the N-tuple code d, and x is the whole number of c
pub record Figure (N : ℕ) (E c d : List ℕ) (x : ℕ) : Type 0 where
  pub skeleton : IsSkeleton size valence N E
  pub centre : IsCentred N E c
  pub n-tuple : IsNTuple N E d
  pub whole : Numbers c x

-- a row whose vertices have the classes l, in the numbering of c
pub record Classed (N : ℕ) (E c d : List ℕ) (x : ℕ) (l : List ℕ) : Type 0 where
  pub figure : Figure N E c d x
  pub alike : ClassesOf c l

-- 001's line: the CAM f "with N is" the skeleton of a row, with the edges that f decodes to, the 0A z and the A0 a; "its numbering by code has"
-- the CAM g and the 0A y
pub record Numbered (N : ℕ) (E c d : List ℕ) (x : ℕ) (f : List ℕ) (z a : ℕ) (g : List ℕ) (y : ℕ) : Type 0 where
  pub figure : Figure N E c d x
  pub edges : E ≡ A.cam_edges_lem f
  pub physical : A.Physical N E
  pub cam : f ≡ A.cam N E
  pub zero_a_lem : z ≡ A.zero_a_lem (A.cam N E)
  pub a_zero_lem : a ≡ A.a_zero_lem N E
  pub cam-by-code : ByCode (A.cam N) N E g
  pub zeroA-by-code : ByCode (λ F. A.zero_a_lem (A.cam N F)) N E y
