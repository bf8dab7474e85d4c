-- That the edges of every right code are numbered by code: `decoded`. What this says of vertex i is in `document.Decoded`.
--
-- In order: the children's codes of a vertex of the decoded tree; its parent; `marks-decoded`, over any marks, and `decoded`. What rests on `starts` is in
-- `proofs.Decoded`. Assumes nothing.
use Rattle.std.specs.Prelude.{◌≡◌}
use mathlib.Core.List.{List, ◌∷◌, map}
use Prim.Native.Nat.{ℕ, ◌+◌, ◌-◌, ◌*◌, ◌≤◌, ◌<◌}
use Rattle.std.proofs.Math.ListN.{length, get_or}
use Rattle.digit_code.specs.document.Code.{digit, child_codes, decode}
use Rattle.skeleton.specs.document.Skeleton.{arcs, neighbours, children}
use Rattle.skeleton.specs.document.Label.{Marks, codeₗ, digits, labels}
use Rattle.numbering.specs.document.Decoded.{begins, parent}

-- ---- proofs

-- vertex i of the tree that the digits of the marks c decode to, as `IsVertex` says it of a plain code
pub record IsVertexₗ (M : Marks) (c : List ℕ) (i : ℕ) : Type 0 where
  pub edge : let ds = digits M c in 2 ≤ i → (1 ≤ parent ds i) × (parent ds i < i) × (get_or (decode ds) (2 * (i - 2) + 1) 0 ≡ i)
  pub near : let ds = digits M c in 2 ≤ i → neighbours (arcs (decode ds)) i ≡ parent ds i ∷ begins ds i
  pub below : let ds = digits M c in children (arcs (decode ds)) (parent ds i) i ≡ begins ds i
  pub many : length (begins (digits M c) i) ≡ M.arity (digit c i)
  pub coded : map (codeₗ M (labels M c) (length c) (arcs (decode (digits M c))) i) (begins (digits M c) i) ≡ child_codes M.arity c i
