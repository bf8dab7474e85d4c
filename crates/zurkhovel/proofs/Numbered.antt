-- The edges of a skeleton in the numbering by code, written and lent to the writers of matrices.
--
-- In order: the edges as they were written; as the writers take them, and their 0A and A0; their CAM. Assumes nothing.
use mathlib.Core.Path.{◌≡◌, refl, sym, ap, ◌∙◌}
use mathlib.Core.List.{List}
use Prim.Native.Nat.{ℕ, ◌-◌, ◌≤◌, ◌<◌}
use lib.ListN.{length, take}
use lib.Seq.{length-take-le}
use Rattle.laws.specs.document.Laid.{laid_over}
use Rattle.refusal.specs.document.Table.{Clear, Writes, gives, refuses, Gives, Answered, kept}
use Rattle.refusal.specs.Giving.{given, written, written-room}
use Rattle.refusal.proofs.Giving.{refused-short}
use Rattle.limits.specs.document.Limits.{size}
use Rattle.digit_code.specs.document.Code.{decode}
use Rattle.skeleton.specs.document.Skeleton.{IsSkeleton, rooted}
use Rattle.form_coder.specs.document.Pairs.{CentredPairs}
use Rattle.form_coder.specs.Numbered.{ByPlace}
use Rattle.adjacency.specs.document.Adjacency.{Physical, cam, zero_a_lem, a_zero_lem}
use Rattle.adjacency.specs.Coded.{cam_length}
use Rattle.adjacency.specs.Renumber.{renumbered_skeleton, renumbered_physical, renumbered_cam, renumbered_a_zero}
use Rattle.zurkhovel.specs.document.Matrix.{NumberedByCode, ByCode}
use Rattle.zurkhovel.specs.RoundMatrix.{by_code-skeleton, by_code-physical, by_code_length}
use Rattle.refusal.specs.document.Reported.{Reporting}
use Rattle.zurkhovel.specs.Rooting.{ListedByCode}
use Rattle.zurkhovel.specs.Accepted.{skeleton_of, table_of}
use Rattle.limits.specs.Width.{width}
use Rattle.zurkhovel.specs.document.InEdition.{edge_table}

-- the edges that were written
pub listed_by_code :
    {e most N n : ℕ} {E old new : List ℕ} → Clear (edge_table e most N E 1) → Writes (ByPlace N E) old (length E) new → CentredPairs N E n
    → ListedByCode e most N E new n
listed_by_code k w e = record { clear = k; renumbered = rw (written w) w.right; within = written-room w; count = e }

-- the edges by code, as the writers of matrices take them
module _ {e most N n : ℕ} {E ends : List ℕ} (t : ListedByCode e most N E ends n) where
  -- the edges by code as they are decoded
  abbrev decoded : List ℕ
  decoded = decode (rooted N E t.renumbered.root)

  by_code : NumberedByCode N E decoded
  by_code = record { code = rooted N E t.renumbered.root; right = t.renumbered.right; edges = refl }

  decoded-physical : Physical N decoded
  decoded-physical = by_code-physical (skeleton_of t.clear) by_code

  pub ends_length : length (take (length E) ends) ≡ length E
  ends_length = length-take-le (length E) ends t.within

  pub ends_skeleton : IsSkeleton most width N (take (length E) ends)
  ends_skeleton =
      let s = table_of t.clear in
      rw t.renumbered.is (renumbered_skeleton t.renumbered.numbering decoded-physical (by_code-skeleton s by_code) (sym (by_code_length s by_code)))

  pub ends_physical : Physical N (take (length E) ends)
  ends_physical = rw t.renumbered.is (renumbered_physical t.renumbered.numbering decoded-physical)

  -- what is made of them is made by code
  made_by_code : {A : Type 0} (of : List ℕ → A) {a : A} → of (take (length E) ends) ≡ of decoded → a ≡ of (take (length E) ends) → ByCode of N E a
  made_by_code of f e = record { edges = decoded; numbering = by_code; is = e ∙ f }

  ends_cam : cam N (take (length E) ends) ≡ cam N decoded
  ends_cam = rw t.renumbered.is (renumbered_cam t.renumbered.numbering decoded-physical)

  ends_a_zero : a_zero_lem N (take (length E) ends) ≡ a_zero_lem N decoded
  ends_a_zero = rw t.renumbered.is (renumbered_a_zero t.renumbered.numbering decoded-physical)

  pub zero_a-value : {x : ℕ} → x ≡ zero_a_lem (cam N (take (length E) ends)) → Reporting (Answered (edge_table e most N E 1) (ByCode (λ F. zero_a_lem (cam N F)) N E)) (CentredPairs N E) (gives x) n
  zero_a-value e = record { promised = kept t.clear (made_by_code (λ F. zero_a_lem (cam N F)) (ap zero_a_lem ends_cam) e); reported = t.count }

  pub a_zero-value : {x : ℕ} → x ≡ a_zero_lem N (take (length E) ends) → Reporting (Answered (edge_table e most N E 1) (ByCode (a_zero_lem N) N E)) (CentredPairs N E) (gives x) n
  a_zero-value e = record { promised = kept t.clear (made_by_code (a_zero_lem N) ends_a_zero e); reported = t.count }

-- the CAM by code
cam-sized : (N : ℕ) (E c : List ℕ) → ByCode (cam N) N E c → length c ≡ N - 1
cam-sized N E c b = ap length b.is ∙ cam_length N b.edges

module _ {e N n : ℕ} {E ends old new : List ℕ} (t : ListedByCode e size N E ends n) where
  pub cam-short : length old < N - 1 → new ≡ old → Gives (edge_table e size N E 1) (ByCode (cam N) N E) old new (refuses 15 (N - 1))
  cam-short h e = refused-short t.clear (cam-sized N E) (made_by_code t (cam N) (ends_cam t) refl) h e

  pub cam-given :
      N - 1 ≤ length old → new ≡ laid_over (cam N (take (length E) ends)) old → Gives (edge_table e size N E 1) (ByCode (cam N) N E) old new (gives (N - 1))
  cam-given h e =
      let F = take (length E) ends in
      given t.clear (cam-sized N E) h (record { result = cam N F; right = made_by_code t (cam N) (ends_cam t) refl; count = sym (cam_length N F); lies = e })
