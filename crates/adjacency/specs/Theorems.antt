-- CAM, 0A and A0 there and back. Each theorem stands under a plain sentence. A skeleton decoded has the same arcs, in another order. Assumes nothing.
use Rattle.std.specs.Prelude.{◌≡◌, ℕ, suc, ◌-◌, ◌*◌, ◌/◌, ◌^◌, ◌<◌, length}
use Rattle.std.proofs.Common.{ap, sym, ◌∙◌, arith}
use mathlib.Core.List.Permᴰ
use mathlib.Core.List.{List, Permᴰ}
use Rattle.refusal.specs.document.Table.{Clear}
use Rattle.laws.specs.Perms.{perm_length}
use Rattle.skeleton.specs.document.Skeleton.{arcs, IsSkeleton}
use Rattle.adjacency.specs.document.Adjacency.{a_zero_lem, a_edges_lem, a_rows, Physical, cam, cam_edges_lem, zero_a_lem, factorial, zero_cam_lem, cam_rows, zero_rows}
use Rattle.adjacency.specs.Entries.{Entries, cam_again, cam-physical}
use Rattle.adjacency.specs.Columns.{cam-edges}
use Rattle.adjacency.specs.Plain.{plain}
use Rattle.adjacency.specs.Coded.{cam-entries, cam_length}
use Rattle.adjacency.specs.Made.{made_length, cam_accepted}
use Rattle.adjacency.specs.Reorder.{reordered}
use Rattle.adjacency.specs.Accepted.{zero_accepted, a_accepted, arcs_length}
use Rattle.adjacency.specs.Listed.{Listed, cam-listed, a_listed}
use Rattle.adjacency.specs.Zero as Zero
use Rattle.adjacency.specs.Taken as Taken

-- a skeleton in a physical numbering
module _ (most R N : ℕ) (E : List ℕ) (s : IsSkeleton most R N E) (h : Physical N E) where
  -- its CAM decodes to its edges, each as (lower, higher), in order of the higher
  pub cam-decode : Permᴰ (arcs E) (arcs (cam_edges_lem (cam N E)))
  cam-decode = cam-edges N E (plain s) h

  -- and is not refused
  pub cam-read : Clear (cam_rows most R N (cam N E))
  cam-read =
      let e = made_length 1 (cam N E) in
      let l = cam_length N E in
      let same : length (cam_edges_lem (cam N E)) ≡ length E = omega (arith, s.tree.edges) in
      (cam_accepted most R N (cam N E)).1 (l, cam-entries (plain s) h, reordered same cam-decode s)

  -- its 0A stands for its CAM
  pub zero_decode : zero_cam_lem N (zero_a_lem (cam N E)) ≡ cam N E
  zero_decode =
      let e : suc (length (cam N E)) ≡ N = omega (arith, cam_length N E, s.tree.edges) in
      rw e at (Zero.zero_again (cam N E) (cam-entries (plain s) h))

  -- and is not refused
  pub zero_read : Clear (zero_rows most R N (zero_a_lem (cam N E)))
  zero_read =
      (zero_accepted most R N (zero_a_lem (cam N E))).1
      (rw (cam_length N E) at (Zero.zero_range (cam N E) (cam-entries (plain s) h)), rw zero_decode cam-read)

-- an accepted CAM makes a skeleton in a physical numbering, whose CAM it is
pub cam-code :
    (most R N : ℕ) (c : List ℕ) → Clear (cam_rows most R N c) → IsSkeleton most R N (cam_edges_lem c) × Physical N (cam_edges_lem c) × (cam N (cam_edges_lem c) ≡ c)
cam-code most R N c k = let (e, i, s) = (cam_accepted most R N c).0 k in (s, cam-physical N c e i, cam_again N c e i)

-- an accepted 0A makes one whose 0A it is
pub zero_code :
    (most R N x : ℕ) → Clear (zero_rows most R N x)
    → IsSkeleton most R N (cam_edges_lem (zero_cam_lem N x)) × Physical N (cam_edges_lem (zero_cam_lem N x)) × (zero_a_lem (cam N (cam_edges_lem (zero_cam_lem N x))) ≡ x)
zero_code most R N x k =
    let (l, m) = (zero_accepted most R N x).0 k in
    let (s, p, e) = cam-code most R N (zero_cam_lem N x) m in
    (s, p, ap zero_a_lem e ∙ Zero.zero_back N x l)

-- the edges are (lower, higher) pairs in order of the higher, then of the lower
pub cam-order : (most R N : ℕ) (c : List ℕ) → Clear (cam_rows most R N c) → Listed 0 0 (cam_edges_lem c)
cam-order most R N c k = let (e, i, s) = (cam_accepted most R N c).0 k in cam-listed c i

pub zero_order : (N x : ℕ) → Listed 0 0 (cam_edges_lem (zero_cam_lem N x))
zero_order N x = cam-listed (zero_cam_lem N x) (Zero.zero_entries N x)

pub a_order : (N x : ℕ) → Listed 0 0 (a_edges_lem N x)
a_order = a_listed

-- 0A is one-to-one from the lists of N-1 entries 1 <= CAM(i) <= i onto 0 to (N-1)!-1
pub zero_range : (c : List ℕ) → Entries 1 c → zero_a_lem c < factorial (length c)
zero_range = Zero.zero_range

pub zero_one : (c d : List ℕ) → Entries 1 c → Entries 1 d → length c ≡ length d → zero_a_lem c ≡ zero_a_lem d → c ≡ d
zero_one c d h k l e = sym (Zero.zero_again c h) ∙ (rw (l, e) (Zero.zero_again d k))

pub zero_onto : (N x : ℕ) → x < factorial (N - 1) → Entries 1 (zero_cam_lem N x) × (length (zero_cam_lem N x) ≡ N - 1) × (zero_a_lem (zero_cam_lem N x) ≡ x)
zero_onto N x h = (Zero.zero_entries N x, Zero.zero_length N x, Zero.zero_back N x h)

-- a skeleton, in any numbering
module _ (most R N : ℕ) (E : List ℕ) (s : IsSkeleton most R N E) where
  -- its A0 decodes to its edges, each as (lower, higher), in order of the higher and then of the lower
  pub a_decode : Permᴰ (arcs E) (arcs (a_edges_lem N (a_zero_lem N E)))
  a_decode = Taken.a-edges s

  -- and is not refused
  pub a_read : Clear (a_rows most R N (a_zero_lem N E))
  a_read =
      let l = Taken.a_range s in
      let o = Taken.a_ones N (a_zero_lem N E) l in
      let p = perm_length a_decode in
      let e : length (a_edges_lem N (a_zero_lem N E)) ≡ length E = omega (arith, arcs_length E, arcs_length (a_edges_lem N (a_zero_lem N E)), s.tree.edges) in
      (a_accepted most R N (a_zero_lem N E)).1 (l, reordered e a_decode s)

-- an accepted A0 makes a skeleton whose A0 it is
pub a_code : (most R N x : ℕ) → Clear (a_rows most R N x) → IsSkeleton most R N (a_edges_lem N x) × (a_zero_lem N (a_edges_lem N x) ≡ x)
a_code most R N x k = let (l, s) = (a_accepted most R N x).0 k in (s, Taken.a_back N x l)

-- A0 is one-to-one onto 0 to 2^(N(N-1)/2)-1, for any edges (lower, higher) by column: each number of the range is the A0 of the edges that it makes
pub a_onto : (N x : ℕ) → x < 2 ^ (N * (N - 1) / 2) → a_zero_lem N (a_edges_lem N x) ≡ x
a_onto = Taken.a_back

-- and skeletons with one A0 have the same edges
pub a_one : (most R N : ℕ) (E F : List ℕ) → IsSkeleton most R N E → IsSkeleton most R N F → a_zero_lem N E ≡ a_zero_lem N F → Permᴰ (arcs E) (arcs F)
a_one most R N E F s t e = Permᴰ.trans (rw e at (a_decode most R N E s)) (Permᴰ.symm (a_decode most R N F t))
