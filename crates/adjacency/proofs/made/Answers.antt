-- `adjacency::made` meets its contract: the edges are written and checked as an edge list, whose 3, 5 and 6 have nothing to say. Assumes nothing.
use mathlib.Core.Path.{◌≡◌, sym, ap, ◌∙◌}
use Prim.Native.Nat.{ℕ, ◌-◌, ◌*◌, ◌≤◌}
use lib.ListN.{length}
use Rattle.adjacency.specs.Made.{few, edge_front, front-cam, made_length}
use Rattle.limits.specs.document.Limits.{size}
use Rattle.adjacency.specs.document.Adjacency.{cam_edges_lem, made_rows}
use Rattle.adjacency.proofs.Behind.{front_length, array_length, front_is, front-laid, only-behind}
use native.Mathlib.Omega.{arith}
use Rattle.adjacency.proofs.made.Goals as goal

-- the bytes of an edge list, at most
abbrev ends : ℕ
ends = 2 * (size - 1)

pub slice_bounds-edges-end : goal.slice_bounds-edges-end
slice_bounds-edges-end c = omega (arith, few c.args.n c.args.cam.now c.requires.clear)

pub slice_bounds-cam_edges-end : goal.slice_bounds-cam_edges-end
slice_bounds-cam_edges-end c = let short : 2 * length c.args.cam.now ≤ ends = omega (arith, few c.args.n c.args.cam.now c.requires.clear) in
    front_length ends _ (short)

pub cam_edges-requires : goal.cam_edges-requires
cam_edges-requires c = let short : 2 * length c.args.cam.now ≤ ends = omega (arith, few c.args.n c.args.cam.now c.requires.clear) in
    let e = front_length ends (2 * length c.args.cam.now) (short) in
    (few c.args.n c.args.cam.now c.requires.clear, omega arith)

pub slice_bounds-edges-end-2 : goal.slice_bounds-edges-end-2
slice_bounds-edges-end-2 c = let short : 2 * length c.args.cam.now ≤ ends = omega (arith, few c.args.n c.args.cam.now c.requires.clear) in
    let written : c.cam_edges.new.out ≡ cam_edges_lem c.args.cam.now = front-laid ends (2 * length c.args.cam.now) _ (cam_edges_lem c.args.cam.now) (short) (made_length 1 c.args.cam.now) c.cam_edges.ensures in
    let long : length c.cam_edges.new.out ≡ 2 * length c.args.cam.now = ap length (written) ∙ made_length 1 c.args.cam.now in
    array_length ends _ c.cam_edges.new.out (short) (long)

pub slice_bounds-check-end : goal.slice_bounds-check-end
slice_bounds-check-end c = let short : 2 * length c.args.cam.now ≤ ends = omega (arith, few c.args.n c.args.cam.now c.requires.clear) in
    let written : c.cam_edges.new.out ≡ cam_edges_lem c.args.cam.now = front-laid ends (2 * length c.args.cam.now) _ (cam_edges_lem c.args.cam.now) (short) (made_length 1 c.args.cam.now) c.cam_edges.ensures in
    let long : length c.cam_edges.new.out ≡ 2 * length c.args.cam.now = ap length (written) ∙ made_length 1 c.args.cam.now in
    sym (ap length (front_is ends _ c.cam_edges.new.out (long)) ∙ long)

pub returns : goal.returns
returns c = let short : 2 * length c.args.cam.now ≤ ends = omega (arith, few c.args.n c.args.cam.now c.requires.clear) in
    let written : c.cam_edges.new.out ≡ cam_edges_lem c.args.cam.now = front-laid ends (2 * length c.args.cam.now) _ (cam_edges_lem c.args.cam.now) (short) (made_length 1 c.args.cam.now) c.cam_edges.ensures in
    let long : length c.cam_edges.new.out ≡ 2 * length c.args.cam.now = ap length (written) ∙ made_length 1 c.args.cam.now in
    let s = c.args in
    let e = front_is ends (2 * length s.cam.now) c.cam_edges.new.out (long) ∙ written in
    let a = c.check.ensures in
    only-behind (edge_front size s.n (cam_edges_lem s.cam.now)) (made_rows s.limit (cam_edges_lem s.cam.now)) (front-cam size s.n s.cam.now c.requires.clear) (rw e at a)
