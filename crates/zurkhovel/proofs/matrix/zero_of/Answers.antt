-- `zurkhovel::matrix::zero_of` meets its contract. Assumes nothing.
use mathlib.Core.Path.{◌≡◌, sym, ap, ◌∙◌}
use Prim.Native.Nat.{◌-◌}
use native.Mathlib.Omega.{arith}
use lib.ListN.{length, take}
use Rattle.laws.specs.Laying.{laid-front}
use Rattle.adjacency.specs.document.Adjacency.{cam}
use Rattle.adjacency.specs.Plain.{plain, numbered}
use Rattle.adjacency.specs.Coded.{cam-entries, cam_length}
use Rattle.zurkhovel.proofs.matrix.zero_of.Goals as goal

pub write_cam-requires : goal.write_cam-requires
write_cam-requires c = let (s, h) = c.requires in record { numbered = (numbered s, h); n_le_size = (omega (arith, s.few), s.few) }

pub slice_bounds-zero_a-length : goal.slice_bounds-zero_a-length
slice_bounds-zero_a-length c = let held : take (c.args.n - 1) c.write_cam.new.out ≡ cam c.args.n c.args.edges.now = let a = c.args in laid-front (cam a.n a.edges.now) _ _ (a.n - 1) c.write_cam.ensures (cam_length a.n a.edges.now) in
    let counted : length (take (c.args.n - 1) c.write_cam.new.out) ≡ c.args.n - 1 = let a = c.args in ap length (held) ∙ cam_length a.n a.edges.now in
    sym (counted)

pub zero_a-requires : goal.zero_a-requires
zero_a-requires c = let held : take (c.args.n - 1) c.write_cam.new.out ≡ cam c.args.n c.args.edges.now = let a = c.args in laid-front (cam a.n a.edges.now) _ _ (a.n - 1) c.write_cam.ensures (cam_length a.n a.edges.now) in
    let counted : length (take (c.args.n - 1) c.write_cam.new.out) ≡ c.args.n - 1 = let a = c.args in ap length (held) ∙ cam_length a.n a.edges.now in
    let (s, h) = c.requires in
    (rw (held) (cam-entries (plain s) h), omega (arith, counted, s.few))

pub returns : goal.returns
returns c = let held : take (c.args.n - 1) c.write_cam.new.out ≡ cam c.args.n c.args.edges.now = let a = c.args in laid-front (cam a.n a.edges.now) _ _ (a.n - 1) c.write_cam.ensures (cam_length a.n a.edges.now) in
    rw (held) at c.zero_a.ensures
