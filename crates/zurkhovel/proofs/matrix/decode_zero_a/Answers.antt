-- `zurkhovel::matrix::decode_zero_a` keeps its promise. Assumes nothing.
use Rattle.refusal.proofs.Laws.{clear_of, refusal_of, is_refusal}
use mathlib.Core.Path.{◌≡◌, refl, sym, ap, ◌∙◌}
use Prim.Native.Nat.{ℕ, ◌-◌}
use native.Mathlib.Omega.{arith}
use lib.ListN.{length, take, replicate}
use Rattle.laws.specs.Laid.{laid_length}
use Rattle.laws.specs.Laying.{laid-front}
use Rattle.refusal.specs.document.Table.{Clear}
use Rattle.refusal.specs.Laws.{at_least, at_most, others}
use Rattle.refusal.specs.Giving.{refused-first}
use Rattle.limits.specs.document.Limits.{zero_size}
use Rattle.zurkhovel.specs.document.InEdition.{zero_table}
use Rattle.adjacency.specs.document.Adjacency.{zero_cam_lem}
use Rattle.adjacency.specs.Zero.{zero_length}
use Rattle.refusal.proofs.Behind.{behind-same}
use Rattle.zurkhovel.proofs.matrix.decode_zero_a.Goals as goal

pub returns-in_err-zero_a : goal.returns-in_err-zero_a
returns-in_err-zero_a c = rw (is_refusal c.from_residual.result c.from_residual.ensures.1) (refused-first (refusal_of c.in_err-zero_a.ensures) refl)

pub zero_cam-requires : goal.zero_cam-requires
zero_cam-requires c = let clear : Clear (zero_table c.args.edition c.args.n c.args.value) = clear_of c.in_ok-zero_a.ensures in
    let k = clear in (at_least (others k), at_most (others k), at_most (others k))

pub slice_bounds-cam-count : goal.slice_bounds-cam-count
slice_bounds-cam-count c = let clear : Clear (zero_table c.args.edition c.args.n c.args.value) = clear_of c.in_ok-zero_a.ensures in
    at_least (others (clear))

pub slice_bounds-cam-end : goal.slice_bounds-cam-end
slice_bounds-cam-end c = let clear : Clear (zero_table c.args.edition c.args.n c.args.value) = clear_of c.in_ok-zero_a.ensures in
    let wide : length c.zero_cam.new.out ≡ zero_size - 1 = let a = c.args in
    ap length c.zero_cam.ensures ∙ laid_length (zero_cam_lem a.n a.value) (replicate {A = ℕ} (zero_size - 1) 0) (omega (arith, zero_length a.n a.value, at_most (others (clear)))) in
    omega (arith, wide, at_most (others (clear)))

pub slice_bounds-lay_cam-length : goal.slice_bounds-lay_cam-length
slice_bounds-lay_cam-length c = let held : take (c.args.n - 1) c.zero_cam.new.out ≡ zero_cam_lem c.args.n c.args.value = let a = c.args in laid-front (zero_cam_lem a.n a.value) _ _ (a.n - 1) c.zero_cam.ensures (zero_length a.n a.value) in
    let counted : length (take (c.args.n - 1) c.zero_cam.new.out) ≡ c.args.n - 1 = let a = c.args in ap length (held) ∙ zero_length a.n a.value in
    sym (counted)

pub lay_cam-requires : goal.lay_cam-requires
lay_cam-requires c = let held : take (c.args.n - 1) c.zero_cam.new.out ≡ zero_cam_lem c.args.n c.args.value = let a = c.args in laid-front (zero_cam_lem a.n a.value) _ _ (a.n - 1) c.zero_cam.ensures (zero_length a.n a.value) in
    let counted : length (take (c.args.n - 1) c.zero_cam.new.out) ≡ c.args.n - 1 = let a = c.args in ap length (held) ∙ zero_length a.n a.value in
    let clear : Clear (zero_table c.args.edition c.args.n c.args.value) = clear_of c.in_ok-zero_a.ensures in
    omega (arith, counted, at_most (others (clear)))

pub returns : goal.returns
returns c = let clear : Clear (zero_table c.args.edition c.args.n c.args.value) = clear_of c.in_ok-zero_a.ensures in
    let held : take (c.args.n - 1) c.zero_cam.new.out ≡ zero_cam_lem c.args.n c.args.value = let a = c.args in laid-front (zero_cam_lem a.n a.value) _ _ (a.n - 1) c.zero_cam.ensures (zero_length a.n a.value) in
    behind-same (clear) (rw (held) at c.lay_cam.ensures)
