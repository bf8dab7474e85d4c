-- `adjacency::zero_check` meets its contract: a check that refuses answers for the whole table, and behind it the CAM is written and its edges checked. Assumes nothing.
use Rattle.refusal.proofs.Laws.{clear_of, behind, exits}
use mathlib.Core.Path.{◌≡◌, sym, ap, ◌∙◌}
use Rattle.refusal.specs.Laws.{clear_one, clear_both, at_least, at_most, size_clear}
use mathlib.Core.List.{[], ◌∷◌, ◌++◌}
use Prim.Native.Nat.{ℕ, ◌-◌, ◌≤◌}
use lib.ListN.{length, take, drop, replicate}
use Rattle.refusal.specs.document.Table.{Clear, row3}
use Rattle.adjacency.specs.document.Adjacency.{row4_number, factorial, zero_cam_lem}
use Rattle.limits.specs.document.Limits.{zero_size}
use Rattle.adjacency.specs.Zero.{zero_length, zero_entries}
use Rattle.adjacency.specs.Made.{entries_clear}
use Rattle.adjacency.proofs.Behind.{front_length, array_length, front_is, front-laid}
use native.Mathlib.Omega.{arith}
use Rattle.adjacency.proofs.zero_check.Goals as goal

-- the entries of a CAM, at most
abbrev entries : ℕ
entries = zero_size - 1

pub returns-in_err-zero_sizes : goal.returns-in_err-zero_sizes
returns-in_err-zero_sizes c = exits _ c.from_residual.ensures.1 c.in_err-zero_sizes.ensures

pub slice_bounds-cam-count : goal.slice_bounds-cam-count
slice_bounds-cam-count c = let known : Clear (row3 zero_size c.args.n ∷ row4_number (factorial (c.args.n - 1)) c.args.x ∷ []) = clear_of c.in_ok-zero_sizes.ensures in
    at_least (known)

pub slice_bounds-cam-end : goal.slice_bounds-cam-end
slice_bounds-cam-end c = let known : Clear (row3 zero_size c.args.n ∷ row4_number (factorial (c.args.n - 1)) c.args.x ∷ []) = clear_of c.in_ok-zero_sizes.ensures in
    let short : c.args.n - 1 ≤ entries = omega (arith, at_most (known)) in
    short

pub slice_bounds-zero_cam-length : goal.slice_bounds-zero_cam-length
slice_bounds-zero_cam-length c = let known : Clear (row3 zero_size c.args.n ∷ row4_number (factorial (c.args.n - 1)) c.args.x ∷ []) = clear_of c.in_ok-zero_sizes.ensures in
    let short : c.args.n - 1 ≤ entries = omega (arith, at_most (known)) in
    front_length entries _ (short)

pub zero_cam-requires : goal.zero_cam-requires
zero_cam-requires c = let known : Clear (row3 zero_size c.args.n ∷ row4_number (factorial (c.args.n - 1)) c.args.x ∷ []) = clear_of c.in_ok-zero_sizes.ensures in
    let short : c.args.n - 1 ≤ entries = omega (arith, at_most (known)) in
    let k = known in
    let e = front_length entries (c.args.n - 1) (short) in
    (at_least k, at_most k, omega arith)

pub slice_bounds-cam-count-2 : goal.slice_bounds-cam-count-2
slice_bounds-cam-count-2 c = let known : Clear (row3 zero_size c.args.n ∷ row4_number (factorial (c.args.n - 1)) c.args.x ∷ []) = clear_of c.in_ok-zero_sizes.ensures in
    at_least (known)

pub slice_bounds-cam-end-2 : goal.slice_bounds-cam-end-2
slice_bounds-cam-end-2 c = let known : Clear (row3 zero_size c.args.n ∷ row4_number (factorial (c.args.n - 1)) c.args.x ∷ []) = clear_of c.in_ok-zero_sizes.ensures in
    let short : c.args.n - 1 ≤ entries = omega (arith, at_most (known)) in
    let written : c.zero_cam.new.out ≡ zero_cam_lem c.args.n c.args.x = let a = c.args in
    front-laid entries (a.n - 1) _ (zero_cam_lem a.n a.x) (short) (zero_length a.n a.x) c.zero_cam.ensures in
    let long : length c.zero_cam.new.out ≡ c.args.n - 1 = let a = c.args in ap length (written) ∙ zero_length a.n a.x in
    array_length entries _ c.zero_cam.new.out (short) (long)

pub slice_bounds-made-length : goal.slice_bounds-made-length
slice_bounds-made-length c = let known : Clear (row3 zero_size c.args.n ∷ row4_number (factorial (c.args.n - 1)) c.args.x ∷ []) = clear_of c.in_ok-zero_sizes.ensures in
    let short : c.args.n - 1 ≤ entries = omega (arith, at_most (known)) in
    let written : c.zero_cam.new.out ≡ zero_cam_lem c.args.n c.args.x = let a = c.args in
    front-laid entries (a.n - 1) _ (zero_cam_lem a.n a.x) (short) (zero_length a.n a.x) c.zero_cam.ensures in
    let long : length c.zero_cam.new.out ≡ c.args.n - 1 = let a = c.args in ap length (written) ∙ zero_length a.n a.x in
    sym (ap length (front_is entries _ c.zero_cam.new.out (long)) ∙ long)

pub made-requires : goal.made-requires
made-requires c = let known : Clear (row3 zero_size c.args.n ∷ row4_number (factorial (c.args.n - 1)) c.args.x ∷ []) = clear_of c.in_ok-zero_sizes.ensures in
    let short : c.args.n - 1 ≤ entries = omega (arith, at_most (known)) in
    let written : c.zero_cam.new.out ≡ zero_cam_lem c.args.n c.args.x = let a = c.args in
    front-laid entries (a.n - 1) _ (zero_cam_lem a.n a.x) (short) (zero_length a.n a.x) c.zero_cam.ensures in
    let long : length c.zero_cam.new.out ≡ c.args.n - 1 = let a = c.args in ap length (written) ∙ zero_length a.n a.x in
    let lent : take (c.args.n - 1) (c.zero_cam.new.out ++ drop (c.args.n - 1) (replicate {A = ℕ} entries 0)) ≡ zero_cam_lem c.args.n c.args.x = front_is entries (c.args.n - 1) c.zero_cam.new.out (long) ∙ written in
    let a = c.args in
    let k = known in record {
      limit_le_width = c.requires;
      clear = rw (lent)
          (clear_both (size_clear (at_least k) (omega (arith, at_most k)))
          (clear_both (clear_one (λ p h. h.1 (zero_length a.n a.x))) (entries_clear (zero_entries a.n a.x))));
    }

pub returns : goal.returns
returns c = let known : Clear (row3 zero_size c.args.n ∷ row4_number (factorial (c.args.n - 1)) c.args.x ∷ []) = clear_of c.in_ok-zero_sizes.ensures in
    let short : c.args.n - 1 ≤ entries = omega (arith, at_most (known)) in
    let written : c.zero_cam.new.out ≡ zero_cam_lem c.args.n c.args.x = let a = c.args in
    front-laid entries (a.n - 1) _ (zero_cam_lem a.n a.x) (short) (zero_length a.n a.x) c.zero_cam.ensures in
    let long : length c.zero_cam.new.out ≡ c.args.n - 1 = let a = c.args in ap length (written) ∙ zero_length a.n a.x in
    let lent : take (c.args.n - 1) (c.zero_cam.new.out ++ drop (c.args.n - 1) (replicate {A = ℕ} entries 0)) ≡ zero_cam_lem c.args.n c.args.x = front_is entries (c.args.n - 1) c.zero_cam.new.out (long) ∙ written in
    behind c.in_ok-zero_sizes.ensures (rw (lent) at c.made.ensures)
