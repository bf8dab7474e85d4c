-- `rooted_coder::arrange` meets its contract. Assumes nothing.
use Prim.Native.Nat.{◌≤◌, ◌<◌}
use native.Mathlib.Omega.{arith}
use Rattle.limits.specs.document.Limits.{size}
use Rattle.rooted_coder.specs.Ordered.{end_of}
use Rattle.rooted_coder.proofs.Standing.{within}
use Rattle.rooted_coder.proofs.Arranging.{begin, arranged, turn_ends, turn_waits, turn}
use Rattle.rooted_coder.proofs.arrange.Goals as goal

pub overflow_add-f : goal.overflow_add-f
overflow_add-f c = let room : end_of c.args.lens.now c.args.at ≤ size = omega (arith, within c.requires.standing.0.stand, c.requires.out_len) in
    omega (arith, room, c.requires.standing.1)

pub end-e-requires : goal.end-e-requires
end-e-requires c = let room : end_of c.args.lens.now c.args.at ≤ size = omega (arith, within c.requires.standing.0.stand, c.requires.out_len) in
    omega (arith, room, c.requires.standing.1)

pub end-m-requires : goal.end-m-requires
end-m-requires c = let room : end_of c.args.lens.now c.args.at ≤ size = omega (arith, within c.requires.standing.0.stand, c.requires.out_len) in
    omega (arith, room, c.requires.standing.1)

pub loop-m-init : goal.loop-m-init
loop-m-init c = begin _ c.requires.out_len.0 c.requires.out_len.1 c.requires.standing.0 c.requires.standing.1 c.end-m.ensures

pub end-b-requires : goal.end-b-requires
end-b-requires c = let room : end_of c.args.lens.now c.args.at ≤ size = omega (arith, within c.requires.standing.0.stand, c.requires.out_len) in
    let more : c.loop-m.m < end_of c.args.lens.now c.args.at = omega (arith, c.end-e.ensures, c.loop-m-test.true) in
    omega (arith, room, more)

pub settle-looked-requires : goal.settle-looked-requires
settle-looked-requires c = let more : c.loop-m.m < end_of c.args.lens.now c.args.at = omega (arith, c.end-e.ensures, c.loop-m-test.true) in
    let g = c.loop-m.invariant in record { out_len = (g.outs, g.long); waiting = turn_waits c.requires.standing.0 g (more) }

pub overflow_add-looked : goal.overflow_add-looked
overflow_add-looked c = let more : c.loop-m.m < end_of c.args.lens.now c.args.at = omega (arith, c.end-e.ensures, c.loop-m-test.true) in
    let room : end_of c.args.lens.now c.args.at ≤ size = omega (arith, within c.requires.standing.0.stand, c.requires.out_len) in
    omega (arith, c.loop-m.invariant.few, more, room, c.settle-looked.ensures.out_len_2)

pub loop-m-smaller : goal.loop-m-smaller
loop-m-smaller c = let more : c.loop-m.m < end_of c.args.lens.now c.args.at = omega (arith, c.end-e.ensures, c.loop-m-test.true) in
    omega (arith, turn_ends c.requires.standing.0 c.loop-m.invariant (more), more, c.end-b.ensures)

pub loop-m-preserved : goal.loop-m-preserved
loop-m-preserved c = let more : c.loop-m.m < end_of c.args.lens.now c.args.at = omega (arith, c.end-e.ensures, c.loop-m-test.true) in
    let (outs, long, few) = c.settle-looked.ensures.out_len_2 in
    turn c.requires.standing.0 c.loop-m.invariant (more) c.end-b.ensures outs long few c.settle-looked.ensures.by_index

pub returns : goal.returns
returns c = let room : end_of c.args.lens.now c.args.at ≤ size = omega (arith, within c.requires.standing.0.stand, c.requires.out_len) in
    let g = c.loop-m.invariant in
    let done : end_of c.args.lens.now c.args.at ≤ c.loop-m.m = omega (arith, c.end-e.ensures, c.loop-m-test.false) in record { out_len_2 = (g.outs, g.long, omega (arith, g.few, g.upper, room)); by_index = λ i h. g.kept i (omega arith); by_index_2 = arranged c.requires.standing.0 g done }
