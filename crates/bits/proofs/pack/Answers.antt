-- `bits::pack` meets its contract. The loop's invariant is `Packing`. Assumes nothing.
use Prim.Native.Nat.{◌-◌, ◌*◌, ◌^◌, ◌≤◌}
use native.Mathlib.Omega.{arith}
use lib.Dec.{lit<, lit≤}
use native.Mathlib.Nat.{mod-lt}
use lib.ListN.{length-set}
use lib.Pow.{mod-mod-pow}
use Rattle.limits.specs.Width.{width}
use Rattle.bits.specs.Packing.{pack-none, pack-room, pack-bytes, pack-on, pack-last, pack-done}
use Rattle.bits.proofs.pack.Goals as goal

pub loop-digit-init : goal.loop-digit-init
loop-digit-init c = pack-none c.args.code.now c.args.out.now

pub append-a-requires : goal.append-a-requires
append-a-requires c = let p = c.requires in rw c.from-k.ensures (pack-room c.loop-digit.invariant p.0 p.1 c.loop-digit-test.true (lit≤ tt))

pub put_out-m-requires : goal.put_out-m-requires
put_out-m-requires c = let small : c.from-k.result ≤ width = omega (arith, c.from-k.ensures, c.requires.0.small c.loop-digit.digit-index) in
    let p = c.requires in (
      omega (arith, small, c.loop-digit.invariant.few),
      rw c.from-k.ensures (pack-bytes c.loop-digit.invariant p.0 p.1 c.loop-digit-test.true),
    )

pub loop-digit-preserved : goal.loop-digit-preserved
loop-digit-preserved c = let p = c.requires in
    let k = c.from-k.ensures in
    rw k
    (pack-on c.loop-digit.invariant p.0 p.1 c.loop-digit-test.true c.append-a.result (rw k at c.append-a.ensures)
    (rw k at c.put_out-m.ensures))

pub overflow_cast-out : goal.overflow_cast-out
overflow_cast-out c = record { fits = mod-lt _ (lit< tt) }

pub bounds-out-m : goal.bounds-out-m
bounds-out-m c = let p = c.requires in pack-last c.loop-digit.invariant p.0 p.1 c.loop-digit-test.false

pub overflow_add-result : goal.overflow_add-result
overflow_add-result c = let p = c.requires in omega (arith, pack-last c.loop-digit.invariant p.0 p.1 c.loop-digit-test.false)

pub shape_of-out : goal.shape_of-out
shape_of-out c = simp length-set c.loop-digit.invariant.stored.size

pub returns : goal.returns
returns c = let p = c.requires in
    let l = c.loop-digit in
    rw (mod-mod-pow (l.a * 2 ^ (8 - l.c)) 56 8) (pack-done l.invariant p.0 p.1 c.loop-digit-test.false)
