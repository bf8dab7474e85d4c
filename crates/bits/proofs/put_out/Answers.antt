-- `bits::put_out` meets its contract: no byte, one, or two. Assumes nothing.
use native.Mathlib.Omega.{arith}
use lib.ListN.{length-set}
use Rattle.bits.specs.Packing.{put-none, put_one, put_two}
use Rattle.bits.proofs.put_out.Goals as goal

pub returns-then-c-lt8 : goal.returns-then-c-lt8
returns-then-c-lt8 c = let a = c.args in put-none a.a a.c a.m a.out.now c.if-c-lt8.true

pub returns-then-left-lt8 : goal.returns-then-left-lt8
returns-then-left-lt8 c = let a = c.args in put_one a.a a.c a.m a.out.now c.if-c-lt8.false (omega arith) c.if-left-lt8.true

pub bounds-out-m-2 : goal.bounds-out-m-2
bounds-out-m-2 c = rw length-set (omega arith)

pub returns : goal.returns
returns c = let a = c.args in
    let p = c.requires in
    put_two a.a a.c a.m a.out.now c.if-c-lt8.false (omega arith) c.if-left-lt8.false p.0 (omega arith)
