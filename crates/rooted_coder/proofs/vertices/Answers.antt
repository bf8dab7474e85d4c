-- `rooted_coder::vertices` meets its contract. Assumes nothing.
use native.Mathlib.Omega.{arith}
use Rattle.rooted_coder.proofs.Tables.{small, root-rows, root_length, marks_placed}
use Rattle.rooted_coder.proofs.vertices.Goals as goal

pub fill-requires : goal.fill-requires
fill-requires c = let (held, ranked) = c.requires.held in
    let (low, high, room, long) = c.requires.le_root in
    (low, high, held.skeleton.few, room, small held ranked)

pub cover-requires : goal.cover-requires
cover-requires c = let (held, ranked) = c.requires.held in
    let (low, high, room, long) = c.requires.le_root in record { rows = root-rows held ranked low high; out_len = (long, omega (arith, root_length held ranked low high c.fill.new.marks c.fill.ensures, held.skeleton.few)) }

pub returns : goal.returns
returns c = let (held, ranked) = c.requires.held in
    let (low, high, room, long) = c.requires.le_root in record { buffer_len = c.cover.ensures.outs; by_index = marks_placed held ranked low high c.fill.new.marks c.fill.ensures c.cover.ensures }
