-- `edge_list::Table::fill` meets its contract. The loop's invariant: the table is that of the edges before p. Assumes nothing.
use Prim.Native.Nat.{◌+◌}
use native.Mathlib.Omega.{arith}
use Rattle.skeleton.specs.document.Skeleton.{arcs}
use Rattle.edge_list.specs.document.Edges.{before}
use Rattle.edge_list.specs.Prefix.{arcs-none}
use Rattle.edge_list.proofs.Neighbours.{Holds, holds_none, room-first, room-second, after_first, after-second, is_table}
use Rattle.edge_list.proofs.Table.fill.Goals as goal
use Rattle.edge_list.proofs.Table.fill.Goals.{After-add-in-loop-p}

-- the table with both arcs of edge p
two_more : (c : After-add-in-loop-p) → Holds c.args.n (arcs (before c.args.edges.now (c.loop-p.p + 1))) c.add-in-loop-p.new.self.rows c.add-in-loop-p.new.self.degs
two_more c = let h = after_first _ _ c.requires (omega arith) c.one-a.ensures c.other-b.ensures c.loop-p.invariant c.add.ensures in
    after-second _ _ c.requires (omega arith) c.one-a.ensures c.other-b.ensures h c.add-in-loop-p.ensures

pub loop-p-init : goal.loop-p-init
loop-p-init c = rw (arcs-none c.args.edges.now) (holds_none _ c.requires.few)

pub add-requires-clause-room : goal.add-requires-clause-room
add-requires-clause-room c = room-first _ _ c.requires (omega arith) c.one-a.ensures c.other-b.ensures c.loop-p.invariant

pub add-requires-in-loop-p-clause-room : goal.add-requires-in-loop-p-clause-room
add-requires-in-loop-p-clause-room c =
    let h = after_first _ _ c.requires (omega arith) c.one-a.ensures c.other-b.ensures c.loop-p.invariant c.add.ensures in
    room-second _ _ c.requires (omega arith) c.one-a.ensures c.other-b.ensures h

pub loop-p-preserved : goal.loop-p-preserved
loop-p-preserved c = two_more (goal.at.loop-p-preserved c).After-add-in-loop-p

pub returns : goal.returns
returns c = is_table c.loop-p.p c.loop-p.invariant (omega arith)

pub returns-2 : goal.returns-2
returns-2 c = is_table (c.loop-p.p + 1) (two_more (goal.at.returns-2 c).After-add-in-loop-p) (omega arith)
