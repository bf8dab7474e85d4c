-- `rooted_coder::cover` meets its contract. Assumes nothing.
use mathlib.Core.Path.{refl, subst}
use Prim.Native.Nat.{◌*◌, ◌≤◌}
use native.Mathlib.Omega.{arith}
use lib.ListN.{replicate}
use Rattle.limits.specs.document.Limits.{size}
use Rattle.rooted_coder.specs.Ordered.{Several}
use Rattle.rooted_coder.proofs.Turns.{Room, calls, ends, standing, arranged, left_alone, covers}
use Rattle.rooted_coder.proofs.cover.Goals as goal

pub lay-requires : goal.lay-requires
lay-requires c = let spot : Room c.args.marks.now c.args.table.now.rows c.args.out.now (replicate size 0) 0 c.args.root 0 = record { rows = c.requires.rows; outs = c.requires.out_len.0; long = refl; room = omega (arith, c.requires.out_len.1) } in
    let r = spot in record { m_lt_size = (omega arith, omega (arith, r.rows.inside, r.rows.few)); out_len = (r.outs, refl) }

pub order-looked-requires : goal.order-looked-requires
order-looked-requires c = let spot : Room c.args.marks.now c.args.table.now.rows c.args.out.now (replicate size 0) 0 c.args.root 0 = record { rows = c.requires.rows; outs = c.requires.out_len.0; long = refl; room = omega (arith, c.requires.out_len.1) } in
    let k = calls (spot) c.lay.ensures.0 c.lay.ensures.1 in record { out_len = (k.outs, k.long, k.one); rows = k.rows; at_bound = k.room }

pub several-requires : goal.several-requires
several-requires c = let spot : Room c.args.marks.now c.args.table.now.rows c.args.out.now (replicate size 0) 0 c.args.root 0 = record { rows = c.requires.rows; outs = c.requires.out_len.0; long = refl; room = omega (arith, c.requires.out_len.1) } in
    (omega arith, ends (spot) c.lay.ensures.0 c.lay.ensures.1 c.order-looked.ensures)

pub arrange-requires : goal.arrange-requires
arrange-requires c = let spot : Room c.args.marks.now c.args.table.now.rows c.args.out.now (replicate size 0) 0 c.args.root 0 = record { rows = c.requires.rows; outs = c.requires.out_len.0; long = refl; room = omega (arith, c.requires.out_len.1) } in record { out_len = (c.order-looked.ensures.outs, c.order-looked.ensures.long); standing = (standing (spot) c.lay.ensures.0 c.lay.ensures.1 c.order-looked.ensures, omega (arith, c.several.ensures.more c.if-several.true)) }

pub overflow_add-result : goal.overflow_add-result
overflow_add-result c = let spot : Room c.args.marks.now c.args.table.now.rows c.args.out.now (replicate size 0) 0 c.args.root 0 = record { rows = c.requires.rows; outs = c.requires.out_len.0; long = refl; room = omega (arith, c.requires.out_len.1) } in
    let few : c.order-looked.result ≤ size * size * size = let r = spot in
    omega (arith, c.order-looked.ensures.few, c.order-looked.ensures.head, ends r c.lay.ensures.0 c.lay.ensures.1 c.order-looked.ensures) in
    omega (arith, few, c.arrange.ensures.out_len_2)

pub returns-then-several : goal.returns-then-several
returns-then-several c = let spot : Room c.args.marks.now c.args.table.now.rows c.args.out.now (replicate size 0) 0 c.args.root 0 = record { rows = c.requires.rows; outs = c.requires.out_len.0; long = refl; room = omega (arith, c.requires.out_len.1) } in
    let (outs, long, few) = c.arrange.ensures.out_len_2 in
    covers {lens' = c.arrange.new.lens} (arranged (spot) c.lay.ensures.0 c.lay.ensures.1 c.order-looked.ensures refl outs long few c.arrange.ensures.by_index c.arrange.ensures.by_index_2 (omega arith))

pub returns : goal.returns
returns c = let spot : Room c.args.marks.now c.args.table.now.rows c.args.out.now (replicate size 0) 0 c.args.root 0 = record { rows = c.requires.rows; outs = c.requires.out_len.0; long = refl; room = omega (arith, c.requires.out_len.1) } in
    covers (left_alone (spot) c.lay.ensures.0 c.lay.ensures.1 c.order-looked.ensures refl (subst (Several _ _) c.if-several.false c.several.ensures) (omega arith))
