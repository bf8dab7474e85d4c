-- The proof of the cycle of calls {order}. The measure is the number of places behind the vertex. Assumes nothing.
use mathlib.Core.Path.{◌≡◌, sym, ap, subst, ◌∙◌}
use mathlib.Core.List.{List}
use Prim.Native.Nat.{ℕ, ◌+◌, ◌*◌, ◌≤◌, ◌<◌}
use native.Mathlib.Omega.{arith}
use lib.ListN.{length, get_or, set}
use Rattle.limits.specs.document.Limits.{size}
use Rattle.limits.specs.Width.{width}
use Rattle.rooted_coder.specs.Ordered.{cell, kids, ordered, Rows, Hangs, Standing, end_of, Several}
use Rattle.rooted_coder.proofs.Turns.{Call, Sofar, below, start, at_zero, at-end, skip, Written, same-written, Room, within, leaf, calls, kept_called, ends, standing, arranged, left_alone, leafy, roomy, extends, taken}
use Rattle.rooted_coder.proofs.+order.Goals.{then-w-parent, else-w-parent, then-neighbour-ne0+then-several, then-neighbour-ne0+else-several, else-neighbour-ne0}
use Rattle.rooted_coder.proofs.+order.Goals as goal

-- what the call knows
called : (m : List ℕ) (t : List (List ℕ)) (out lens : List ℕ) (p v at : ℕ) → Rows t v → (length out ≡ size) × (length lens ≡ size) × (get_or lens at 0 ≡ 1) → at + length (ordered m t p v) ≤ size
    → Call m t out lens p v at
called m t out lens p v at rows sizes room = record { rows = rows; outs = sizes.0; long = sizes.1; one = sizes.2; room = room }

-- w stands in the column j of the row of the vertex
module _ {m : List ℕ} {t : List (List ℕ)} {out₀ lens₀ out lens : List ℕ} {p v at j n : ℕ} (k : Call m t out₀ lens₀ p v at) (s : Sofar m t p out₀ lens₀ out lens v at j n)
    (h : j < width) {u w : ℕ} (eu : u ≡ v) (ew : w ≡ cell t u j) where
  column : w ≡ cell t v j
  column = ew ∙ ap (λ v. cell t v j) eu

  -- its part begins at a
  module _ (n0 : w ≡ 0 → ⊥) (o : w ≡ p → ⊥) {a : ℕ} (ea : a ≡ end_of lens at) where
    spot : Room m t out lens u w a
    spot = roomy k s h column n0 o eu ea

    ahead : at < a
    ahead = omega (arith, ea, s.hangs.head)

    small : n ≤ size * size * size
    small = omega (arith, ea, s.hangs.head, s.hangs.few, within spot)

    -- what the call for it left
    module _ {out1 lens1 out2 lens2 : List ℕ} {r : ℕ} (eo : out1 ≡ set out a w) (el : lens1 ≡ set lens a 1) (l : Hangs m t out1 lens1 out2 lens2 (get_or out1 a 0) a (kids t u (get_or out1 a 0)) r) where
      small-below : r ≤ size * size * size
      small-below = omega (arith, l.few, l.head, ends spot eo el l)

      again : {q : ℕ} → q ≡ end_of lens2 at → q ≡ a
      again e = omega (arith, e, ea, kept_called spot eo el l at ahead)

pub vertex-v-requires : goal.vertex-v-requires
vertex-v-requires t c = let a = c.args in
    let k = called a.marks.now a.table.now.rows a.out.now a.lens.now a.parent (get_or a.out.now a.at 0) a.at c.requires.rows c.requires.out_len c.requires.at_bound in
    below k

pub loop-j-init : goal.loop-j-init
loop-j-init t c = let a = c.args in
    let k = called a.marks.now a.table.now.rows a.out.now a.lens.now a.parent (get_or a.out.now a.at 0) a.at c.requires.rows c.requires.out_len c.requires.at_bound in
    start k

pub neighbour-w-requires : goal.neighbour-w-requires
neighbour-w-requires t c = let r = c.requires.rows in (omega (arith, c.vertex-v.ensures, r.some), omega (arith, c.vertex-v.ensures, r.inside, r.few), c.loop-j-test.true)

pub returns-then-w-eq0 : goal.returns-then-w-eq0
returns-then-w-eq0 t c = let a = c.args in
    let k = called a.marks.now a.table.now.rows a.out.now a.lens.now a.parent (get_or a.out.now a.at 0) a.at c.requires.rows c.requires.out_len c.requires.at_bound in
    at_zero k c.loop-j.invariant c.loop-j-test.true (column k c.loop-j.invariant c.loop-j-test.true c.vertex-v.ensures c.neighbour-w.ensures) c.if-w-eq0.true

pub end-m-requires : goal.end-m-requires
end-m-requires t c = let a = c.args in
    let k = called a.marks.now a.table.now.rows a.out.now a.lens.now a.parent (get_or a.out.now a.at 0) a.at c.requires.rows c.requires.out_len c.requires.at_bound in
    below k

pub lay-requires : goal.lay-requires
lay-requires t c = let a = c.args in
    let k = called a.marks.now a.table.now.rows a.out.now a.lens.now a.parent (get_or a.out.now a.at 0) a.at c.requires.rows c.requires.out_len c.requires.at_bound in
    let r = spot k c.loop-j.invariant c.loop-j-test.true c.vertex-v.ensures c.neighbour-w.ensures c.if-w-eq0.false c.if-w-parent.true c.end-m.ensures in
    record { m_lt_size = (within r, omega (arith, r.rows.inside, r.rows.few)); out_len = (r.outs, r.long) }

pub neighbour-requires : goal.neighbour-requires
neighbour-requires t c = let a = c.args in
    let k = called a.marks.now a.table.now.rows a.out.now a.lens.now a.parent (get_or a.out.now a.at 0) a.at c.requires.rows c.requires.out_len c.requires.at_bound in
    let r = spot k c.loop-j.invariant c.loop-j-test.true c.vertex-v.ensures c.neighbour-w.ensures c.if-w-eq0.false c.if-w-parent.true c.end-m.ensures in
    (r.rows.some, omega (arith, r.rows.inside, r.rows.few), omega arith)

pub order-looked-requires : goal.order-looked-requires
order-looked-requires t c = let a = c.args in
    let k = called a.marks.now a.table.now.rows a.out.now a.lens.now a.parent (get_or a.out.now a.at 0) a.at c.requires.rows c.requires.out_len c.requires.at_bound in
    let r = spot k c.loop-j.invariant c.loop-j-test.true c.vertex-v.ensures c.neighbour-w.ensures c.if-w-eq0.false c.if-w-parent.true c.end-m.ensures in
    let before = ahead k c.loop-j.invariant c.loop-j-test.true c.vertex-v.ensures c.neighbour-w.ensures c.if-w-eq0.false c.if-w-parent.true c.end-m.ensures in
    let d = calls r c.lay.ensures.0 c.lay.ensures.1 in
    (omega (arith, before, within r), ((d.outs, d.long, d.one), (d.rows, d.room)))

pub overflow_add-looked : goal.overflow_add-looked
overflow_add-looked t c = let a = c.args in
    let k = called a.marks.now a.table.now.rows a.out.now a.lens.now a.parent (get_or a.out.now a.at 0) a.at c.requires.rows c.requires.out_len c.requires.at_bound in
    omega (
      arith,
      small k c.loop-j.invariant c.loop-j-test.true c.vertex-v.ensures c.neighbour-w.ensures c.if-w-eq0.false c.if-w-parent.true c.end-m.ensures,
      small-below k c.loop-j.invariant c.loop-j-test.true c.vertex-v.ensures c.neighbour-w.ensures c.if-w-eq0.false c.if-w-parent.true c.end-m.ensures c.lay.ensures.0 c.lay.ensures.1 c.order-looked.ensures,
    )

pub end-q-requires : goal.end-q-requires
end-q-requires t c = let a = c.args in
    let k = called a.marks.now a.table.now.rows a.out.now a.lens.now a.parent (get_or a.out.now a.at 0) a.at c.requires.rows c.requires.out_len c.requires.at_bound in
    below k

pub several-requires : goal.several-requires
several-requires t c = let a = c.args in
    let k = called a.marks.now a.table.now.rows a.out.now a.lens.now a.parent (get_or a.out.now a.at 0) a.at c.requires.rows c.requires.out_len c.requires.at_bound in
    let r = spot k c.loop-j.invariant c.loop-j-test.true c.vertex-v.ensures c.neighbour-w.ensures c.if-w-eq0.false c.if-w-parent.true c.end-m.ensures in
    let is = again k c.loop-j.invariant c.loop-j-test.true c.vertex-v.ensures c.neighbour-w.ensures c.if-w-eq0.false c.if-w-parent.true c.end-m.ensures c.lay.ensures.0 c.lay.ensures.1 c.order-looked.ensures c.end-q.ensures in
    (omega (arith, is, within r), subst (λ q. end_of c.order-looked.new.lens q ≤ size) (sym is) (ends r c.lay.ensures.0 c.lay.ensures.1 c.order-looked.ensures))

pub arrange-looked-requires : goal.arrange-looked-requires
arrange-looked-requires t c = let a = c.args in
    let k = called a.marks.now a.table.now.rows a.out.now a.lens.now a.parent (get_or a.out.now a.at 0) a.at c.requires.rows c.requires.out_len c.requires.at_bound in
    let r = spot k c.loop-j.invariant c.loop-j-test.true c.vertex-v.ensures c.neighbour-w.ensures c.if-w-eq0.false c.if-w-parent.true c.end-m.ensures in
    let is = again k c.loop-j.invariant c.loop-j-test.true c.vertex-v.ensures c.neighbour-w.ensures c.if-w-eq0.false c.if-w-parent.true c.end-m.ensures c.lay.ensures.0 c.lay.ensures.1 c.order-looked.ensures c.end-q.ensures in
    record {
      out_len = (c.order-looked.ensures.outs, c.order-looked.ensures.long);
      standing = (
        subst (λ q. Standing c.order-looked.new.out c.order-looked.new.lens (q + 1) (end_of c.order-looked.new.lens q)) (sym is)
            (standing r c.lay.ensures.0 c.lay.ensures.1 c.order-looked.ensures),
        omega (arith, c.several.ensures.more c.if-several.true),
      );
    }

pub overflow_add-looked-then-several : goal.overflow_add-looked-then-several
overflow_add-looked-then-several t c = let a = c.args in
    let k = called a.marks.now a.table.now.rows a.out.now a.lens.now a.parent (get_or a.out.now a.at 0) a.at c.requires.rows c.requires.out_len c.requires.at_bound in
    omega (
      arith,
      small k c.loop-j.invariant c.loop-j-test.true c.vertex-v.ensures c.neighbour-w.ensures c.if-w-eq0.false c.if-w-parent.true c.end-m.ensures,
      small-below k c.loop-j.invariant c.loop-j-test.true c.vertex-v.ensures c.neighbour-w.ensures c.if-w-eq0.false c.if-w-parent.true c.end-m.ensures c.lay.ensures.0 c.lay.ensures.1 c.order-looked.ensures,
      c.arrange-looked.ensures.out_len_2,
    )

pub extend-requires : goal.extend-requires
extend-requires t c = let a = c.args in
    let k = called a.marks.now a.table.now.rows a.out.now a.lens.now a.parent (get_or a.out.now a.at 0) a.at c.requires.rows c.requires.out_len c.requires.at_bound in
    let is = column k c.loop-j.invariant c.loop-j-test.true c.vertex-v.ensures c.neighbour-w.ensures in
    let r = spot k c.loop-j.invariant c.loop-j-test.true c.vertex-v.ensures c.neighbour-w.ensures c.if-w-eq0.false c.if-w-parent.true c.end-m.ensures in
    let met : Written a.marks.now a.table.now.rows c.loop-j.out c.loop-j.lens c.if-neighbour-ne0.out c.if-neighbour-ne0.lens c.vertex-v.result c.neighbour-w.result c.end-m.result c.loop-j.looked c.if-neighbour-ne0.looked =
    elim c.if-neighbour-ne0.branch [
      | then-neighbour-ne0+then-several w ↦
          let q = again k c.loop-j.invariant c.loop-j-test.true c.vertex-v.ensures c.neighbour-w.ensures c.if-w-eq0.false c.if-w-parent.true c.end-m.ensures c.lay.ensures.0 c.lay.ensures.1 w.order-looked.ensures w.end-q.ensures in
          let (outs, long, few) = w.arrange-looked.ensures.out_len_2 in
          same-written w.out-is w.lens-is (arranged r c.lay.ensures.0 c.lay.ensures.1 w.order-looked.ensures q outs long few w.arrange-looked.ensures.by_index w.arrange-looked.ensures.by_index_2 w.looked-is)
      | then-neighbour-ne0+else-several w ↦
          let q = again k c.loop-j.invariant c.loop-j-test.true c.vertex-v.ensures c.neighbour-w.ensures c.if-w-eq0.false c.if-w-parent.true c.end-m.ensures c.lay.ensures.0 c.lay.ensures.1 w.order-looked.ensures w.end-q.ensures in
          same-written w.out-is w.lens-is (left_alone r c.lay.ensures.0 c.lay.ensures.1 w.order-looked.ensures q (subst (Several w.order-looked.new.lens w.end-q.result) w.if-several.false w.several.ensures) w.looked-is)
      | else-neighbour-ne0 w ↦
          leaf r (w.out-is ∙ c.lay.ensures.0) (w.lens-is ∙ c.lay.ensures.1) w.looked-is
          (leafy k c.loop-j.invariant c.loop-j-test.true is c.if-w-eq0.false c.vertex-v.ensures (sym c.neighbour.ensures ∙ w.if-neighbour-ne0.false))
    ] in
    extends k c.loop-j.invariant c.loop-j-test.true is c.if-w-eq0.false c.if-w-parent.true c.vertex-v.ensures c.end-m.ensures met

pub loop-j-preserved : goal.loop-j-preserved
loop-j-preserved t c = let a = c.args in
    let k = called a.marks.now a.table.now.rows a.out.now a.lens.now a.parent (get_or a.out.now a.at 0) a.at c.requires.rows c.requires.out_len c.requires.at_bound in
    let is = column k c.loop-j.invariant c.loop-j-test.true c.vertex-v.ensures c.neighbour-w.ensures in
    elim c.if-w-parent.branch [
      | then-w-parent d ↦
          let r = spot k c.loop-j.invariant c.loop-j-test.true c.vertex-v.ensures c.neighbour-w.ensures c.if-w-eq0.false d.if-w-parent.true d.end-m.ensures in
          let met : Written a.marks.now a.table.now.rows c.loop-j.out c.loop-j.lens d.if-neighbour-ne0.out d.if-neighbour-ne0.lens c.vertex-v.result c.neighbour-w.result d.end-m.result c.loop-j.looked d.if-neighbour-ne0.looked =
          elim d.if-neighbour-ne0.branch [
            | then-neighbour-ne0+then-several w ↦
                let q = again k c.loop-j.invariant c.loop-j-test.true c.vertex-v.ensures c.neighbour-w.ensures c.if-w-eq0.false d.if-w-parent.true d.end-m.ensures d.lay.ensures.0 d.lay.ensures.1 w.order-looked.ensures w.end-q.ensures in
                let (outs, long, few) = w.arrange-looked.ensures.out_len_2 in
                same-written w.out-is w.lens-is (arranged r d.lay.ensures.0 d.lay.ensures.1 w.order-looked.ensures q outs long few w.arrange-looked.ensures.by_index w.arrange-looked.ensures.by_index_2 w.looked-is)
            | then-neighbour-ne0+else-several w ↦
                let q = again k c.loop-j.invariant c.loop-j-test.true c.vertex-v.ensures c.neighbour-w.ensures c.if-w-eq0.false d.if-w-parent.true d.end-m.ensures d.lay.ensures.0 d.lay.ensures.1 w.order-looked.ensures w.end-q.ensures in
                same-written w.out-is w.lens-is (left_alone r d.lay.ensures.0 d.lay.ensures.1 w.order-looked.ensures q (subst (Several w.order-looked.new.lens w.end-q.result) w.if-several.false w.several.ensures) w.looked-is)
            | else-neighbour-ne0 w ↦
                leaf r (w.out-is ∙ d.lay.ensures.0) (w.lens-is ∙ d.lay.ensures.1) w.looked-is
                (leafy k c.loop-j.invariant c.loop-j-test.true is c.if-w-eq0.false c.vertex-v.ensures (sym d.neighbour.ensures ∙ w.if-neighbour-ne0.false))
          ] in
          rw (d.out-is, d.lens-is, d.looked-is)
          (taken k c.loop-j.invariant c.loop-j-test.true is c.if-w-eq0.false d.if-w-parent.true c.vertex-v.ensures d.end-m.ensures met d.extend.ensures)
      | else-w-parent d ↦ rw (d.out-is, d.lens-is, d.looked-is) (skip k c.loop-j.invariant c.loop-j-test.true is c.if-w-eq0.false d.if-w-parent.false)
    ]

pub returns : goal.returns
returns t c = let a = c.args in
    let k = called a.marks.now a.table.now.rows a.out.now a.lens.now a.parent (get_or a.out.now a.at 0) a.at c.requires.rows c.requires.out_len c.requires.at_bound in
    at-end k c.loop-j.invariant c.loop-j-test.false
