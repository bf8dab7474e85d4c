-- `form_coder::n_tuple_marks` meets its contract: the loop keeps the largest code of those passed. Assumes nothing.
use mathlib.Core.Path.{◌≡◌, sym, ◌∙◌}
use mathlib.Core.List.{List}
use Prim.Native.Nat.{ℕ, ◌+◌, ◌<◌}
use native.Mathlib.Omega.{arith}
use lib.ListN.{get_or, take}
use lib.Seq.{get_or-take}
use Rattle.skeleton.specs.document.Skeleton.{degree}
use Rattle.skeleton.specs.document.Label.{rootedₗ}
use Rattle.skeleton.specs.document.Atom.{Atom}
use Rattle.skeleton.specs.document.AtomMarks.{atoms}
use Rattle.form_coder.proofs.Written.{codes_of}
use Rattle.form_coder.proofs.Largest.{Best, best_first, best_past, best_next, degree-at, n_tuple-written, n_tuple_summed}
use Rattle.form_coder.proofs.Looked.{coding, Summed, summed_none, summed_past, summed_next, few_at}
use Rattle.form_coder.proofs.n_tuple_marks.Goals as goal
use Rattle.form_coder.proofs.n_tuple_marks.Goals.{At-loop-v, In-loop-v, then-k-d, else-k-d}

-- the search for the largest code, and the pairs looked at for it, where the atoms are these
abbrev Search : (ℕ → Atom) → ℕ → List ℕ → ℕ → List ℕ → List ℕ → List ℕ → ℕ → ℕ → Type 0
Search label n E d best other o x v = Best n E (rootedₗ atoms label n E) d best other o v × Summed E (coding label n E) d v x

-- what it holds, with some names of the atoms
holds : (c : At-loop-v) → Search c.requires.skeleton.1.label c.args.n c.args.edges.now c.widest-d.result c.loop-v.best c.loop-v.other c.loop-v.order c.loop-v.looked c.loop-v.v
holds c = c.loop-v.invariant c.requires.skeleton.1.label c.requires.skeleton.1.named

more : (c : In-loop-v) → c.loop-v.v < c.args.n
more c = omega arith

-- the degree of vertex v + 1 stands in the table
here : (c : In-loop-v) → get_or (take c.args.n c.fill.new.self.degs) c.loop-v.v 0 ≡ degree c.args.edges.now (c.loop-v.v + 1)
here c = get_or-take c.args.n c.fill.new.self.degs c.loop-v.v 0 (more c) ∙ degree-at c.fill.ensures (more c)

pub loop-v-init : goal.loop-v-init
loop-v-init c label q = (best_first c.requires.skeleton.0.few, summed_none)

pub rooted-looked-requires-clause-le_root : goal.rooted-looked-requires-clause-le_root
rooted-looked-requires-clause-le_root c = let w = goal.at.rooted-looked-requires-clause-le_root c in
    let (b, m) = holds w.At-loop-v in
    (omega arith, omega (arith, more w.In-loop-v), b.order, omega (arith, c.requires.skeleton.0.few, b.room))

pub overflow_add-looked : goal.overflow_add-looked
overflow_add-looked c = let w = goal.at.overflow_add-looked c in
    let (s, r) = c.requires.skeleton in
    let (o, y, x) = c.rooted-looked.ensures.by_index c.args.edges.now r.label s.tree c.fill.ensures r.named in
    let (b, m) = holds w.At-loop-v in
    omega (arith, s.few, b.within, m.few, few_at s r.label (omega arith) (omega (arith, more w.In-loop-v)) x)

pub loop-v-preserved : goal.loop-v-preserved
loop-v-preserved c label n = let i = (goal.at.loop-v-preserved c).In-loop-v in
    let s = c.requires.skeleton.0 in
    let a = codes_of label s.tree in
    let (b, m) = c.loop-v.invariant label n in elim c.if-k-d.branch [
      | then-k-d w ↦
          let (o, y, x) = w.rooted-looked.ensures.by_index c.args.edges.now label s.tree c.fill.ensures n in
          let e : degree c.args.edges.now (c.loop-v.v + 1) ≡ c.widest-d.result = sym (here i) ∙ w.if-k-d.true in
          rw (w.best-is, w.other-is, w.order-is, w.looked-is)
          (best_next a s.few b (more i) y e w.raise.ensures w.rooted-looked.ensures.order_len, summed_next m e x (few_at s label (omega arith) (omega (arith, more i)) x))
      | else-k-d w ↦
          let e : degree c.args.edges.now (c.loop-v.v + 1) ≡ c.widest-d.result → ⊥ = λ e. w.if-k-d.false (here i ∙ e) in
          rw (w.best-is, w.other-is, w.order-is, w.looked-is) (best_past a s.few b (more i) e, summed_past m e)
    ]

pub returns : goal.returns
returns c label n = let (b, m) = c.loop-v.invariant label n in
    let a = codes_of label c.requires.skeleton.0.tree in
    let s = c.requires.skeleton.0 in
    (n_tuple-written a s.tree s.few c.fill.ensures c.widest-d.ensures b (omega arith) c.copy.ensures.bytes, n_tuple_summed a s.tree s.few c.fill.ensures c.widest-d.ensures b (omega arith) m)
