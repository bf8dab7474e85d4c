-- `form_coder::numbered_marks` meets its contract. Assumes nothing.
use mathlib.Core.Path.{◌≡◌, refl}
use Prim.Native.Nat.{ℕ, ◌≤◌}
use native.Mathlib.Omega.{arith}
use lib.ListN.{take, replicate}
use borrow.Author.Rules.{rules}
use Rattle.laws.specs.document.Laid.{laid_over}
use Rattle.limits.specs.document.Limits.{size}
use Rattle.skeleton.specs.document.Label.{rootedₗ}
use Rattle.skeleton.specs.document.Atom.{Atom}
use Rattle.skeleton.specs.document.AtomMarks.{atoms}
use Rattle.numbering.specs.document.Order.{orderₗ}
use Rattle.letters.specs.Named.{Named}
use Rattle.edge_list.specs.Table.{Held}
use Rattle.longest_path.specs.document.Path.{IsCentre}
use Rattle.longest_path.specs.Theorems.{centre_inside}
use Rattle.form_coder.proofs.Looked.{coding, few_at, one_summed, both_summed}
use Rattle.form_coder.proofs.Written.{codes_of, front, front-room, one-middle, first_stays, second-rises}
use Rattle.form_coder.proofs.numbered_marks.Goals as goal

pub rooted-looked-requires : goal.rooted-looked-requires
rooted-looked-requires c = let centre : IsCentre c.args.n c.args.edges.now c.middles-m.result.first c.middles-m.result.second = c.middles-m.ensures.by_index c.args.edges.now c.requires.skeleton.0.tree c.fill.ensures in
    let one_inside : (1 ≤ c.middles-m.result.first) × (c.middles-m.result.first ≤ c.args.n) = (centre_inside _ _ c.requires.skeleton.0.tree _ _ (centre)).0 in
    let held : Held c.args.n c.fill.new.self.rows c.fill.new.self.degs = record { edges = c.args.edges.now; skeleton = c.requires.skeleton.0; table = c.fill.ensures } in
    let (h, k) = one_inside in record { held = (held, c.requires.skeleton.1); le_root = (h, k, c.requires.order_len.0, c.requires.order_len.1) }

pub rooted-looked-requires-then-u-v : goal.rooted-looked-requires-then-u-v
rooted-looked-requires-then-u-v c = let centre : IsCentre c.args.n c.args.edges.now c.middles-m.result.first c.middles-m.result.second = c.middles-m.ensures.by_index c.args.edges.now c.requires.skeleton.0.tree c.fill.ensures in
    let other-inside : (1 ≤ c.middles-m.result.second) × (c.middles-m.result.second ≤ c.args.n) = (centre_inside _ _ c.requires.skeleton.0.tree _ _ (centre)).1 in
    let held : Held c.args.n c.fill.new.self.rows c.fill.new.self.degs = record { edges = c.args.edges.now; skeleton = c.requires.skeleton.0; table = c.fill.ensures } in
    let (h, k) = other-inside in record { held = (held, c.requires.skeleton.1); le_root = (h, k, refl, c.requires.skeleton.0.few) }

pub overflow_add-looked : goal.overflow_add-looked
overflow_add-looked c = let centre : IsCentre c.args.n c.args.edges.now c.middles-m.result.first c.middles-m.result.second = c.middles-m.ensures.by_index c.args.edges.now c.requires.skeleton.0.tree c.fill.ensures in
    let one_inside : (1 ≤ c.middles-m.result.first) × (c.middles-m.result.first ≤ c.args.n) = (centre_inside _ _ c.requires.skeleton.0.tree _ _ (centre)).0 in
    let other-inside : (1 ≤ c.middles-m.result.second) × (c.middles-m.result.second ≤ c.args.n) = (centre_inside _ _ c.requires.skeleton.0.tree _ _ (centre)).1 in
    let coded : let E = c.args.edges.now in (label : ℕ → Atom) → Named c.args.n label c.args.atoms.now → (take c.args.n c.rooted-looked.new.order ≡ orderₗ atoms label c.args.n E (c.middles-m.result.first)) × (c.rooted-looked.new.out ≡ laid_over (rootedₗ atoms label c.args.n E (c.middles-m.result.first)) c.args.out.now) × (c.rooted-looked.result ≡ coding label c.args.n E (c.middles-m.result.first)) = λ label q. c.rooted-looked.ensures.by_index c.args.edges.now label c.requires.skeleton.0.tree c.fill.ensures q in
    let coded2 : let E = c.args.edges.now in (label : ℕ → Atom) → Named c.args.n label c.args.atoms.now → (take c.args.n c.rooted-looked-then-u-v.new.order ≡ orderₗ atoms label c.args.n E (c.middles-m.result.second)) × (c.rooted-looked-then-u-v.new.out ≡ laid_over (rootedₗ atoms label c.args.n E (c.middles-m.result.second)) (replicate size 0)) × (c.rooted-looked-then-u-v.result ≡ coding label c.args.n E (c.middles-m.result.second)) = λ label q. c.rooted-looked-then-u-v.ensures.by_index c.args.edges.now label c.requires.skeleton.0.tree c.fill.ensures q in
    let (s, r) = c.requires.skeleton in
    let (a, b) = one_inside in
    let (h, k) = other-inside in
    omega (arith, few_at s r.label a b (coded r.label r.named).2, few_at s r.label h k (coded2 r.label r.named).2)

pub raise-requires : goal.raise-requires
raise-requires c = let centre : IsCentre c.args.n c.args.edges.now c.middles-m.result.first c.middles-m.result.second = c.middles-m.ensures.by_index c.args.edges.now c.requires.skeleton.0.tree c.fill.ensures in
    let one_inside : (1 ≤ c.middles-m.result.first) × (c.middles-m.result.first ≤ c.args.n) = (centre_inside _ _ c.requires.skeleton.0.tree _ _ (centre)).0 in
    let other-inside : (1 ≤ c.middles-m.result.second) × (c.middles-m.result.second ≤ c.args.n) = (centre_inside _ _ c.requires.skeleton.0.tree _ _ (centre)).1 in
    let coded : let E = c.args.edges.now in (label : ℕ → Atom) → Named c.args.n label c.args.atoms.now → (take c.args.n c.rooted-looked.new.order ≡ orderₗ atoms label c.args.n E (c.middles-m.result.first)) × (c.rooted-looked.new.out ≡ laid_over (rootedₗ atoms label c.args.n E (c.middles-m.result.first)) c.args.out.now) × (c.rooted-looked.result ≡ coding label c.args.n E (c.middles-m.result.first)) = λ label q. c.rooted-looked.ensures.by_index c.args.edges.now label c.requires.skeleton.0.tree c.fill.ensures q in
    let coded2 : let E = c.args.edges.now in (label : ℕ → Atom) → Named c.args.n label c.args.atoms.now → (take c.args.n c.rooted-looked-then-u-v.new.order ≡ orderₗ atoms label c.args.n E (c.middles-m.result.second)) × (c.rooted-looked-then-u-v.new.out ≡ laid_over (rootedₗ atoms label c.args.n E (c.middles-m.result.second)) (replicate size 0)) × (c.rooted-looked-then-u-v.result ≡ coding label c.args.n E (c.middles-m.result.second)) = λ label q. c.rooted-looked-then-u-v.ensures.by_index c.args.edges.now label c.requires.skeleton.0.tree c.fill.ensures q in
    let (s, r) = c.requires.skeleton in
    let a = codes_of r.label s.tree in
    let (g, b) = one_inside in
    let (h, k) = other-inside in
    (front-room a g b _ (coded r.label r.named).1, front-room a h k _ (coded2 r.label r.named).1)

pub copy-requires : goal.copy-requires
copy-requires c = omega (arith, c.rooted-looked-then-u-v.ensures.order_len, c.rooted-looked.ensures.order_len)

pub returns-then-raise : goal.returns-then-raise
returns-then-raise c = let centre : IsCentre c.args.n c.args.edges.now c.middles-m.result.first c.middles-m.result.second = c.middles-m.ensures.by_index c.args.edges.now c.requires.skeleton.0.tree c.fill.ensures in
    let other-inside : (1 ≤ c.middles-m.result.second) × (c.middles-m.result.second ≤ c.args.n) = (centre_inside _ _ c.requires.skeleton.0.tree _ _ (centre)).1 in
    let coded : let E = c.args.edges.now in (label : ℕ → Atom) → Named c.args.n label c.args.atoms.now → (take c.args.n c.rooted-looked.new.order ≡ orderₗ atoms label c.args.n E (c.middles-m.result.first)) × (c.rooted-looked.new.out ≡ laid_over (rootedₗ atoms label c.args.n E (c.middles-m.result.first)) c.args.out.now) × (c.rooted-looked.result ≡ coding label c.args.n E (c.middles-m.result.first)) = λ label q. c.rooted-looked.ensures.by_index c.args.edges.now label c.requires.skeleton.0.tree c.fill.ensures q in
    let coded2 : let E = c.args.edges.now in (label : ℕ → Atom) → Named c.args.n label c.args.atoms.now → (take c.args.n c.rooted-looked-then-u-v.new.order ≡ orderₗ atoms label c.args.n E (c.middles-m.result.second)) × (c.rooted-looked-then-u-v.new.out ≡ laid_over (rootedₗ atoms label c.args.n E (c.middles-m.result.second)) (replicate size 0)) × (c.rooted-looked-then-u-v.result ≡ coding label c.args.n E (c.middles-m.result.second)) = λ label q. c.rooted-looked-then-u-v.ensures.by_index c.args.edges.now label c.requires.skeleton.0.tree c.fill.ensures q in
    let t = c.requires.skeleton.0.tree in
    let (h, k) = other-inside in record {
      order_len_2 = search rules;
      by_index = λ label n.
          let a = codes_of label t in
          let x = coded label n in
          let w = coded2 label n in
          (second-rises a (orderₗ atoms label _ _) t (centre) (c.middles-m.ensures.first_le_second) _ _ x.0 x.1 _ (front a h k _ w.1) _ c.raise.ensures c.if-raise.true w.0 (omega (arith, c.requires.skeleton.0.few, c.rooted-looked-then-u-v.ensures.order_len)) c.copy.ensures.bytes, both_summed (coding label _ _) (centre) x.2 w.2 (c.if-u-v.true));
    }

pub returns-else-raise : goal.returns-else-raise
returns-else-raise c = let centre : IsCentre c.args.n c.args.edges.now c.middles-m.result.first c.middles-m.result.second = c.middles-m.ensures.by_index c.args.edges.now c.requires.skeleton.0.tree c.fill.ensures in
    let other-inside : (1 ≤ c.middles-m.result.second) × (c.middles-m.result.second ≤ c.args.n) = (centre_inside _ _ c.requires.skeleton.0.tree _ _ (centre)).1 in
    let coded : let E = c.args.edges.now in (label : ℕ → Atom) → Named c.args.n label c.args.atoms.now → (take c.args.n c.rooted-looked.new.order ≡ orderₗ atoms label c.args.n E (c.middles-m.result.first)) × (c.rooted-looked.new.out ≡ laid_over (rootedₗ atoms label c.args.n E (c.middles-m.result.first)) c.args.out.now) × (c.rooted-looked.result ≡ coding label c.args.n E (c.middles-m.result.first)) = λ label q. c.rooted-looked.ensures.by_index c.args.edges.now label c.requires.skeleton.0.tree c.fill.ensures q in
    let coded2 : let E = c.args.edges.now in (label : ℕ → Atom) → Named c.args.n label c.args.atoms.now → (take c.args.n c.rooted-looked-then-u-v.new.order ≡ orderₗ atoms label c.args.n E (c.middles-m.result.second)) × (c.rooted-looked-then-u-v.new.out ≡ laid_over (rootedₗ atoms label c.args.n E (c.middles-m.result.second)) (replicate size 0)) × (c.rooted-looked-then-u-v.result ≡ coding label c.args.n E (c.middles-m.result.second)) = λ label q. c.rooted-looked-then-u-v.ensures.by_index c.args.edges.now label c.requires.skeleton.0.tree c.fill.ensures q in
    let (h, k) = other-inside in record {
      order_len_2 = c.rooted-looked.ensures.order_len;
      by_index = λ label n.
          let a = codes_of label c.requires.skeleton.0.tree in
          let x = coded label n in
          let w = coded2 label n in
          (first_stays a (orderₗ atoms label _ _) c.requires.skeleton.0.tree (centre) (c.middles-m.ensures.first_le_second) _ _ x.0 x.1 _ (front a h k _ w.1) c.raise.ensures c.if-raise.false, both_summed (coding label _ _) (centre) x.2 w.2 (c.if-u-v.true));
    }

pub returns-else-u-v : goal.returns-else-u-v
returns-else-u-v c = let coded : let E = c.args.edges.now in (label : ℕ → Atom) → Named c.args.n label c.args.atoms.now → (take c.args.n c.rooted-looked.new.order ≡ orderₗ atoms label c.args.n E (c.middles-m.result.first)) × (c.rooted-looked.new.out ≡ laid_over (rootedₗ atoms label c.args.n E (c.middles-m.result.first)) c.args.out.now) × (c.rooted-looked.result ≡ coding label c.args.n E (c.middles-m.result.first)) = λ label q. c.rooted-looked.ensures.by_index c.args.edges.now label c.requires.skeleton.0.tree c.fill.ensures q in
    let centre : IsCentre c.args.n c.args.edges.now c.middles-m.result.first c.middles-m.result.second = c.middles-m.ensures.by_index c.args.edges.now c.requires.skeleton.0.tree c.fill.ensures in
    let e : c.middles-m.result.first ≡ c.middles-m.result.second = c.if-u-v.false in record {
      order_len_2 = c.rooted-looked.ensures.order_len;
      by_index = λ label n.
          let x = coded label n in
          (one-middle (codes_of label c.requires.skeleton.0.tree) (orderₗ atoms label _ _) c.requires.skeleton.0.tree (centre) (c.middles-m.ensures.first_le_second) _ _ x.0 x.1 e, one_summed (coding label _ _) (centre) x.2 e);
    }
