-- `rooted_coder::seek` meets its contract. Assumes nothing.
use mathlib.Core.Path.{◌≡◌, refl, sym, ◌∙◌}
use mathlib.Core.Bool.{true, false}
use mathlib.Core.List.{List}
use Prim.Native.Nat.{ℕ, ◌+◌, ◌≤◌, ◌<◌}
use native.Mathlib.Omega.{arith}
use lib.ListN.{length, get_or, length-map}
use Rattle.laws.specs.Part.{part, part_length}
use Rattle.laws.specs.Tells.{was_held, was_denied}
use Rattle.digit_code.specs.declared.Order.{Order}
use Rattle.digit_code.specs.Compare.{lex, looked, pairs_of, looked_few, falls?, told-falls, told-pairs}
use Rattle.rooted_coder.specs.Ordered.{mark_of, marked, Standing}
use Rattle.rooted_coder.proofs.Spots.{Looking, look, found, fits, past, first, behind}
use Rattle.rooted_coder.proofs.seek.Goals as goal

-- the part of w places that begins at x
module _ (k : List ℕ) (b : ℕ) {s lens : List ℕ} {f m x at n : ℕ} (t : Standing s lens f m) (g : Looking (marked k) s lens f m (part m b s) x at n) (h : x < m) {w : ℕ}
    (is : w ≡ get_or lens x 0) where
  fitting : (1 ≤ w) × (x + w ≤ m)
  fitting = let p = fits t g h in (omega (arith, p.0, is), omega (arith, p.1, is))

  -- what the comparison came to
  module _ (room : (m ≤ b) × (b ≤ length s) × (m ≤ length lens)) {r o : Order} (q : r ≡ lex (marked k (part x (x + w) s)) (marked k (part m b s))) (e : r ≡ o) where
    told : lex (marked k (part x (x + w) s)) (marked k (part m b s)) ≡ o
    told = sym q ∙ e

    pairs : pairs_of o ≡ looked (marked k (part x (x + w) s)) (marked k (part m b s))
    pairs = told-pairs (marked k (part x (x + w) s)) (marked k (part m b s)) told

    few : pairs_of o ≤ w
    few =
        let d = part x (x + w) s in
        omega (arith, pairs, looked_few (marked k d) (marked k (part m b s)), length-map d (mark_of k), part_length x (x + w) s (omega (arith, fitting.1, room)))

    adds : n + pairs_of o ≤ m
    adds = omega (arith, few, fitting.1, g.few)

    onward-first : falls? o ≡ false → at ≡ m → Looking (marked k) s lens f m (part m b s) (x + w) x (n + pairs_of o)
    onward-first z i = first t g h is few pairs (was_denied (told-falls (marked k (part x (x + w) s)) (marked k (part m b s)) told) z) i

    onward-behind : (at ≡ m → ⊥) → Looking (marked k) s lens f m (part m b s) (x + w) at (n + pairs_of o)
    onward-behind i = behind t g h is few pairs i

    onward-past : falls? o ≡ true → Looking (marked k) s lens f m (part m b s) (x + w) at (n + pairs_of o)
    onward-past z = past t g h is few pairs (was_held (told-falls (marked k (part x (x + w) s)) (marked k (part m b s)) told) z)

pub loop-x-init : goal.loop-x-init
loop-x-init c = look _ _ c.requires.standing

pub overflow_add-x : goal.overflow_add-x
overflow_add-x c = let a = c.args in omega (arith, fitting a.marks.now a.b c.requires.standing c.loop-x.invariant c.loop-x-test.true c.wide-x.ensures.0)

pub slice_bounds-compare-end : goal.slice_bounds-compare-end
slice_bounds-compare-end c = let a = c.args in
    omega (arith, fitting a.marks.now a.b c.requires.standing c.loop-x.invariant c.loop-x-test.true c.wide-x.ensures.0, c.requires.m_le_b)

pub overflow_add-looked : goal.overflow_add-looked
overflow_add-looked c = let a = c.args in
    omega (arith, adds a.marks.now a.b c.requires.standing c.loop-x.invariant c.loop-x-test.true c.wide-x.ensures.0 c.requires.m_le_b c.compare.ensures c.in-Less.is)

pub loop-x-smaller-then-at-m : goal.loop-x-smaller-then-at-m
loop-x-smaller-then-at-m c = let a = c.args in
    omega (arith, fitting a.marks.now a.b c.requires.standing c.loop-x.invariant c.loop-x-test.true c.wide-x.ensures.0, c.loop-x-test.true)

pub loop-x-preserved-then-at-m : goal.loop-x-preserved-then-at-m
loop-x-preserved-then-at-m c = let a = c.args in
    onward-first a.marks.now a.b c.requires.standing c.loop-x.invariant c.loop-x-test.true c.wide-x.ensures.0 c.requires.m_le_b c.compare.ensures c.in-Less.is refl c.if-at-m.true

pub loop-x-smaller-else-at-m : goal.loop-x-smaller-else-at-m
loop-x-smaller-else-at-m c = let a = c.args in
    omega (arith, fitting a.marks.now a.b c.requires.standing c.loop-x.invariant c.loop-x-test.true c.wide-x.ensures.0, c.loop-x-test.true)

pub loop-x-preserved-else-at-m : goal.loop-x-preserved-else-at-m
loop-x-preserved-else-at-m c = let a = c.args in
    onward-behind a.marks.now a.b c.requires.standing c.loop-x.invariant c.loop-x-test.true c.wide-x.ensures.0 c.requires.m_le_b c.compare.ensures c.in-Less.is c.if-at-m.false

pub overflow_add-looked-in-Equal : goal.overflow_add-looked-in-Equal
overflow_add-looked-in-Equal c = let a = c.args in
    omega (arith, adds a.marks.now a.b c.requires.standing c.loop-x.invariant c.loop-x-test.true c.wide-x.ensures.0 c.requires.m_le_b c.compare.ensures c.in-Equal.is)

pub loop-x-smaller-in-Equal : goal.loop-x-smaller-in-Equal
loop-x-smaller-in-Equal c = let a = c.args in
    omega (arith, fitting a.marks.now a.b c.requires.standing c.loop-x.invariant c.loop-x-test.true c.wide-x.ensures.0, c.loop-x-test.true)

pub loop-x-preserved-in-Equal : goal.loop-x-preserved-in-Equal
loop-x-preserved-in-Equal c = let a = c.args in
    onward-past a.marks.now a.b c.requires.standing c.loop-x.invariant c.loop-x-test.true c.wide-x.ensures.0 c.requires.m_le_b c.compare.ensures c.in-Equal.is refl

pub overflow_add-looked-in-Greater : goal.overflow_add-looked-in-Greater
overflow_add-looked-in-Greater c = let a = c.args in
    omega (arith, adds a.marks.now a.b c.requires.standing c.loop-x.invariant c.loop-x-test.true c.wide-x.ensures.0 c.requires.m_le_b c.compare.ensures c.in-Greater.is)

pub loop-x-smaller : goal.loop-x-smaller
loop-x-smaller c = let a = c.args in
    omega (arith, fitting a.marks.now a.b c.requires.standing c.loop-x.invariant c.loop-x-test.true c.wide-x.ensures.0, c.loop-x-test.true)

pub loop-x-preserved : goal.loop-x-preserved
loop-x-preserved c = let a = c.args in
    onward-past a.marks.now a.b c.requires.standing c.loop-x.invariant c.loop-x-test.true c.wide-x.ensures.0 c.requires.m_le_b c.compare.ensures c.in-Greater.is refl

pub returns : goal.returns
returns c = record { at_le_m = (c.loop-x.invariant.spot, omega (arith, c.loop-x.invariant.few, c.loop-x.invariant.upper)); by_index = found c.requires.standing c.loop-x.invariant c.loop-x-test.false }
