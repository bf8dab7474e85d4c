-- `letters::carbon` meets its contract. The loop's invariant: 14 applies at no place that is passed. Assumes nothing.
use mathlib.Core.Path.{◌≡◌, sym, ap, ◌∙◌}
use mathlib.Core.List.{List}
use Prim.Native.Nat.{ℕ, ◌+◌}
use native.Mathlib.Omega.{arith}
use lib.ListN.{get_or}
use borrow.Author.Count.{below_more}
use Rattle.refusal.specs.Laws.{clear_one}
use Rattle.refusal.proofs.Laws.{first-place}
use Rattle.refusal.specs.Checks.{passes, fails}
use Rattle.skeleton.specs.document.Atom.{Atom, C, rank, named, atom_of, atom_at}
use Rattle.skeleton.specs.Atoms.{named-rank}
use Rattle.letters.proofs.carbon.Goals as goal

is-carbon : (a : Atom) → rank a ≡ 0 → a ≡ C
is-carbon a e = sym (named-rank a) ∙ ap named e

-- the letter at i is that of vertex i + 1
at-place : (s : List ℕ) (i : ℕ) → atom_at s (i + 1) ≡ atom_of (get_or s i 0)
at-place s i = ap (λ k. atom_of (get_or s k 0)) (omega arith)

pub returns-then-ranked-ne0 : goal.returns-then-ranked-ne0
returns-then-ranked-ne0 c =
    fails (first-place (omega arith, omega arith, λ e. c.if-ranked-ne0.true (c.ranked.ensures ∙ ap rank (sym (at-place c.args.letters.now c.loop-i.i) ∙ e))) c.loop-i.invariant)

pub loop-i-preserved : goal.loop-i-preserved
loop-i-preserved c = below_more _ _ c.loop-i.invariant (λ a. a.2 (at-place c.args.letters.now c.loop-i.i ∙ is-carbon _ (sym c.ranked.ensures ∙ c.if-ranked-ne0.false)))

pub returns : goal.returns
returns c = passes (clear_one (λ q a. c.loop-i.invariant q (omega (arith, a.1)) a))
