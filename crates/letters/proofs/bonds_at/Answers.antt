-- `letters::bonds_at` meets its contract. Assumes nothing.
use mathlib.Core.Path.{◌≡◌, refl, sym, ap, ◌∙◌}
use mathlib.Core.List.{List}
use Prim.Native.Nat.{ℕ, ◌-◌, ◌≤◌}
use native.Mathlib.Decide.{ℕ_discrete}
use native.Mathlib.Omega.{arith}
use lib.ListN.{length, get_or, get_or-eq_default}
use Rattle.skeleton.specs.document.Atom.{rank, bonds, atom_of, atom_at}
use Rattle.skeleton.specs.Atoms.{bonds-rank, rank-under}
use Rattle.letters.proofs.bonds_at.Goals as goal

-- behind the letters
no-letter : (s : List ℕ) (i : ℕ) → length s ≤ i → 4 ≡ bonds (atom_of (get_or s i 0))
unfolding atom_of ℕ_discrete
no-letter s i h = rw (get_or-eq_default s 0 h) refl

pub returns-then-letters-i : goal.returns-then-letters-i
returns-then-letters-i c = (no-letter c.args.letters.now (c.args.v - 1) (omega (arith, c.saturating_sub-i.ensures, c.if-letters-i.true)), omega arith)

pub overflow_sub-result : goal.overflow_sub-result
overflow_sub-result c = omega (arith, c.ranked.ensures, rank-under (atom_of (get_or c.args.letters.now c.saturating_sub-i.result 0)))

pub returns : goal.returns
returns c = let s : List ℕ = c.args.letters.now in (
  ap (λ x. 4 - x) c.ranked.ensures ∙ ap (λ i. 4 - rank (atom_of (get_or s i 0))) c.saturating_sub-i.ensures ∙ sym (bonds-rank (atom_at s c.args.v)),
  omega arith,
)
