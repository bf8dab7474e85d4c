-- `renumber::entries` meets its contract. The loop's invariant: 18 applies at no entry before p. Assumes nothing.
use mathlib.Core.Path.{◌≡◌, sym, subst}
use mathlib.Core.Logic.{◌↔◌, inl, inr, ⊎_elim}
use mathlib.Core.List.{List}
use Prim.Native.Nat.{ℕ, ◌+◌, ◌≤◌, ◌<◌}
use native.Mathlib.Omega.{arith}
use borrow.Author.Count.{below_more}
use Rattle.laws.specs.Tells.{was_held, was_denied}
use Rattle.refusal.specs.document.Table.{Outside}
use Rattle.refusal.specs.Laws.{clear_one}
use Rattle.refusal.proofs.Laws.{first-place}
use Rattle.refusal.specs.Checks.{passes, fails}
use Rattle.skeleton.specs.document.Atom.{Atom}
use Rattle.letters.specs.Named.{rank_at, Named}
use Rattle.renumber.specs.document.Map.{Entry, image}
use Rattle.renumber.specs.document.Kept.{row18-kept}
use Rattle.renumber.proofs.Atoms.{inside, same_ranks}
use Rattle.renumber.proofs.entries.Goals as goal
use Rattle.renumber.proofs.entries.Goals.{Else-not-kept, then-outside-via-then-outside, then-outside-via-else-outside+then-repeats, then-outside-via-else-outside+else-repeats+then-not-kept}

-- it applies at none before p, whatever the atoms are
abbrev None : ℕ → List ℕ → List ℕ → List ℕ → ℕ → Type 0
None n a b map p = (l k : ℕ → Atom) → Named n l a → Named n k b → (q : ℕ) → q < p → (row18-kept l k n map).applies q → ⊥

-- it applies at entries alone
at_entry : (l k : ℕ → Atom) (n : ℕ) (w : List ℕ) (q : ℕ) → (row18-kept l k n w).applies q → Entry w q
at_entry l k n w q a = ⊎_elim (λ z. z.0) (λ z. z.0) a

-- two vertices' ranks are equal just where their atoms are
ranks : {n p x : ℕ} {a b : List ℕ} (w : List ℕ) {l k : ℕ → Atom} → Named n l a → Named n k b → (1 ≤ p) × (p ≤ n) → (Outside n x → ⊥) → x ≡ image w p
    → (rank_at a p ≡ rank_at b x) ↔ (k (image w p) ≡ l p)
ranks w y z i f e = rw (← e) (same_ranks y z _ _ i (inside f))

-- it applies at none up to p
more : (c : Else-not-kept) → None c.args.n c.args.atoms1.now c.args.atoms2.now c.args.map.now (c.loop-p.p + 1)
more c l k x y =
    let within = was_denied c.outside.ensures c.if-outside.false in
    below_more _ _ (c.loop-p.invariant l k x y) (⊎_elim
    (λ h. ⊎_elim (λ z. within (subst (Outside _) (sym c.entry-x.ensures) z)) (λ z. was_denied c.repeats.ensures c.if-repeats.false z) h.1)
    (λ h. h.1 ((ranks c.args.map.now x y (omega arith, omega (arith, c.requires)) within c.entry-x.ensures).0 (was_held c.kept.ensures c.if-not-kept.false))))

pub returns-then-outside : goal.returns-then-outside
returns-then-outside c l k x y =
    fails (first-place (elim c.then-outside.branch [
      | then-outside-via-then-outside w ↦ inl ((omega arith, omega arith), inl (rw c.entry-x.ensures at (was_held c.outside.ensures w.if-outside.true)))
      | then-outside-via-else-outside+then-repeats w ↦ inl ((omega arith, omega arith), inr (was_held w.repeats.ensures w.if-repeats.true))
      | then-outside-via-else-outside+else-repeats+then-not-kept w ↦
          let within = was_denied c.outside.ensures w.if-outside.false in
          inr ((omega arith, omega arith), λ e. was_denied w.kept.ensures w.if-not-kept.true ((ranks c.args.map.now x y (omega arith, omega (arith, c.requires)) within c.entry-x.ensures).1 e))
    ]) (c.loop-p.invariant l k x y))

pub loop-p-preserved : goal.loop-p-preserved
loop-p-preserved c = more (goal.at.loop-p-preserved c).Else-not-kept

pub returns : goal.returns
returns c l k x y = passes (clear_one (λ q a. c.loop-p.invariant l k x y q (omega (arith, at_entry l k c.args.n c.args.map.now q a)) a))

pub returns-else-not-kept : goal.returns-else-not-kept
returns-else-not-kept c l k x y =
    passes (clear_one (λ q a. more (goal.at.returns-else-not-kept c).Else-not-kept l k x y q (omega (arith, at_entry l k c.args.n c.args.map.now q a)) a))
