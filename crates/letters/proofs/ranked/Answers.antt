-- `letters::ranked` meets its contract. Assumes nothing.
use mathlib.Core.Path.{◌≡◌, ap, sym, ◌∙◌}
use mathlib.Core.Logic.{ite, if_pos, if_neg}
use Prim.Native.Nat.{ℕ}
use native.Mathlib.Decide.{ℕ_discrete}
use Rattle.skeleton.specs.document.Atom.{Atom, C, N, O, rank, letter, atom_of}
use Rattle.letters.proofs.ranked.Goals as goal

module _ (b : ℕ) where
  -- the atom of a byte other than N
  abbrev other : Atom
  other = ite (ℕ_discrete b (letter O)) O C

  nitrogen : b ≡ letter N → 1 ≡ rank (atom_of b)
  unfolding atom_of
  nitrogen e = ap rank (sym (if_pos (ℕ_discrete b (letter N)) e N other))

  oxygen : (b ≡ letter N → ⊥) → b ≡ letter O → 2 ≡ rank (atom_of b)
  unfolding atom_of
  oxygen n e = ap rank (sym (if_neg (ℕ_discrete b (letter N)) n N other ∙ if_pos (ℕ_discrete b (letter O)) e O C))

  carbon : (b ≡ letter N → ⊥) → (b ≡ letter O → ⊥) → 0 ≡ rank (atom_of b)
  unfolding atom_of
  carbon n e = ap rank (sym (if_neg (ℕ_discrete b (letter N)) n N other ∙ if_neg (ℕ_discrete b (letter O)) e O C))

pub returns-then-letter-eq78 : goal.returns-then-letter-eq78
returns-then-letter-eq78 c = nitrogen c.args.letter c.if-letter-eq78.true

pub returns-then-letter-eq79 : goal.returns-then-letter-eq79
returns-then-letter-eq79 c = oxygen c.args.letter c.if-letter-eq78.false c.if-letter-eq79.true

pub returns : goal.returns
returns c = carbon c.args.letter c.if-letter-eq78.false c.if-letter-eq79.false
