-- Laws of atoms, their ranks and their letters. Assumes nothing.
use Rattle.std.specs.Prelude.{◌≡◌, refl, ◌↔◌, ◌⊎◌, ℕ, zero, suc, ◌+◌, ◌-◌, ◌*◌, ◌<◌}
use Rattle.std.proofs.Common.{ap, sym, ◌∙◌, inl, inr, ⊎_elim, arith}
use Rattle.std.proofs.Math.Decide.{ℕ_discrete, dec_lt}
use Rattle.skeleton.specs.document.Atom.{Atom, C, N, O, rank, named, bonds, letter, atom_of}

pub rank-named : (n : ℕ) → n < 3 → rank (named n) ≡ n
rank-named zero h = refl
rank-named (suc zero) h = refl
rank-named (suc (suc n)) h = omega arith

pub rank-under : (a : Atom) → rank a < 3
rank-under C = omega arith
rank-under N = omega arith
rank-under O = omega arith

pub named-rank : (a : Atom) → named (rank a) ≡ a
named-rank C = refl
named-rank N = refl
named-rank O = refl

-- each further atom may have one neighbour fewer
pub bonds-rank : (a : Atom) → bonds a ≡ 4 - rank a
bonds-rank C = refl
bonds-rank N = refl
bonds-rank O = refl

-- whether two atoms are the same
pub same_atom : (a b : Atom) → Dec (a ≡ b)
same_atom a b = step (ℕ_discrete (rank a) (rank b))
  where
    step : Dec (rank a ≡ rank b) → Dec (a ≡ b)
    step (yes e) = yes (sym (named-rank a) ∙ ap named e ∙ named-rank b)
    step (no n) = no (λ e. n (ap rank e))

-- the letter of an atom is its own
pub letter_atom : (a : Atom) → atom_of (letter a) ≡ a
unfolding atom_of ℕ_discrete
letter_atom C = refl
letter_atom N = refl
letter_atom O = refl

-- marks stand as their digits do, and where those are equal as their atoms do
pub by_digit_then_atom : (j k : ℕ) (a b : Atom) → (3 * j + rank a < 3 * k + rank b) ↔ ((j < k) ⊎ ((j ≡ k) × (rank a < rank b)))
by_digit_then_atom j k a b = (λ h. split h (dec_lt j k), ⊎_elim (λ l. omega (arith, rank-under a)) (λ (e, l). omega arith))
  where
    split : 3 * j + rank a < 3 * k + rank b → Dec (j < k) → (j < k) ⊎ ((j ≡ k) × (rank a < rank b))
    split h (yes l) = inl l
    split h (no n) = let e : j ≡ k = omega (arith, rank-under b) in inr (e, omega arith)
