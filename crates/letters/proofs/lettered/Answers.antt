-- `letters::lettered` meets its contract. Assumes nothing.
use mathlib.Core.Path.{◌≡◌, refl}
use Prim.Native.Nat.{ℕ, zero, suc}
use Rattle.skeleton.specs.document.Atom.{named, letter}

oxygen : (m : ℕ) → (m ≡ 0 → ⊥) → (m ≡ 1 → ⊥) → 79 ≡ letter (named m)
oxygen zero c n = absurd (c refl)
oxygen (suc zero) c n = absurd (n refl)
oxygen (suc (suc m)) c n = refl
