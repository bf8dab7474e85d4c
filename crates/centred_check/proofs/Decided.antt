-- A code against one that lies in parts, where the first part decides. Assumes nothing.
use mathlib.Core.Path.{◌≡◌, refl}
use mathlib.Core.List.{List, ◌++◌}
use Prim.Native.Nat.{ℕ, ◌≤◌}
use lib.ListN.{length, take}
use Rattle.digit_code.specs.declared.Order.{Order}
use Rattle.digit_code.specs.declared.Order.TheVariants.{Less, Equal, Greater}
use Rattle.digit_code.specs.Compare.{lex}
use Rattle.centred_check.specs.Pieces.{two-less, two_greater}

module _ (u a b : List ℕ) (h : length a ≤ length u) where
  pub decided : (o : Order) → lex (take (length a) u) a ≡ o → ((k : ℕ) → o ≡ Equal k → ⊥) → o ≡ lex u (a ++ b)
  decided (Less k) e n = two-less u a b h e
  decided (Equal k) e n = absurd (n k refl)
  decided (Greater k) e n = two_greater u a b h e
