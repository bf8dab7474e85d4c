-- `form_coder::middles` meets its contract. Assumes nothing.
use mathlib.Core.Path.{◌≡◌}
use mathlib.Core.List.{List}
use Prim.Native.Nat.{ℕ, ◌<◌}
use Rattle.std.specs.Prelude.{min, max}
use native.Mathlib.Decide.{dec_lt}
use native.Mathlib.Omega.{arith}
use Rattle.longest_path.specs.document.Path.{IsCentre}
use Rattle.longest_path.specs.Turning.{turned}
use Rattle.form_coder.proofs.middles.Goals as goal

-- two middles stay so in order
in_order : {n : ℕ} {E : List ℕ} {a b : ℕ} → IsCentre n E a b → IsCentre n E (min a b) (max a b)
in_order {n} {E} {a} {b} x = step (dec_lt b a)
  where
    step : Dec (b < a) → IsCentre n E (min a b) (max a b)
    step (yes l) = let p : min a b ≡ b = omega arith in let q : max a b ≡ a = omega arith in rw (p, q) (turned x)
    step (no l) = let p : min a b ≡ a = omega arith in let q : max a b ≡ b = omega arith in rw (p, q) x

pub returns-clause-by_index : goal.returns-clause-by_index
returns-clause-by_index c E t h = rw (c.min.ensures, c.max.ensures) (in_order (c.centre-m.ensures E t h))
