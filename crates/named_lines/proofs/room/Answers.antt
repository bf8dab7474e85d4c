-- `named_lines::room` meets its contract: the room of the shorter area. Assumes nothing.
use mathlib.Core.Path.{◌≡◌}
use Prim.Native.Nat.{ℕ, ◌<◌, min}
use native.Mathlib.Omega.{arith}
use Rattle.std.proofs.Math.Decide.{dec_lt}
use Rattle.limits.specs.document.Limits.{size}
use Rattle.lines.specs.Form.{Room}
use Rattle.named_lines.specs.NamedText.{NamedRoom, by_records, by_letters}

shorter : (records letters : ℕ) {numbers places r : ℕ} → Room size (min records letters) numbers places r → NamedRoom records letters numbers places r
shorter a b {numbers} {places} {r} m = go (dec_lt b a)
  where
    go : Dec (b < a) → NamedRoom a b numbers places r
    go (yes h) = let e : min a b ≡ b = omega arith in by_letters h (rw e at m)
    go (no h) = let e : min a b ≡ a = omega arith in by_records (omega arith) (rw e at m)
