-- `named_lines::width` meets its contract. Assumes nothing.
use mathlib.Core.Path.{◌≡◌, ap}
use Prim.Native.Nat.{ℕ}
use native.Mathlib.Omega.{arith}
use borrow.Author.Rules.{rules}
use lib.ListN.{length}
use Rattle.texts.specs.document.Numerals.{decimal}
use Rattle.texts.specs.document.Parts.{tally}
use Rattle.texts.specs.Numerals.{length_short, length_long}
use Rattle.named_lines.specs.NamedWriting.{count_long}
use Rattle.named_lines.proofs.width.Goals as goal

pub returns-then-tallied-lt10 : goal.returns-then-tallied-lt10
returns-then-tallied-lt10 c = let same : length (decimal c.tallied.result) ≡ length (decimal (tally c.args.a c.args.letters.now)) = ap (λ (n : ℕ). length (decimal n)) c.tallied.ensures in record { letters_len = omega (arith, count_long c.args.a c.args.letters.now, length_short c.tallied.result (search rules), same); upper_bound = omega arith }

pub returns : goal.returns
returns c = let same : length (decimal c.tallied.result) ≡ length (decimal (tally c.args.a c.args.letters.now)) = ap (λ (n : ℕ). length (decimal n)) c.tallied.ensures in record { letters_len = omega (arith, count_long c.args.a c.args.letters.now, length_long c.tallied.result (search rules), same); upper_bound = omega arith }
