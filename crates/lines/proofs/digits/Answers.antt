-- `lines::digits` meets its contract: there is a byte, and each is a digit's. Assumes nothing.
use mathlib.Core.Bool.{Bool, true, false}
use Prim.Native.Nat.{ℕ, ◌≤◌, ◌<◌}
use mathlib.Core.List.{List}
use native.Mathlib.Omega.{arith}
use lib.ListN.{length}
use Rattle.std.specs.Bool.{MatchBool}
use Rattle.std.specs.List.{HoldsAt, AllWithin}
use Rattle.std.proofs.Common.{rules, tests}
use Rattle.std.proofs.lemmas.Bool.Decides.{nat_tests}
use Rattle.std.proofs.lemmas.Iterator.{cases_from_all, YieldsList-from_slice}
use Rattle.lines.specs.document.Marks.{WrittenDigit}
use Rattle.lines.specs.Form.{Figured, all, not_all}
use Rattle.laws.specs.Each.{each_at, each_of}
use Rattle.lines.proofs.digits.Goals as goal

-- each byte of t is a digit's, or one is none
figured_by : {t : List ℕ} {r : Bool} → 1 ≤ length t → MatchBool r (AllWithin WrittenDigit t 0 (length t)) ((k : ℕ) × (k < length t) × HoldsAt (λ b. WrittenDigit b → ⊥) t k) → Figured t r
figured_by {t} {r = true} l h = all l (each_of WrittenDigit t (λ i m. h i 0 (omega arith) m))
figured_by {t} {r = false} l h = not_all (λ m f. h.2 0 (each_at WrittenDigit t h.0 f h.1))

pub returns-then-not-is_empty : goal.returns-then-not-is_empty
returns-then-not-is_empty c =
    figured_by (let n = c.if-not-is_empty.true in grind (arith, nat_tests))
    (cases_from_all _ _ _ WrittenDigit (λ b. WrittenDigit b → ⊥) c.all.ensures.ran (YieldsList-from_slice c.args.t.now cc) (λ x q k. search (rules, tests)) (λ x q k. search (rules, tests)))

pub returns-else-not-is_empty : goal.returns-else-not-is_empty
returns-else-not-is_empty c = let n = c.if-not-is_empty.false in rw n (not_all (λ m f. absurd (grind (arith, nat_tests))))
