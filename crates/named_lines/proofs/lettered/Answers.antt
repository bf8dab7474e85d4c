-- `named_lines::lettered` meets its contract: there is a byte, and each is a letter. Assumes nothing.
use mathlib.Core.Bool.{Bool, true, false}
use Prim.Native.Nat.{ℕ, ◌≤◌, ◌<◌}
use mathlib.Core.List.{List}
use native.Mathlib.Omega.{arith}
use lib.ListN.{length}
use Rattle.std.specs.Bool.{MatchBool}
use Rattle.std.specs.List.{HoldsAt, AllWithin}
use Rattle.std.proofs.Common.{rules, tests}
use Rattle.std.proofs.lemmas.Bool.Decides.{nat_tests}
use Rattle.std.proofs.lemmas.Iterator.{cases_from_all, YieldsList-from_slice}
use Rattle.laws.specs.document.Each.{Each}
use Rattle.laws.specs.Each.{each_at, each_of}
use Rattle.laws.specs.Tells.{Tells, holds, denies, was_held, was_denied}
use Rattle.skeleton.specs.document.Atom.{Letter}
use Rattle.named_lines.proofs.lettered.Goals as goal

-- each byte of t is a letter, or one is none
lettered_by : (t : List ℕ) {r : Bool} → 1 ≤ length t → MatchBool r (AllWithin Letter t 0 (length t)) ((k : ℕ) × (k < length t) × HoldsAt (λ b. Letter b → ⊥) t k) → Tells ((1 ≤ length t) × Each Letter t) r
lettered_by t {r = true} l h = holds (l, each_of Letter t (λ i m. h i 0 (omega arith) m))
lettered_by t {r = false} l h = denies (λ f. h.2 0 (each_at Letter t h.0 f.1 h.1))

pub returns-then-not-is_empty : goal.returns-then-not-is_empty
returns-then-not-is_empty c =
    lettered_by _ (let n = c.if-not-is_empty.true in grind (arith, nat_tests))
    (cases_from_all _ _ _ Letter (λ b. Letter b → ⊥) c.all.ensures.ran (YieldsList-from_slice c.args.t.now cc) (λ x q k. search (rules, tests, was_held)) (λ x q k. search (rules, tests, was_denied)))

pub returns-else-not-is_empty : goal.returns-else-not-is_empty
returns-else-not-is_empty c = let n = c.if-not-is_empty.false in rw n (denies (λ f. absurd (grind (arith, nat_tests))))
