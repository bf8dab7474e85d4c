-- What one check among several may answer, and the check of two lists: no promise of a public call cites it. Assumes nothing.
use Rattle.std.specs.Prelude.{List, ℕ, Result, Ok, Err}
use Rattle.refusal.specs.declared.Refusal.{Refusal}
use Rattle.refusal.specs.declared.ListRefusal.{ListRefusal}
use Rattle.refusal.specs.document.Table.{RowOf, Clear, FirstRefusal, Row}

-- what one check among several answers
abbrev pub Check : Type 0
Check = Result (Unit {0}) Refusal

-- what one check among several may answer
pub data Answers (rs : List Row) : Check → Type 0 where
  passes : Clear rs → Answers rs (Ok tt)
  fails : {r : Refusal} → FirstRefusal rs r.row r.place → Answers rs (Err r)

-- what the check of two lists may answer
pub data Judges (rs : List (RowOf (ℕ × ℕ))) : Result (Unit {0}) ListRefusal → Type 0 where
  both_pass : Clear rs → Judges rs (Ok tt)
  one_fails : {r : ListRefusal} → FirstRefusal rs (r.list, r.refusal.row) r.refusal.place → Judges rs (Err r)
