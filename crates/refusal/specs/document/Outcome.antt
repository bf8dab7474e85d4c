-- Document 01, "Places and their forms": "Where an answer is an enum, a definition gives this paper's number and values for each
-- of the enum's cases, and the promises use this definition."
-- Assumes nothing.
use Rattle.std.specs.Prelude.{ℕ, Result, Ok, Err}
use Rattle.refusal.specs.document.Table.{OutcomeOf, Outcome, gives, refuses}
use Rattle.refusal.specs.declared.Refusal.{Refusal}
use Rattle.refusal.specs.declared.ListRefusal.{ListRefusal}

-- `Ok a`: a is given; `Err r`: the number r.row at r.place
abbrev pub told : {A : Type 0} → Result A Refusal → Outcome A
told (Ok a) = gives a
told (Err r) = refuses r.row r.place

-- of a call with several lists, the list beside the number
abbrev pub told_of : {A : Type 0} → Result A ListRefusal → OutcomeOf (ℕ × ℕ) A
told_of (Ok a) = gives a
told_of (Err r) = refuses (r.list, r.refusal.row) r.refusal.place

-- a call that only checks writes nothing: 0 bytes
abbrev pub unwritten : {E : Type 0} → Result (Unit {0}) E → Result ℕ E
unwritten (Ok u) = Ok 0
unwritten (Err e) = Err e
