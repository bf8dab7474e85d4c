-- Document 02, wish 6: "Every routine that orders children carries the number upward", and "a refusal 0". What an answer reports, and the promise of a call that reports. Assumes nothing.
use Rattle.std.specs.Prelude.{◌≡◌, ℕ, Result, Ok, Err}
use Rattle.refusal.specs.document.Table.{OutcomeOf, gives, refuses}
use Rattle.refusal.specs.declared.Reported.{Reported}

-- what is answered, without the number that is reported with it
abbrev pub answer : {A E : Type 0} → Result (Reported A) E → Result A E
answer (Ok c) = Ok c.value
answer (Err e) = Err e

-- what is reported: "a refusal 0"
abbrev pub pairs : {A E : Type 0} → Result (Reported A) E → ℕ
pairs (Ok c) = c.pairs
pairs (Err e) = 0

-- n is reported with the answer o: what Count has it to be, and with a refusal 0
abbrev pub Reports : {K A : Type 0} → (ℕ → Type 0) → OutcomeOf K A → ℕ → Type 0
Reports Count (gives a) n = Count n
Reports Count (refuses k p) n = n ≡ 0

-- the promise of a call that orders children: P of its answer o, and n reported with it
pub record Reporting {K A : Type 0} (P : OutcomeOf K A → Type 0) (Count : ℕ → Type 0) (o : OutcomeOf K A) (n : ℕ) : Type 0 where
  pub promised : P o
  pub reported : Reports Count o n
