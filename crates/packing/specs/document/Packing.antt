-- Document 02, wish 1: "Each returns refusal number and place packed in one whole number, 256 times the number plus the place. On success
-- the number is 0 and the place is the bytes written, or for the verdict 1 (same) or 0; a refusal of the second list adds 65,536." One of the map of two
-- lists (wish 4) adds 131,072, and 22 (wish 8), which belongs to none of them, nothing.
--
-- In order: the whole number of an answer; the promise of a C function, which is that of the call behind it, for a call that writes or only
-- checks, for the verdict, for a call on maps, and for a call that is asked for a value; how the whole number is taken apart. That this reads the answer back,
-- and that the whole number is one, is in `Unpacked` and `One`.
-- Assumes nothing.
use Rattle.std.specs.Prelude.{◌≡◌, Bool, true, false, ℕ, ◌+◌, ◌-◌, ◌*◌, ◌/◌, ◌%◌, eqb}
use Rattle.std.proofs.Math.Logic.{ite}
use Rattle.std.proofs.Math.Decide.{dec_lt, ℕ_discrete}
use Rattle.refusal.specs.document.Table.{OutcomeOf, Outcome, gives, refuses}
use Rattle.refusal.specs.document.Small.{byte_values}
use Rattle.zurkhovel.specs.document.Same.{Finding}
use Rattle.zurkhovel.specs.document.Maps.{MapOutcome}

-- an answer in one whole number, where `value` is that of a success and `number` that of what a refusal is called
abbrev pub packed : {K A : Type 0} → (K → ℕ) → (A → ℕ) → OutcomeOf K A → ℕ
packed number value (gives a) = value a
packed number value (refuses k p) = byte_values * number k + p

-- r is an answer that the promise P allows, in one whole number
abbrev pub Packed : {K A : Type 0} → (K → ℕ) → (A → ℕ) → (OutcomeOf K A → Type 0) → ℕ → Type 0
Packed {K} {A} number value P r = (o : OutcomeOf K A) × P o × (r ≡ packed number value o)

-- of a call that writes or only checks: "the place is the bytes written"
abbrev pub PackedAnswer : (Outcome ℕ → Type 0) → ℕ → Type 0
PackedAnswer P r = Packed (λ k. k) (λ n. n) P r

-- "1 (same) or 0"
abbrev pub truth : Bool → ℕ
truth true = 1
truth false = 0

-- "a refusal of the second list adds 65,536", and so twice as much one of the map, which is called 3; 22, which is called 0, adds nothing
abbrev pub with_list : ℕ × ℕ → ℕ
with_list (i, k) = byte_values * (i - 1) + k

-- of the verdict
abbrev pub PackedFinding : (Finding → Type 0) → ℕ → Type 0
PackedFinding P r = Packed with_list truth P r

-- of a call on maps: "the place is the bytes written"
abbrev pub PackedMapping : (MapOutcome → Type 0) → ℕ → Type 0
PackedMapping P r = Packed with_list (λ n. n) P r

-- what a lent place holds after a call that is asked for a value: the value, or where it is refused what it held before
abbrev pub held : {A : Type 0} → A → Outcome A → A
held old (gives a) = a
held old (refuses k p) = old

-- of a call that is asked for a value, which is handed over through a lent place: it held old, and then new
abbrev pub PackedValue : {A : Type 0} → (Outcome A → Type 0) → A → A → ℕ → Type 0
PackedValue {A} P old new r = (o : Outcome A) × P o × (r ≡ packed (λ k. k) (λ a. 0) o) × (new ≡ held old o)

-- taken apart: the refusal number, 0 where there is none
abbrev pub number_in : ℕ → ℕ
number_in r = r / byte_values % byte_values

-- the place, or where there is no refusal what is given
abbrev pub place_in : ℕ → ℕ
place_in r = r % byte_values

-- the list that is refused, or 3 for the map; 22 is told by its number
abbrev pub list_in : ℕ → ℕ
list_in r = ite (ℕ_discrete (number_in r) 22) 0 (r / (byte_values * byte_values) + 1)

-- the answer that a whole number tells, of a call that writes or only checks
abbrev pub unpacked : ℕ → Outcome ℕ
unpacked r = ite (dec_lt r byte_values) (gives r) (refuses (number_in r) (place_in r))

-- of the verdict
abbrev pub unpacked_finding : ℕ → Finding
unpacked_finding r = ite (dec_lt r byte_values) (gives (eqb r 1)) (refuses (list_in r, number_in r) (place_in r))

-- of a call on maps
abbrev pub unpacked_mapping : ℕ → MapOutcome
unpacked_mapping r = ite (dec_lt r byte_values) (gives r) (refuses (list_in r, number_in r) (place_in r))

-- of a call that is asked for a value, where the lent place then holds new
abbrev pub unpacked_value : {A : Type 0} → ℕ → A → Outcome A
unpacked_value r new = ite (dec_lt r byte_values) (gives new) (refuses (number_in r) (place_in r))
