-- What damage can do to a text of lines, said of its answers: what is left of the records after a change of one byte, and reading again
-- after a line feed. What a change is stands in `document.Damage`; the theorems are in `Theorems`.
--
-- In order: `Robust`; a record that a line may carry; `Recovers`. Assumes nothing.
use Rattle.std.specs.Prelude.{◌≡◌, List, [], ◌∷◌, ◌++◌, map, ℕ, ◌+◌, ◌≤◌, length}
use Rattle.refusal.specs.document.Table.{Clear, Outcome, gives}
use Rattle.texts.specs.document.Text.{Format, text_of, TextAnswers}
use Rattle.texts.specs.Judging.{judged}
use Rattle.texts.specs.document.Damage.{Among, records, refusals}

-- At least one line is refused; the records that are read are among those sent, in their order; at most two are missing.
pub record Robust {A : Type 0} (cs : List A) (os : List (Outcome A)) : Type 0 where
  pub refuses : 1 ≤ refusals os
  pub ordered : Among (records os) cs
  pub loses : length cs ≤ length (records os) + 2

module _ {A F : Type 0} (format : Format A F) where
  -- a record that a line may carry: what is written of it has the form, and no row refuses its parts
  pub record Accept (c : A) : Type 0 where
    pub formed : format.Formed (format.body c) (format.parts c)
    pub clear : Clear (judged format.rows (format.parts c))

  -- records that lines may carry
  abbrev pub Accepted : List A → Type 0
  Accepted [] = Unit {0}
  Accepted (c ∷ cs) = Accept c × Accepted cs

  -- The clean text of cs has a line feed with y behind it, and so has the damaged one, with z before it. Then y is the lines of some
  -- last records of cs, and the answers os to the damaged text end with exactly these; the answers before are those to z.
  pub record Recovers (cs : List A) (y z : List ℕ) (os : List (Outcome A)) : Type 0 where
    pub earlier : List A
    pub behind : List A
    pub parts : cs ≡ earlier ++ behind
    pub lines-behind : y ≡ text_of format.body behind
    pub before : List (Outcome A)
    pub answered : TextAnswers format (z ++ (10 ∷ [])) before
    pub ends : os ≡ before ++ map gives behind
