-- That the rows which judge a line's digits (`document.Judged`) are lawful, so that plain lines of centred codes are a sound format. What rests on `tied` is in
-- `proofs.Judged`. Assumes nothing.
use Rattle.std.specs.Prelude.{◌≡◌, refl, List, ◌∷◌, ℕ, ◌≤◌, length}
use Rattle.std.proofs.Common.{arith}
use Rattle.refusal.specs.document.Table.{Clear, row3}
use Rattle.limits.specs.document.Limits.{size}
use Rattle.form.specs.document.Form.{IsCentred, form_rows}
use Rattle.texts.specs.Judging.{judged}
use Rattle.texts.specs.Damage.{Accept}
use Rattle.lines.specs.document.Line.{plain_lines}
use Rattle.lines.specs.Lawful.{Code, lawful}
use Rattle.lines.specs.Plain.{plain_accept}
use Rattle.lines.specs.document.Judged.{digit_table}

-- they are what is refused of digits that are to be a centred code
pub same_table : (R : ℕ) (c : List ℕ) → row3 size (length c) ∷ judged (digit_table R) c ≡ form_rows IsCentred size R c
same_table R c = refl

pub lawful_table : (R : ℕ) → R ≤ 9 → (c : List ℕ) → Clear (judged (digit_table R) c) → Code c
lawful_table R h c k = lawful R h c k

-- a centred code of at most `size` digits is one that a line may carry
pub table_accept : (R : ℕ) → R ≤ 9 → (c : List ℕ) → length c ≤ size → Clear (judged (digit_table R) c) → Accept (plain_lines size (digit_table R)) c
table_accept R h c l k = let d = lawful_table R h c k in plain_accept size (digit_table R) c d.some d.digits (omega (arith, l)) l k
