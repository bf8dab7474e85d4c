-- Document 01, "Lines": "N digits of a centred code": which rows judge a line's digits. Assumes nothing.
use Rattle.std.specs.Prelude.{List, [], ◌∷◌, map, ℕ}
use Rattle.digit_code.specs.document.Code.{plain, row10, row11, row12, row13}
use Rattle.form.specs.document.Form.{IsCentred, row14_form}
use Rattle.lines.specs.document.Line.{DigitRow, digit_row}

-- rows 10 to 13, and 14 where they are not a centred code, as rows about digits; R: neighbours of a vertex, at most
abbrev pub digit_table : ℕ → List DigitRow
digit_table R = map digit_row (row10 R ∷ row11 ∷ row12 ∷ row13 plain ∷ row14_form IsCentred ∷ [])
