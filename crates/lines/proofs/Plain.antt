-- Plain lines are a sound format. Here stands what rests on `tied`; the rest is in `specs.Plain`. Assumes nothing.
use Rattle.std.specs.Prelude.{◌≡◌, ℕ, ◌+◌, length}
use Rattle.std.proofs.Math.Path.{refl}
use mathlib.Core.List.{List, [], ◌∷◌}
use Rattle.digit_code.specs.document.Code.{sum}
use Rattle.refusal.specs.document.Table.{Clear}
use Rattle.texts.specs.document.Numerals.{figures, decimal}
use Rattle.texts.specs.Judging.{judged}
use Rattle.texts.specs.Sound.{Sound}
use Rattle.texts.specs.Numerals.{decimal-counts, count_some, marks-figures, marks-count}
use Rattle.texts.specs.document.Parts.{spaced}
use Rattle.texts.proofs.Parted.{parted_sound}
use Rattle.lines.specs.document.Line.{body, DigitRow, plain_lines}
use Rattle.lines.specs.Plain.{plain_reads, few, tied}

module _ (most : ℕ) (rows : List DigitRow) where
  module _ (lawful : (c : List ℕ) → Clear (judged rows c) → sum c + 1 ≡ length c) where
    pub plain_sound : Sound (plain_lines most rows)
    unfolding body spaced
    plain_sound =
        parted_sound (plain_reads most rows)
        (record {
          front = λ c. decimal (length c);
          more = λ c. figures c ∷ [];
          is = λ c. refl;
          sized = λ c d. refl;
          some = λ c a. count_some (decimal-counts (length c) (few most rows lawful c a));
          marked = λ c a. (marks-count (decimal-counts (length c) (few most rows lawful c a)), (marks-figures c, tt));
          tied = tied most rows lawful;
        })
