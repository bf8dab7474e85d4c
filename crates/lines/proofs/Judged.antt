-- That the rows which judge a line's digits (`document.Judged`) are lawful, so that plain lines of centred codes are a sound format. Here stands what rests on `tied`;
-- the rest is in `specs.Judged`. Assumes nothing.
use Rattle.std.specs.Prelude.{ℕ, ◌≤◌}
use Rattle.limits.specs.document.Limits.{size}
use Rattle.texts.specs.Sound.{Sound}
use Rattle.lines.specs.document.Line.{plain_lines}
use Rattle.lines.proofs.Plain.{plain_sound}
use Rattle.lines.specs.document.Judged.{digit_table}
use Rattle.lines.specs.Judged.{lawful_table}

pub table_sound : (R : ℕ) → R ≤ 9 → Sound (plain_lines size (digit_table R))
table_sound R h = plain_sound size (digit_table R) (λ c k. (lawful_table R h c k).total)
