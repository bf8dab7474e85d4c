-- `listing_text::first_plain` meets its contract: `size` bytes are room enough. Assumes nothing.
use native.Mathlib.Omega.{arith}
use Rattle.limits.specs.document.Limits.{size}
use mathlib.Core.Path.{refl}
use mathlib.Core.List.{[], ◌∷◌}
use Rattle.texts.specs.Taking.{line_read}
use Rattle.lines.specs.document.Line.{plain_lines}
use Rattle.lines.specs.document.Judged.{digit_table}
use Rattle.lines.specs.document.Reading.{digits_lent}
use Rattle.lines.specs.Plain.{plain_once, plain_few}
use Rattle.listing_text.proofs.first_plain.Goals as goal

pub returns : goal.returns
returns c = let R = c.args.limit in
    let r = line_read (plain_lines size (digit_table R)) (digits_lent size) plain_once (plain_few size (digit_table R)) (_ ∷ []) (omega arith, tt) (refl, tt) c.read_line.ensures in
    record { answer = r.answer; line = r.line; tells = r.told }
