-- `listing_text::first_named` meets its contract: `size` bytes are room enough in both areas. Assumes nothing.
use mathlib.Core.Path.{refl}
use mathlib.Core.List.{[], ◌∷◌}
use native.Mathlib.Omega.{arith}
use Rattle.limits.specs.document.Limits.{size}
use Rattle.texts.specs.Taking.{line_read}
use Rattle.named_lines.specs.document.Named.{lines_of_named, named_lent, named_table}
use Rattle.named_lines.specs.NamedSound.{named_once, named-room}
use Rattle.listing_text.proofs.first_named.Goals as goal

pub returns : goal.returns
returns c = let r =
    line_read (lines_of_named size named_table) (named_lent size) named_once (named-room size named_table).0 (_ ∷ _ ∷ []) (omega arith, (omega arith, tt)) (refl, (refl, tt)) c.read_line.ensures in
    record { answer = r.answer; line = r.line; tells = r.told }
