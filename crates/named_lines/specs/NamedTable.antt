-- The rows that judge the digits and letters of a named line fix the sum of the digits. Assumes nothing.
use Rattle.limits.specs.document.Limits.{size}
use Rattle.refusal.specs.Laws.{others}
use Rattle.texts.specs.Sound.{Sound}
use Rattle.lines.specs.Lawful.{summed}
use Rattle.named_lines.specs.document.Named.{named_table, lines_of_named}
use Rattle.named_lines.specs.NamedSound.{named_sound}

-- 11 and 12 among them do, so named lines are a sound format
pub table_sound : Sound (lines_of_named size named_table)
table_sound = named_sound size named_table (λ c k. summed c.digits (others (others k)))
