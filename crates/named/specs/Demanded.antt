-- Demand 3 of named lines, as the public calls write and read them: the statements of `Demand` of the crate `texts`, proved there for any kind of line. Here is what they ask of this one: what `read_text` leaves can
-- be read by a caller, what `write_line` gives is the line of an accepted code with its letters, and the format is sound. Assumes nothing.
use Rattle.std.specs.Prelude.{◌≡◌, List, [], ◌∷◌, ◌++◌, ℕ}
use Rattle.std.proofs.Common.{sym, ap, ap₂, ◌∙◌, subst}
use Rattle.refusal.specs.Giving.{gave}
use Rattle.limits.specs.document.Limits.{size}
use Rattle.texts.specs.document.Demand.{CleanLines, OneCall, TurnsAgree, CleanText, OneByteChanged, AnyDamage, AnswersEachLine, ReachesTheEnd, GetsOn, TurnsEnd}
use Rattle.texts.specs.Damage.{Accept}
use Rattle.texts.specs.Seen.{Legible}
use Rattle.texts.specs.Demanded.{Writes}
use Rattle.texts.specs.Demanded as AnyLine
use Rattle.named_lines.specs.document.Named.{Named, named_table, lines_of_named}
use Rattle.named_lines.specs.NamedDemanded.{named_legible}
use Rattle.named_lines.specs.NamedTable.{table_sound}
use Rattle.named.specs.document.Demand.{NamedGivesALine, NamedLineGiven, named_texts}
use Rattle.named.specs.Two.{only_code}
use Rattle.named.specs.Centred.{record_of, centred_accept}

legible : Legible named_texts
legible = named_legible NamedLineGiven

writes : Writes named_texts
writes b w g =
    let (k, (d, y, q), m) = gave g.writes in
    let e : record_of g.code ≡ w = ap₂ {C = Named} (λ (ds ls : List ℕ). record { digits = ds; letters = ls }) (sym g.spelled.0) (sym g.spelled.1) in
    let f : record_of d ≡ w = ap record_of (only_code g.N g.E g.s k d g.code y g.centre) ∙ e in
    (subst (Accept (lines_of_named size named_table)) e (centred_accept g.N g.E g.s k g.code g.centre), g.bytes ∙ q ∙ ap (λ (r : Named). (lines_of_named size named_table).body r ++ (10 ∷ [])) f)

pub named_gives_a_line : NamedGivesALine
named_gives_a_line N E s old new n w = let (k, x, m) = gave w in (k, x)

pub named_clean_lines : CleanLines named_texts
named_clean_lines = AnyLine.clean_lines named_texts writes

-- ---- what a caller sees

pub named-one_call : OneCall named_texts
named-one_call = AnyLine.one_call named_texts

pub named-turns_agree : TurnsAgree named_texts
named-turns_agree = AnyLine.turns_agree named_texts legible

-- ---- the clean text, and the two sentences

pub named_clean_text : CleanText named_texts
named_clean_text = AnyLine.clean_text named_texts legible writes table_sound

pub named-one-byte_changed : OneByteChanged named_texts
named-one-byte_changed = AnyLine.one-byte_changed named_texts legible writes table_sound

pub named_any_damage : AnyDamage named_texts
named_any_damage = AnyLine.any_damage named_texts legible writes table_sound

-- ---- reaching the end

pub named-answers-each-line : AnswersEachLine named_texts
named-answers-each-line = AnyLine.answers-each-line named_texts legible

pub named_reaches_the_end : ReachesTheEnd named_texts
named_reaches_the_end = AnyLine.reaches_the_end named_texts

pub named_gets_on : GetsOn named_texts
named_gets_on = AnyLine.gets_on named_texts

pub named-turns-end : TurnsEnd named_texts
named-turns-end = AnyLine.turns-end named_texts
