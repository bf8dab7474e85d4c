-- Demand 3 of plain lines in the edition e: the statements of `Demand` of the crate `texts`, proved there for any kind of line. Here is what they ask of this
-- one: what `read_text` leaves can be read by a caller, what `write_line` gives is the line of an accepted record, and the format is sound. Assumes nothing.
use Rattle.std.specs.Prelude.{refl, [], ◌∷◌, ℕ, length}
use Rattle.std.proofs.Math.Path.{ap}
use Rattle.std.proofs.Common.{◌∙◌, arith, rules}
use Rattle.laws.specs.Laying.{laid-front}
use Rattle.refusal.specs.Giving.{gave}
use Rattle.refusal.proofs.Giving.{must_give}
use Rattle.limits.specs.document.Limits.{size}
use Rattle.edition.specs.document.Edition.{IsEdition, neighbours_in}
use Rattle.edition.specs.Laws.{clear_edition}
use Rattle.form.specs.document.Form.{IsCentred}
use Rattle.form.specs.Forms.{centred-form, form-size}
use Rattle.texts.specs.document.Demand.{CleanLines, OneCall, TurnsAgree, CleanText, OneByteChanged, AnyDamage, AnswersEachLine, ReachesTheEnd, GetsOn, TurnsEnd}
use Rattle.texts.specs.Seen.{Told, Legible}
use Rattle.texts.specs.Demanded.{Writes}
use Rattle.texts.specs.Demanded as AnyLine
use Rattle.lines.specs.document.Line.{line, Front}
use Rattle.lines.specs.document.Judged.{digit_table}
use Rattle.lines.specs.Plain.{line-short, plain_once, plain_few}
use Rattle.lines.proofs.OfEdition.{edition_sound}
use Rattle.zurkhovel.specs.Accepted.{skeleton_of, centred_accepted}
use Rattle.zurkhovel.specs.document.Demand.{GivesALine, GivesEachLine, plain_kind}

module _ (e : ℕ) where
  -- ---- what is asked

  told : (q : Front) → Told (plain_kind e) q.digits
  told q (old ∷ []) (new ∷ more ∷ news) x = absurd x.1
  told q (old ∷ more ∷ olds) (new ∷ news) x = absurd x.1
  told q (old ∷ []) (new ∷ []) x = laid-front q.digits old new (length q.digits) x.0 refl
  told q [] news x = elim x [ ]
  told q (old ∷ []) [] x = elim x [ ]
  told q (old ∷ (more ∷ olds)) [] x = elim x [ ]

  pub legible : Legible (plain_kind e)
  legible =
      record { once = plain_once; fits = (plain_few size (digit_table (neighbours_in e)), tt); numbered = λ t. search rules; told = λ q k. told q }

  writes : Writes (plain_kind e)
  unfolding line
  writes b c g =
      let (k, (d, y, q), _) = gave g.writes in
      let s = skeleton_of k in
      (centred_accepted (clear_edition k) s g.code, g.bytes ∙ q ∙ ap line (centred-form.one s.tree y g.code))

  -- ---- the clean text

  pub gives_a_line : GivesALine e
  gives_a_line N E old new n w = let (k, x, _) = gave w in (k, x)

  pub gives_each_line : GivesEachLine e
  gives_each_line N E old new o k h g =
      let s = skeleton_of k in
      let (c, x) = centred-form.some N E s.tree in
      let m = form-size IsCentred centred-form N E c s.tree x in
      let l = line-short c (omega (arith, s.few)) in
      (c, x, must_give k (line c) (c, x, refl) (λ t (d, y, q). q ∙ ap line (centred-form.one s.tree y x)) (omega (arith, s.few)) g)

  pub clean_lines : CleanLines (plain_kind e)
  clean_lines = AnyLine.clean_lines (plain_kind e) writes

  -- ---- what a caller sees

  pub one_call : OneCall (plain_kind e)
  one_call = AnyLine.one_call (plain_kind e)

  pub turns_agree : TurnsAgree (plain_kind e)
  turns_agree = AnyLine.turns_agree (plain_kind e) legible

  -- ---- what the clean text is answered, and the two sentences, in an edition that there is

  pub clean_text : IsEdition e → CleanText (plain_kind e)
  clean_text i = AnyLine.clean_text (plain_kind e) legible writes (edition_sound e i)

  pub one-byte_changed : IsEdition e → OneByteChanged (plain_kind e)
  one-byte_changed i = AnyLine.one-byte_changed (plain_kind e) legible writes (edition_sound e i)

  pub any_damage : IsEdition e → AnyDamage (plain_kind e)
  any_damage i = AnyLine.any_damage (plain_kind e) legible writes (edition_sound e i)

  -- ---- reaching the end

  pub answers-each-line : AnswersEachLine (plain_kind e)
  answers-each-line = AnyLine.answers-each-line (plain_kind e) legible

  pub reaches_the_end : ReachesTheEnd (plain_kind e)
  reaches_the_end = AnyLine.reaches_the_end (plain_kind e)

  pub gets_on : GetsOn (plain_kind e)
  gets_on = AnyLine.gets_on (plain_kind e)

  pub turns-end : TurnsEnd (plain_kind e)
  turns-end = AnyLine.turns-end (plain_kind e)
