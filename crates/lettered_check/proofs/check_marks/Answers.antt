-- `lettered_check::check_marks` meets its contract: a right code is told in one pass, and what is none is looked at row by row. Assumes nothing.
use mathlib.Core.Path.{sym, subst}
use Rattle.digit_code.specs.Ends.{Ends}
use Rattle.lettered_check.specs.Rows.{right_named, named_right, kept_right, bonded_right, ends_there, clear_on}
use Rattle.lettered_check.proofs.check_marks.Goals as goal

pub returns-in_default : goal.returns-in_default
returns-in_default c = ends_there _ (λ k. c.in_default.ensures (bonded_right c.requires.ds_value (named_right c.requires.ds_value c.requires.in_bounds c.requires.ds_len_bound k))) c.refused.ensures

pub judged-requires : goal.judged-requires
judged-requires c =
    let r = c.in-Some.ensures.0 in
    record { ds_value = c.requires.ds_value; ends = subst (Ends 1) (sym c.requires.ds_value) r.ends; ordered = r.ordered; branches = c.in-Some.ensures.1 }

pub returns : goal.returns
returns c = clear_on (right_named c.requires.ds_value (kept_right c.requires.ds_value c.requires.clear c.in-Some.ensures.0)) c.judged.ensures
