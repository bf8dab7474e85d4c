-- `form_coder::check_n_tuple` meets its contract. Assumes nothing.
use Rattle.refusal.proofs.Laws.{clear_of, behind, exits}
use Rattle.digit_code.specs.Right.{clear_right}
use Rattle.edge_list.specs.Tables.{in_rows}
use Rattle.form.specs.Accepted.{right_decoded}
use Rattle.form_coder.proofs.Again.{digits-small}
use Rattle.form_coder.proofs.check_n_tuple.Goals as goal

pub returns-in_err-check : goal.returns-in_err-check
returns-in_err-check c = exits _ c.from_residual.ensures.1 c.in_err-check.ensures

pub judged-requires : goal.judged-requires
judged-requires c = let k = clear_right _ _ _ (clear_of c.in_ok-check.ensures) in record { ends = (k.ends, in_rows c.requires.1 (right_decoded _ _ _ k)); by_index = digits-small k c.requires.1 }

pub returns : goal.returns
returns c = behind c.in_ok-check.ensures c.judged.ensures
