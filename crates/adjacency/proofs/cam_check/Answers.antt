-- `adjacency::cam_check` meets its contract: a check that refuses answers for the whole table, and behind one that passes the rest does. Assumes nothing.
use Rattle.refusal.proofs.Laws.{clear_of, behind, exits}
use Rattle.refusal.specs.Laws.{clear_both}
use Rattle.adjacency.proofs.cam_check.Goals as goal

pub returns-in_err-cam_sizes : goal.returns-in_err-cam_sizes
returns-in_err-cam_sizes c = exits _ c.from_residual.ensures.1 c.in_err-cam_sizes.ensures

pub returns-in_err-cam_entries : goal.returns-in_err-cam_entries
returns-in_err-cam_entries c = behind c.in_ok-cam_sizes.ensures (exits _ c.from_residual-in_err-cam_entries.ensures.1 c.in_err-cam_entries.ensures)

pub made-requires : goal.made-requires
made-requires c = record { limit_le_width = c.requires; clear = clear_both (clear_of c.in_ok-cam_sizes.ensures) (clear_of c.in_ok-cam_entries.ensures) }

pub returns : goal.returns
returns c = behind c.in_ok-cam_sizes.ensures (behind c.in_ok-cam_entries.ensures c.made.ensures)
