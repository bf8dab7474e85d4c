-- `zurkhovel::codes::lay_edges` keeps its promise. Assumes nothing.
use Rattle.refusal.proofs.Laws.{room_of, short_of}
use mathlib.Core.Path.{refl}
use Rattle.zurkhovel.proofs.Decoded.{whole_some, edges-short, edges_room, edges-given}
use Rattle.zurkhovel.proofs.codes.lay_edges.Goals as goal

pub overflow_sub-need : goal.overflow_sub-need
overflow_sub-need c = whole_some c.args.code.now c.requires

pub returns-in_err-fits : goal.returns-in_err-fits
returns-in_err-fits c =
    let (e, l) = short_of c.from_residual.result c.from_residual.ensures.1 c.in_err-fits.ensures in
    rw e (edges-short c.args.code.now c.requires l refl)

pub write_edges-requires : goal.write_edges-requires
write_edges-requires c = record { ends = c.requires.0; code_len_bound = c.requires.1; code_in_bounds = edges_room c.args.code.now c.requires (room_of c.in_ok-fits.ensures) }

pub returns : goal.returns
returns c = edges-given c.args.code.now c.requires (room_of c.in_ok-fits.ensures) c.write_edges.ensures
