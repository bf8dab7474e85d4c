-- `edge_list::joins` meets its contract: a check that refuses answers for the whole table, and behind one that passes the rest does. Assumes nothing.
use Rattle.refusal.proofs.Laws.{clear_of, behind, exits}
use mathlib.Core.Path.{refl}
use mathlib.Core.List.{[], ◌∷◌}
use Rattle.refusal.specs.Laws.{clear_left}
use Rattle.edge_list.specs.document.Edges.{row7, row8}
use Rattle.edge_list.specs.Limited.{limited-all}
use Rattle.edge_list.proofs.joins.Goals as goal

pub returns-in_err-vertices : goal.returns-in_err-vertices
returns-in_err-vertices c = exits _ c.from_residual.ensures.1 c.in_err-vertices.ensures

pub returns-in_err-rings : goal.returns-in_err-rings
returns-in_err-rings c = behind c.in_ok-vertices.ensures (exits _ c.from_residual-in_err-rings.ensures.1 c.in_err-rings.ensures)

pub degrees-requires : goal.degrees-requires
degrees-requires c = let s = c.args in record { room_len = refl; clear = clear_left (row7 s.edges.now ∷ []) (row8 s.edges.now ∷ []) (clear_of c.in_ok-rings.ensures) }

pub returns : goal.returns
returns c = behind c.in_ok-vertices.ensures
    (behind c.in_ok-rings.ensures (c.degrees.ensures _ (limited-all _)))
