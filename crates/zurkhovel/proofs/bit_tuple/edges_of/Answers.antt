-- `zurkhovel::bit_tuple::edges_of` meets its contract. Assumes nothing.
use Rattle.std.specs.Prelude.{Ok, refl}
use Rattle.std.proofs.Common.{sym, length-take-le}
use Rattle.refusal.proofs.Laws.{is_refusal}
use Rattle.zurkhovel.specs.Rooting.{Readable}
use Rattle.zurkhovel.proofs.bit_tuple.edges_of.Goals as goal

pub returns-in_err-n : goal.returns-in_err-n
returns-in_err-n c = rw (c.in_err-n.was, is_refusal c.from_residual.result c.from_residual.ensures.1) (refl, refl)

pub slice_bounds-lay_edges-end : goal.slice_bounds-lay_edges-end
slice_bounds-lay_edges-end c = let code : Readable c.args.digits.now (Ok c.in_ok-n.n) = rw c.in_ok-n.was at c.requires in
    sym (length-take-le c.in_ok-n.n c.args.digits.now code.1)

pub lay_edges-requires : goal.lay_edges-requires
lay_edges-requires c = let code : Readable c.args.digits.now (Ok c.in_ok-n.n) = rw c.in_ok-n.was at c.requires in
    code.0

pub returns : goal.returns
returns c = rw c.in_ok-n.was c.lay_edges.ensures
