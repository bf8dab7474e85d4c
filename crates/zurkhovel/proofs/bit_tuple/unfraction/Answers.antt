-- `zurkhovel::bit_tuple::unfraction` keeps its promise. Assumes nothing.
use Rattle.zurkhovel.proofs.Carried.{form_readable, form-edges}
use Rattle.zurkhovel.proofs.bit_tuple.unfraction.Goals as goal

pub edges_of-requires : goal.edges_of-requires
edges_of-requires c = form_readable c.fraction-read.ensures

pub returns : goal.returns
returns c = form-edges _ c.fraction-read.ensures c.edges_of.ensures
