-- `edge_list::Table::add` meets its contract: what it stores is what `Added` says. Assumes nothing.
use mathlib.Core.Path.{refl}
use Rattle.edge_list.proofs.Table.add.Goals as goal

pub returns : goal.returns
returns c = record {
  rows = rw c.wide-j.ensures.0;
  degs = refl;
}
