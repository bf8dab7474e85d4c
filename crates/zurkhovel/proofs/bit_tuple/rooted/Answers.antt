-- `zurkhovel::bit_tuple::rooted` meets its contract. Assumes nothing.
use Rattle.refusal.proofs.Laws.{clear_of, refusal_of, is_refusal}
use native.Mathlib.Omega.{arith}
use borrow.Author.Rules.{rules}
use Rattle.refusal.specs.document.Table.{Clear}
use Rattle.zurkhovel.specs.document.InEdition.{edge_table}
use Rattle.zurkhovel.specs.Accepted.{skeleton_of, root_of, wider}
use Rattle.edge_list.specs.Tables.{in_rows}
use Rattle.edition.specs.Laws.{at_most_nine}
use Rattle.zurkhovel.specs.Rooting.{coded, refused}
use Rattle.zurkhovel.proofs.Rooted.{coded-at}
use Rattle.zurkhovel.proofs.bit_tuple.rooted.Goals as goal

pub returns-in_err-edges : goal.returns-in_err-edges
returns-in_err-edges c = rw (is_refusal c.from_residual.result c.from_residual.ensures.1) (refused (refusal_of c.in_err-edges.ensures))

pub rooted-requires : goal.rooted-requires
rooted-requires c = let clear : let s = c.args in Clear (edge_table s.edition s.most s.n s.edges.now s.root) = clear_of c.in_ok-edges.ensures in
    let t = wider c.requires.0 (skeleton_of (clear)) in
    let i = root_of c.args.edges.now (clear) in record { skeleton = in_rows (at_most_nine _) t; le_root = (i.0, i.1, omega (arith, t.few, c.requires.1)) }

pub returns : goal.returns
returns c = let clear : let s = c.args in Clear (edge_table s.edition s.most s.n s.edges.now s.root) = clear_of c.in_ok-edges.ensures in
    coded (coded-at c.args.edges.now (clear) c.rooted.ensures.writes (search rules) c.rooted.ensures.value)
