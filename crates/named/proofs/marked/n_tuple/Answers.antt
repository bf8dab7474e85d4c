-- `named::marked::n_tuple` meets its contract. Assumes nothing.
use mathlib.Core.Path.{refl}
use Rattle.named.proofs.Naming.{few_letters, named-all, ready, coded-widest}
use Rattle.named.proofs.marked.n_tuple.Goals as goal

pub name-requires : goal.name-requires
name-requires c = (few_letters c.args.n c.args.edges.now 1 c.args.letters.now c.requires.clear, refl)

pub n_tuple_marks-requires : goal.n_tuple_marks-requires
n_tuple_marks-requires c = record { skeleton = ready c.args.n c.args.edges.now 1 c.args.letters.now c.requires.clear c.name.ensures; n_in_bounds = c.requires.n_in_bounds }

pub returns : goal.returns
returns c = coded-widest c.args.n c.args.edges.now 1 c.args.letters.now c.requires.clear
    (c.n_tuple_marks.ensures _ (named-all c.args.n c.args.edges.now 1 c.args.letters.now c.requires.clear c.name.ensures))
