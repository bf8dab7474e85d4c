-- `named::marked::rooted` meets its contract. Assumes nothing.
use mathlib.Core.Path.{refl}
use Rattle.named.specs.Accepted.{root_of}
use Rattle.named.proofs.Naming.{few_letters, named-all, ready, coded-root}
use Rattle.named.proofs.marked.rooted.Goals as goal

pub name-requires : goal.name-requires
name-requires c = (few_letters c.args.n c.args.edges.now c.args.root c.args.letters.now c.requires.clear, refl)

pub rooted_marks-requires : goal.rooted_marks-requires
rooted_marks-requires c = record { skeleton = ready c.args.n c.args.edges.now c.args.root c.args.letters.now c.requires.clear c.name.ensures; le_root = ((root_of c.args.n c.args.edges.now c.args.root c.args.letters.now c.requires.clear).0, (root_of c.args.n c.args.edges.now c.args.root c.args.letters.now c.requires.clear).1, c.requires.n_in_bounds) }

pub returns : goal.returns
returns c = coded-root c.args.n c.args.edges.now c.args.root c.args.letters.now c.requires.clear
    (c.rooted_marks.ensures _ (named-all c.args.n c.args.edges.now c.args.root c.args.letters.now c.requires.clear c.name.ensures))
