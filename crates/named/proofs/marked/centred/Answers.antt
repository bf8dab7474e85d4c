-- `named::marked::centred` meets its contract. Assumes nothing.
use mathlib.Core.Path.{refl}
use Rattle.named.proofs.Naming.{few_letters, named-all, ready, coded-middles, centred-written}
use Rattle.named.proofs.marked.centred.Goals as goal

pub name-requires : goal.name-requires
name-requires c = (few_letters c.args.n c.args.edges.now 1 c.args.letters.now c.requires.clear, refl)

pub numbered_marks-requires : goal.numbered_marks-requires
numbered_marks-requires c = record { skeleton = ready c.args.n c.args.edges.now 1 c.args.letters.now c.requires.clear c.name.ensures; order_len = (refl, c.requires.n_in_bounds) }

pub returns : goal.returns
returns c = let (w, x) = c.numbered_marks.ensures.by_index _ (named-all c.args.n c.args.edges.now 1 c.args.letters.now c.requires.clear c.name.ensures) in
    coded-middles c.args.n c.args.edges.now 1 c.args.letters.now c.requires.clear (centred-written _ _ _ _ w, x)
