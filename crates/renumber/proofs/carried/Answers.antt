-- `renumber::carried` meets its contract. Assumes nothing.
use Rattle.edge_list.specs.Prefix.{one_in, other_in}
use Rattle.renumber.proofs.carried.Goals as goal

pub entry-u-requires : goal.entry-u-requires
entry-u-requires c = rw c.one.ensures.0 (c.requires.0.within _ (one_in c.args.edges1.now c.args.p c.requires.1))

pub entry-v-requires : goal.entry-v-requires
entry-v-requires c = rw c.other.ensures.0 (c.requires.0.within _ (other_in c.args.edges1.now c.args.p c.requires.1))

pub returns : goal.returns
returns c = rw (c.entry-u.ensures, c.entry-v.ensures, c.one.ensures.0, c.other.ensures.0) at c.joined.ensures
