-- `rooted_coder::turned` meets its contract. Assumes nothing.
use Rattle.rooted_coder.proofs.Copying.{exchanged}
use Rattle.rooted_coder.proofs.turned.Goals as goal

pub returns : goal.returns
returns c = exchanged _ _ _ _ _ c.args.a c.args.m c.args.b c.requires.0 c.requires.1 c.transfer.ensures c.transfer-2.ensures c.transfer-3.ensures
