-- `rooted_coder::transfer` meets its contract. Assumes nothing.
use Rattle.rooted_coder.proofs.Copying.{transferred}
use Rattle.rooted_coder.proofs.transfer.Goals as goal

pub returns : goal.returns
returns c = transferred _ _ _ c.args.a c.args.e c.args.at c.requires.0 c.requires.1 c.requires.2 c.copy.ensures.bytes
