-- `form_coder::centred` meets its contract. Assumes nothing.
use borrow.Author.Rules.{rules}
use Rattle.form_coder.proofs.centred.Goals as goal

pub numbered-requires : goal.numbered-requires
numbered-requires c = record { skeleton = search rules; order_len = search rules }

pub returns : goal.returns
returns c = record { writes = record { result = c.numbered.ensures.writes.result; right = c.numbered.ensures.writes.right.right; count = c.numbered.ensures.writes.count; lies = c.numbered.ensures.writes.lies }; centred_pairs = c.numbered.ensures.centred_pairs }
