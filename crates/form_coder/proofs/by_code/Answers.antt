-- `form_coder::by_code` meets its contract. Assumes nothing.
use mathlib.Core.Path.{refl}
use borrow.Author.Rules.{rules}
use Rattle.form_coder.proofs.Places.{order_once, by_code-written}
use Rattle.form_coder.proofs.by_code.Goals as goal

pub numbered-looked-requires : goal.numbered-looked-requires
numbered-looked-requires c = record { skeleton = search rules; order_len = search rules }

pub number-requires : goal.number-requires
number-requires c = (c.requires.skeleton.few, c.numbered-looked.ensures.order_len_2, order_once _ c.requires.skeleton.tree c.numbered-looked.ensures.writes.right, refl)

pub returns : goal.returns
returns c = record { writes = by_code-written _ c.requires.skeleton.tree c.numbered-looked.ensures.writes.right c.number.new.numbers _ c.number.ensures c.read.ensures; centred_pairs = c.numbered-looked.ensures.centred_pairs }
