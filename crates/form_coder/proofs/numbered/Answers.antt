-- `form_coder::numbered` meets its contract. Assumes nothing.
use Rattle.skeleton.specs.Carbon.{carbon}
use Rattle.letters.specs.Named.{carbon-named}
use Rattle.form_coder.specs.Sums.{middles-carbon}
use Rattle.form_coder.proofs.Written.{digits-written, all-ranked, numbered-told}
use Rattle.form_coder.proofs.numbered.Goals as goal

pub numbered_marks-looked-requires : goal.numbered_marks-looked-requires
numbered_marks-looked-requires c = record { skeleton = (c.requires.skeleton, all-ranked _ c.requires.skeleton.few); order_len = c.requires.order_len }

pub returns : goal.returns
returns c = let (w, e) = c.numbered_marks-looked.ensures.by_index carbon (carbon-named _ c.requires.skeleton.few) in record { order_len_2 = c.numbered_marks-looked.ensures.order_len_2; writes = digits-written (numbered-told _ c.args.edges.now) w c.read_digits.ensures; centred_pairs = middles-carbon c.requires.skeleton.tree e }
