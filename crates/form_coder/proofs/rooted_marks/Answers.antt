-- `form_coder::rooted_marks` meets its contract. Assumes nothing.
use borrow.Author.Rules.{rules}
use Rattle.form_coder.proofs.Written.{codes_of, rooted-written}
use Rattle.form_coder.proofs.rooted_marks.Goals as goal

pub rooted-requires : goal.rooted-requires
rooted-requires c = record { held = search rules; le_root = search rules }

pub returns : goal.returns
returns c = let (h, i, room) = c.requires.le_root in
    λ label q. let (o, w, e) = c.rooted.ensures.by_index c.args.edges.now label c.requires.skeleton.0.tree c.fill.ensures q in (rooted-written (codes_of label c.requires.skeleton.0.tree) h i _ w, e)
