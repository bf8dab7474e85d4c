-- `form_coder::rooted` meets its contract. Assumes nothing.
use mathlib.Core.Path.{◌∙◌}
use Rattle.skeleton.specs.Carbon.{carbon}
use Rattle.letters.specs.Named.{carbon-named}
use Rattle.numbering.proofs.Rewritten.{carbon-counted}
use Rattle.form_coder.proofs.Written.{digits-written, all-ranked, rooted-told}
use Rattle.form_coder.proofs.rooted.Goals as goal

pub rooted_marks-looked-requires : goal.rooted_marks-looked-requires
rooted_marks-looked-requires c = record { skeleton = (c.requires.skeleton, all-ranked _ c.requires.skeleton.few); le_root = c.requires.le_root }

pub returns : goal.returns
returns c = let (h, k, room) = c.requires.le_root in
    let (w, e) = c.rooted_marks-looked.ensures carbon (carbon-named _ c.requires.skeleton.few) in record { writes = digits-written (rooted-told _ c.args.edges.now _) w c.read_digits.ensures; value = e ∙ carbon-counted _ _ _ c.requires.skeleton.tree h k }
