-- `form_coder::n_tuple` meets its contract. Assumes nothing.
use Rattle.skeleton.specs.Carbon.{carbon}
use Rattle.letters.specs.Named.{carbon-named}
use Rattle.form_coder.specs.Sums.{widest-carbon}
use Rattle.form_coder.proofs.Written.{digits-written, all-ranked, n_tuple-told}
use Rattle.form_coder.proofs.n_tuple.Goals as goal

pub n_tuple_marks-looked-requires : goal.n_tuple_marks-looked-requires
n_tuple_marks-looked-requires c = record { skeleton = (c.requires.skeleton, all-ranked _ c.requires.skeleton.few); n_in_bounds = c.requires.n_in_bounds }

pub returns : goal.returns
returns c = let (w, e) = c.n_tuple_marks-looked.ensures carbon (carbon-named _ c.requires.skeleton.few) in record { writes = digits-written (n_tuple-told _ c.args.edges.now) w c.read_digits.ensures; n_tuple_pairs = widest-carbon c.requires.skeleton.tree e }
