-- `renumber::hand_out` meets its contract. Assumes nothing.
use Rattle.skeleton.specs.Carbon.{carbon}
use Rattle.renumber.proofs.Atoms.{zeros-named, zeros-ranked}
use Rattle.renumber.proofs.Found.{found-carbon, looked-carbon}
use Rattle.renumber.proofs.hand_out.Goals as goal

pub hand_out_marks-requires : goal.hand_out_marks-requires
hand_out_marks-requires c = record { skeleton = (c.requires.0, zeros-ranked _); skeleton_2 = (c.requires.1, zeros-ranked _) }

pub returns : goal.returns
returns c = let (f, x) = c.hand_out_marks.ensures carbon carbon (zeros-named _) (zeros-named _) in record { found = found-carbon f; looked_at = looked-carbon c.requires.0.tree c.requires.1.tree x }
