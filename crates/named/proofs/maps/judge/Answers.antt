-- `named::maps::judge` keeps its promise. Assumes nothing.
use Rattle.std.specs.Prelude.{refl}
use Rattle.refusal.proofs.Laws.{clear_of, refusal_of}
use Rattle.skeleton.specs.document.Atom.{atom_at}
use Rattle.named.specs.Accepted.{table_of}
use Rattle.named.proofs.Naming.{few_letters, named-all}
use Rattle.named.proofs.Judging.{map_passed, map_refused}
use Rattle.named.proofs.maps.judge.Goals as goal

pub name-requires : goal.name-requires
name-requires c = (few_letters c.args.n1 c.args.edges1.now 1 c.args.letters1.now c.requires.clear, refl)

pub name-requires-2 : goal.name-requires-2
name-requires-2 c = (few_letters c.args.n2 c.args.edges2.now 1 c.args.letters2.now c.requires.clear_2, refl)

pub check_marks-requires : goal.check_marks-requires
check_marks-requires c = table_of c.args.n1 c.args.edges1.now 1 c.args.letters1.now c.requires.clear

pub returns-in-Ok : goal.returns-in-Ok
returns-in-Ok c = let s = c.args in
    map_passed s.n1 s.edges1.now s.letters1.now s.n2 s.edges2.now s.letters2.now c.requires.clear c.requires.clear_2 s.map.now
    (clear_of (c.in-Ok.ensures (atom_at s.letters1.now) (atom_at s.letters2.now) (named-all s.n1 s.edges1.now 1 s.letters1.now c.requires.clear c.name.ensures)
    (named-all s.n2 s.edges2.now 1 s.letters2.now c.requires.clear_2 c.name-2.ensures)))

pub returns-in-Err : goal.returns-in-Err
returns-in-Err c = let s = c.args in
    map_refused s.n1 s.edges1.now s.letters1.now s.n2 s.edges2.now s.letters2.now c.requires.clear c.requires.clear_2 s.map.now
    (refusal_of (c.in-Err.ensures (atom_at s.letters1.now) (atom_at s.letters2.now) (named-all s.n1 s.edges1.now 1 s.letters1.now c.requires.clear c.name.ensures)
    (named-all s.n2 s.edges2.now 1 s.letters2.now c.requires.clear_2 c.name-2.ensures)))
