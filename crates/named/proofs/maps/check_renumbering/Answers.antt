-- `named::maps::check_renumbering` keeps its promise. Assumes nothing.
use Rattle.std.specs.Prelude.{[], refl}
use Rattle.refusal.specs.Lists.{were_accepted, one-refused, both_accepted}
use Rattle.refusal.proofs.Laws.{is_refusal}
use Rattle.named.proofs.Judging.{judge-lists}
use Rattle.named.proofs.maps.check_renumbering.Goals as goal

pub returns-in_err-both : goal.returns-in_err-both
returns-in_err-both c = let s = c.args in
    rw (is_refusal c.from_residual.result c.from_residual.ensures.1)
    (judge-lists s.n1 s.edges1.now s.letters1.now s.n2 s.edges2.now s.letters2.now (one-refused c.in_err-both.ensures refl) s.map.now)

pub judge-requires : goal.judge-requires
judge-requires c = let whole = both_accepted [] _ _ (were_accepted c.in_ok-both.ensures refl) in record { clear = whole.0; clear_2 = whole.1 }
