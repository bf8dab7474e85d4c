-- `named::maps::renumbering` keeps its promise. Assumes nothing.
use Rattle.std.specs.Prelude.{[], refl}
use Rattle.refusal.specs.Lists.{were_accepted, one-refused, both_accepted}
use Rattle.refusal.proofs.Giving.{list_exit}
use Rattle.named.proofs.Judging.{hand_lists}
use Rattle.named.proofs.maps.renumbering.Goals as goal

pub returns-in_err-both : goal.returns-in_err-both
returns-in_err-both c = let s = c.args in
    list_exit _ c.from_residual.result c.from_residual.ensures.1
    (hand_lists s.n1 s.edges1.now s.letters1.now s.n2 s.edges2.now s.letters2.now (one-refused c.in_err-both.ensures refl) s.out.now)

pub hand_out-requires : goal.hand_out-requires
hand_out-requires c = let whole = both_accepted [] _ _ (were_accepted c.in_ok-both.ensures refl) in record { clear = whole.0; clear_2 = whole.1 }
