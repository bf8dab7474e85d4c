-- `zurkhovel::bit_tuple::laid` meets its contract. Assumes nothing.
use Rattle.refusal.proofs.Laws.{room_of, short_of}
use mathlib.Core.Path.{refl, ap}
use lib.ListN.{length}
use Rattle.refusal.specs.Giving.{given-laid}
use Rattle.refusal.proofs.Giving.{refused-short}
use Rattle.texts.specs.Judging.{none}
use Rattle.zurkhovel.proofs.Rooted.{copied}
use Rattle.zurkhovel.proofs.bit_tuple.laid.Goals as goal

pub returns-in_err-fits : goal.returns-in_err-fits
returns-in_err-fits c =
    let (e, l) = short_of c.from_residual.result c.from_residual.ensures.1 c.in_err-fits.ensures in
    rw e (refused-short none (λ d e. ap length e) refl l refl)

pub returns : goal.returns
returns c = given-laid none (room_of c.in_ok-fits.ensures) (copied c.copy.ensures.bytes c.copy.result c.copy.ensures.count)

pub copy-requires : goal.copy-requires
copy-requires c = room_of c.in_ok-fits.ensures
