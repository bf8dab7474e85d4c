-- `listings::run` meets its contract. Assumes nothing.
use Rattle.std.proofs.KnownBytes.{Keeps-refl}
use Rattle.std.proofs.Common.{ℕ, arith, length-take}
use Rattle.listing_text.specs.Steps.{lines_of_kind}
use Rattle.listings.specs.Answered.{Stopped, reading}
use Rattle.listings.proofs.Growing.{on_err, stopped}
use Rattle.listings.proofs.run.Goals as goal

pub returns-in_err-n-clause-some : goal.returns-in_err-n-clause-some
returns-in_err-n-clause-some g c =
    let (t, taken) = c.in_err-n.ensures.some in
    let stopped :
    Stopped (lines_of_kind c.args.kind).format (g.R.Read.remaining c.args.input.now) (g.R.Read.remaining c.read_full.new.input)
    (g.W.Write.contents c.args.output.now) (g.W.Write.contents c.args.output.now) =
    reading t taken (Keeps-refl _) in
    on_err c.from_residual.result stopped

pub returns-clause-some : goal.returns-clause-some
returns-clause-some g c =
    stopped (lines_of_kind c.args.kind).format _ _ _ _ _ c.list.result c.in_ok-n.ensures.bytes
    (λ h. c.in_ok-n.ensures.end (omega (arith, h, length-take {A = ℕ}))) c.list.ensures.some
