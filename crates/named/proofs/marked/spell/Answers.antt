-- `named::marked::spell` meets its contract. Assumes nothing.
use Rattle.refusal.proofs.Laws.{room_of, short_of}
use mathlib.Core.Path.{◌≡◌, refl, sym, ap, ◌∙◌}
use mathlib.Core.List.{List}
use Prim.Native.Nat.{ℕ}
use lib.ListN.{length}
use Rattle.skeleton.specs.document.Label.{digits}
use Rattle.skeleton.specs.document.AtomMarks.{atoms}
use Rattle.refusal.specs.Both.{Sized, both-given}
use Rattle.refusal.proofs.Both.{both-short, both-short-second}
use Rattle.texts.specs.Judging.{none}
use Rattle.letters.specs.document.Letters.{letters_of}
use Rattle.named.specs.Accepted.{digits_many, letters_many}
use Rattle.named.proofs.marked.spell.Goals as goal

-- both parts have as many bytes as there are marks
parts : (c : List ℕ) → Sized (λ d l. (d ≡ digits atoms c) × (l ≡ letters_of c)) (length c) (length c)
parts c d l (e, f) = (ap length e ∙ digits_many c, ap length f ∙ letters_many c)

pub returns-in_err-fits : goal.returns-in_err-fits
returns-in_err-fits c =
    let (e, l) = short_of c.from_residual.result c.from_residual.ensures.1 c.in_err-fits.ensures in
    rw e (both-short none (parts _) (refl, refl) l refl)

pub returns-in_err-fits-2 : goal.returns-in_err-fits-2
returns-in_err-fits-2 c =
    let (e, l) = short_of c.from_residual-in_err-fits-2.result c.from_residual-in_err-fits-2.ensures.1 c.in_err-fits-2.ensures in
    rw e (both-short-second none (parts _) (refl, refl) (room_of c.in_ok-fits.ensures) l refl)

pub write_digits-requires : goal.write_digits-requires
write_digits-requires c = (room_of c.in_ok-fits.ensures)

pub write_letters-requires : goal.write_letters-requires
write_letters-requires c = (room_of c.in_ok-fits-2.ensures)

pub returns : goal.returns
returns c = both-given none (parts c.args.marks.now) (room_of c.in_ok-fits.ensures) (room_of c.in_ok-fits-2.ensures)
    (record { first = digits atoms c.args.marks.now; second = letters_of c.args.marks.now; right = (refl, refl); count = sym (digits_many c.args.marks.now); first_lies = c.write_digits.ensures; second_lies = c.write_letters.ensures })
