-- `named::alike::classed` meets its contract. Assumes nothing.
use Rattle.refusal.proofs.Laws.{room_of, short_of}
use mathlib.Core.Path.{◌≡◌, refl, sym, ap, ◌∙◌, subst}
use mathlib.Core.List.{List}
use Prim.Native.Nat.{ℕ}
use native.Mathlib.Omega.{arith}
use lib.ListN.{length, take}
use Rattle.laws.specs.document.Laid.{Laid}
use Rattle.laws.specs.Laying.{laid-front}
use Rattle.refusal.specs.Giving.{given-laid}
use Rattle.refusal.proofs.Giving.{refused-short}
use Rattle.skeleton.specs.document.Label.{digits}
use Rattle.skeleton.specs.document.AtomMarks.{atoms}
use Rattle.orbits.specs.Classes.{classesₗ}
use Rattle.texts.specs.Judging.{none}
use Rattle.named.specs.Accepted.{digits_many}
use Rattle.named.proofs.alike.classed.Goals as goal

-- the classes by the same digits
laid_as : (c : List ℕ) {d e old new : List ℕ} {n : ℕ} → d ≡ e → Laid (classesₗ atoms d c) old new n → Laid (classesₗ atoms e c) old new n
laid_as c {old = old} {new} {n} p h = subst (λ (x : List ℕ). Laid (classesₗ atoms x c) old new n) p h

pub returns-in_err-fits : goal.returns-in_err-fits
returns-in_err-fits c =
    let (e, l) = short_of c.from_residual.result c.from_residual.ensures.1 c.in_err-fits.ensures in
    rw e (refused-short none (λ l e. ap length e ∙ c.requires.fact.count) refl l refl)

pub write_digits-requires : goal.write_digits-requires
write_digits-requires c = c.requires.marks_len_bound.0

pub slice_bounds-write_classes-end : goal.slice_bounds-write_classes-end
slice_bounds-write_classes-end c = let Told : Type 0 = take (length c.args.marks.now) c.write_digits.new.out ≡ digits atoms c.args.marks.now in
    let are-told : Told = laid-front _ _ _ _ c.write_digits.ensures (digits_many c.args.marks.now) in
    sym (ap length (are-told) ∙ digits_many c.args.marks.now)

pub write_classes-requires : goal.write_classes-requires
write_classes-requires c = let Told : Type 0 = take (length c.args.marks.now) c.write_digits.new.out ≡ digits atoms c.args.marks.now in
    let are-told : Told = laid-front _ _ _ _ c.write_digits.ensures (digits_many c.args.marks.now) in record { ds_value = are-told; fact = c.requires.marks_len_bound.1; code_len_bound = c.requires.marks_len_bound.0; code_in_bounds = (room_of c.in_ok-fits.ensures) }

pub returns : goal.returns
returns c = let Told : Type 0 = take (length c.args.marks.now) c.write_digits.new.out ≡ digits atoms c.args.marks.now in
    let are-told : Told = laid-front _ _ _ _ c.write_digits.ensures (digits_many c.args.marks.now) in
    given-laid none (omega (arith, c.requires.fact.count, (room_of c.in_ok-fits.ensures))) (laid_as c.args.marks.now (are-told) c.write_classes.ensures)
