-- `form_coder::read_digits` meets its contract. Assumes nothing.
use mathlib.Core.Path.{◌≡◌, refl, sym, subst}
use mathlib.Core.List.{List, ◌++◌, append-nil}
use Prim.Native.Nat.{ℕ, ◌+◌, ◌/◌, ◌≤◌}
use native.Mathlib.Omega.{arith}
use lib.ListN.{length, take, drop, set, length-map, drop_of_length-le}
use lib.Seq.{length-take-le}
use Rattle.laws.specs.document.Laid.{laid_over}
use Rattle.laws.specs.Laying.{Mapped, mapped-none, mapped-more, mapped-all}
use Rattle.skeleton.specs.document.Label.{digits}
use Rattle.form_coder.proofs.Written.{mapped-behind}
use Rattle.form_coder.proofs.read_digits.Goals as goal

abbrev third : ℕ → ℕ
third m = m / 3

-- what is written over all of the first n stands over the whole
over_front : (c old out : List ℕ) (n : ℕ) → n ≤ length old → length c ≡ n → out ≡ laid_over c (take n old) → out ++ drop n old ≡ laid_over c old
unfolding laid_over
over_front c old out n h l e =
    let m : length (take n old) ≤ n = omega (arith, length-take-le n old h) in
    rw (e, l, drop_of_length-le (take n old) m, append-nil) refl

pub loop-mark-init : goal.loop-mark-init
loop-mark-init c = mapped-none _ _ _ (omega arith)

pub loop-mark-preserved : goal.loop-mark-preserved
loop-mark-preserved c = let t : List ℕ = take c.args.n c.args.marks.now in
    subst (λ x. Mapped third t t (set c.loop-mark.mark-items c.loop-mark.mark-index (third x)) (c.loop-mark.mark-index + 1))
    (sym (mapped-behind c.loop-mark.invariant))
    (mapped-more _ _ _ (omega arith) c.loop-mark.invariant (omega arith))

pub returns : goal.returns
unfolding digits
returns c = let t : List ℕ = take c.args.n c.args.marks.now in
    over_front _ _ _ _ c.requires (simp length-map (length-take-le c.args.n c.args.marks.now c.requires)) (mapped-all third t t (omega arith) c.loop-mark.invariant (omega arith))
