-- `zurkhovel::text::count` keeps its promise. Assumes nothing.
use mathlib.Core.Path.{◌≡◌, refl, sym, ap, ◌∙◌}
use mathlib.Core.List.{List, ◌∷◌}
use Prim.Native.Nat.{ℕ, zero, suc, ◌+◌}
use native.Mathlib.Omega.{arith}
use lib.Seq.{take_all}
use Rattle.std.proofs.Math.Dec.{eqb-suc-zero}
use Rattle.std.specs.Prelude.{◌==◌, cond}
use Rattle.std.specs.List.{count_by}
use Rattle.std.proofs.lemmas.List.Sums.{count_by-le-length}
use Rattle.std.proofs.lemmas.List.Recursion.{is_count_by}
use Rattle.texts.specs.document.Demand.{zeros}
use Rattle.zurkhovel.proofs.text.count.Goals as goal

zeros_counted : (ns : List ℕ) → zeros ns ≡ count_by (λ k. k == 0) ns
unfolding zeros
zeros_counted = is_count_by zeros (λ k. k == 0) refl step
  where
    step : (k : ℕ) (ns : List ℕ) → zeros (k ∷ ns) ≡ cond (k == 0) (1 + zeros ns) (zeros ns)
    step zero ns = omega arith
    step (suc k) ns = rw eqb-suc-zero

pub returns : goal.returns
returns c =
    let all = c.args.numbers.now in
    let counted : c.loop-k.read ≡ count_by (λ k. k == 0) all = c.loop-k.invariant ∙ ap (λ ns. count_by (λ k. k == 0) ns) (take_all c.loop-k.k-index all c.loop-k-test.false) in
    record { records = counted ∙ sym (zeros_counted all); others = omega (arith, count_by-le-length (λ k. k == 0) all, counted) }
