-- `renumber::repeats` meets its contract: the entry is looked for among those before it. Assumes nothing.
use mathlib.Core.Path.{◌≡◌, sym, ap, ◌∙◌}
use mathlib.Core.List.{List}
use Prim.Native.Nat.{ℕ, ◌+◌, ◌-◌, ◌<◌}
use native.Mathlib.Omega.{arith}
use lib.Dec.{eqb}
use lib.ListN.{length, get_or, take}
use lib.Seq.{get_or-take, length-take-le}
use Rattle.std.proofs.lemmas.Bool.{false≢true}
use Rattle.std.proofs.lemmas.Bool.Decides.{Decides-eqb}
use Rattle.std.proofs.lemmas.List.{get_or_default}
use Rattle.std.proofs.lemmas.List.Elements.{contains_decides}
use Rattle.laws.specs.Tells.{tells}
use Rattle.renumber.proofs.repeats.Goals as goal

pub returns : goal.returns
returns c = let (w, p) : List ℕ × ℕ = (c.args.map.now, c.args.p) in
    let many : length (take (p - 1) w) ≡ p - 1 = length-take-le (p - 1) w (omega arith) in
    let found = contains_decides eqb Decides-eqb _ _ _ c.contains.ensures.cases in
    tells _
    (λ e.
    let (k, l, f) = found.0 e in
    let earlier : k + 1 < p = omega (arith, many) in
    let m : k + 1 - 1 ≡ k = omega arith in
    (k + 1, omega arith, earlier, ap (λ j. get_or w j 0) m ∙ sym (get_or-take (p - 1) w k 0 (omega arith)) ∙ f 0))
    (λ e (q, a, b, r). false≢true (sym e ∙ found.1 (
      q - 1,
      omega (arith, many),
      λ d. get_or-take (p - 1) w (q - 1) d (omega arith) ∙ get_or_default w (q - 1) d 0 (omega arith) ∙ r,
    )))
