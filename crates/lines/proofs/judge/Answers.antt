-- `lines::judge` meets its contract: what is judged is the values. Assumes nothing.
use mathlib.Core.Path.{◌≡◌, sym, ap, subst, ◌∙◌}
use mathlib.Core.List.{List}
use Prim.Native.Nat.{ℕ}
use lib.ListN.{length, take}
use Rattle.laws.specs.Laying.{laid-front}
use Rattle.refusal.specs.Checks.{Answers}
use Rattle.limits.specs.document.Limits.{size}
use Rattle.form.specs.document.Form.{IsCentred, form_rows}
use Rattle.lines.specs.Form.{values}
use Rattle.lines.specs.Taking.{length_values}
use Rattle.lines.proofs.judge.Goals as goal

pub slice_bounds-check-end : goal.slice_bounds-check-end
slice_bounds-check-end c = let Values : Type 0 = let t = c.args.t.now in
    take (length t) c.read_digits.new.out ≡ values t in
    let are-values : Values = laid-front _ _ _ _ c.read_digits.ensures (length_values _) in
    sym (ap length (are-values) ∙ length_values _)

pub returns : goal.returns
returns c = let Values : Type 0 = let t = c.args.t.now in
    take (length t) c.read_digits.new.out ≡ values t in
    let are-values : Values = laid-front _ _ _ _ c.read_digits.ensures (length_values _) in
    subst (λ (d : List ℕ). Answers (form_rows IsCentred size c.args.limit d) c.check.result) (are-values) c.check.ensures
