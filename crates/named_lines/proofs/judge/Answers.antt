-- `named_lines::judge` meets its contract: what is judged is the values, with the letters. Assumes nothing.
use mathlib.Core.Path.{◌≡◌, sym, ap, subst, ◌∙◌}
use mathlib.Core.List.{List, ◌∷◌}
use Prim.Native.Nat.{ℕ}
use lib.ListN.{length, take}
use Rattle.laws.specs.Laying.{laid-front}
use Rattle.refusal.specs.document.Table.{row3}
use Rattle.refusal.specs.Checks.{Answers}
use Rattle.limits.specs.document.Limits.{size, valence}
use Rattle.lettered_check.specs.Rows.{lettered_rows}
use Rattle.lines.specs.Form.{values}
use Rattle.lines.specs.Taking.{length_values}
use Rattle.named_lines.proofs.judge.Goals as goal

pub slice_bounds-check-end : goal.slice_bounds-check-end
slice_bounds-check-end c = let Values : Type 0 = take (length c.args.t.now) c.read_digits.new.out ≡ values c.args.t.now in
    let are-values : Values = laid-front _ _ _ _ c.read_digits.ensures (length_values _) in
    sym (ap length (are-values) ∙ length_values _)

pub check-requires : goal.check-requires
check-requires c = let Values : Type 0 = take (length c.args.t.now) c.read_digits.new.out ≡ values c.args.t.now in
    let are-values : Values = laid-front _ _ _ _ c.read_digits.ensures (length_values _) in
    c.requires.letters_len ∙ sym (ap length (are-values) ∙ length_values _)

pub returns : goal.returns
returns c = let Values : Type 0 = take (length c.args.t.now) c.read_digits.new.out ≡ values c.args.t.now in
    let are-values : Values = laid-front _ _ _ _ c.read_digits.ensures (length_values _) in
    subst (λ (d : List ℕ). Answers (row3 size (length d) ∷ lettered_rows valence d c.args.letters.now) c.check.result) (are-values) c.check.ensures
