-- `rooted_coder::rooted` meets its contract. Assumes nothing.
use mathlib.Core.Path.{ap, ◌∙◌}
use Rattle.laws.specs.document.Laid.{laid_over}
use Rattle.rooted_coder.proofs.rooted.Goals as goal

pub returns : goal.returns
returns c = let old = c.args.out.now in record {
  order_len = c.vertices-looked.ensures.buffer_len;
  by_index = λ E label tree table named.
      let p = c.vertices-looked.ensures.by_index E label tree table named in
      (p.order, c.read.ensures ∙ ap (λ l. laid_over l old) p.code, p.count);
}
