-- `form_coder::widest` meets its contract: the greatest of none is 0. Assumes nothing.
use mathlib.Core.Path.{◌≡◌, sym, ◌∙◌}
use native.Mathlib.Omega.{arith}
use lib.ListN.{take}
use Rattle.std.specs.Prelude.{max}
use Rattle.std.specs.List.{reduce}
use Rattle.std.proofs.lemmas.Iterator.{YieldsList-from_slice}
use Rattle.std.proofs.lemmas.Iterator.Adapters.{option_map_id}
use Rattle.std.proofs.lemmas.Iterator.Consumers.{max_from_yields_List, YieldsList-from_copied}
use Rattle.form_coder.proofs.Largest.{greatest}
use Rattle.form_coder.proofs.widest.Goals as goal

pub returns : goal.returns
returns c = let D = c.args.table.now.degs in
    let e : c.max.result ≡ reduce max (take c.args.n D) = sym (option_map_id c.max.result) ∙ max_from_yields_List _ _ c.max.ensures.ran (YieldsList-from_copied (YieldsList-from_slice (take c.args.n D) cc)) in
    rw (c.unwrap_or.ensures, e) (greatest D c.args.n (omega arith))
