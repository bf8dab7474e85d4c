-- `lines::seek_far` meets its contract: what is found in the first bytes is found in all. Assumes nothing.
use mathlib.Core.Path.{sym, ◌∙◌}
use mathlib.Core.List.{List}
use Prim.Native.Nat.{ℕ, ◌≤◌, ◌<◌}
use native.Mathlib.Omega.{arith}
use lib.ListN.{length, take}
use lib.Seq.{length-take-le, take-take, take_all, get_or-take}
use Rattle.texts.specs.document.Bytes.{Other}
use Rattle.texts.specs.Ending.{Until}
use Rattle.laws.specs.Each.{Passed}
use Rattle.lines.proofs.seek_far.Goals as goal

-- of the first n bytes
module _ {k n i : ℕ} {t : List ℕ} (l : n ≤ length t) (u : Until k (take n t) i) where
  near : i < n → Until k t i
  near h = record {
    within = omega arith;
    free = let f = u.free in rw (take-take i n t (omega arith)) at f;
    fed = λ m. sym (get_or-take n t i 0 h) ∙ u.fed (rw (length-take-le n t l) h);
  }

  far : n ≤ i → Passed (Other k) t n
  far h = record { within = l; each = let f = u.free in rw (take_all i (take n t) (rw (length-take-le n t l) h)) at f }

pub returns-then-near-lt-BLOCK : goal.returns-then-near-lt-BLOCK
returns-then-near-lt-BLOCK c = near (omega arith) c.seek-near.ensures c.if-near-lt-BLOCK.true
