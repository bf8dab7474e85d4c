-- How long an output is over whose start something was written (`document.Laid`). How a loop that writes it goes on is in `Laying`.
-- Assumes nothing.
use Rattle.std.specs.Prelude.{◌≡◌, List, ℕ, ◌≤◌, length, drop}
use Rattle.std.proofs.Common.{◌∙◌, arith, length-append, length-drop}
use Rattle.laws.specs.document.Laid.{laid_over}

pub laid_length : (c old : List ℕ) → length c ≤ length old → length (laid_over c old) ≡ length old
unfolding laid_over
laid_length c old h = length-append c (drop (length c) old) ∙ (let e = length-drop (length c) old in omega arith)
