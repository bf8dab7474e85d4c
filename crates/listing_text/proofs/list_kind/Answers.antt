-- `listing_text::list_kind` meets its contract. Assumes nothing.
use mathlib.Core.Path.{refl}
use mathlib.Core.List.{[]}
use native.Mathlib.Omega.{arith}
use Rattle.listing_text.specs.document.Listing.{too_long, longer}
use Rattle.listing_text.specs.Window.{shown-none}
use Rattle.listing_text.proofs.list_kind.Goals as goal

pub returns-then-text-gt65536 : goal.returns-then-text-gt65536
returns-then-text-gt65536 c = record {
  listing = too_long;
  right = longer (omega arith) refl;
  piece = (c.put-end.ensures [] _ _ (shown-none _ _)).laid;
}
