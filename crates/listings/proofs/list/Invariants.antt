-- So much of the listing is written, in whole buffers, and from the first of them on there is a listing.
use Rattle.std.proofs.Common.{◌≡◌, List, ℕ, ◌*◌, ◌≤◌, length, take}
use Rattle.std.specs.Io.KnownBytes.{Appends}
use Rattle.listing_text.specs.document.Listing.{Listing}
use Rattle.listing_text.specs.Steps.{lines_of_kind}
use Rattle.listings.proofs.list.Given as goal

abbrev pub invariant-loop-i : goal.invariant-loop-i
invariant-loop-i g l = record {
  room : length l.piece ≡ 65536;
  some : 1 ≤ l.i → (m : List ℕ) × Listing (lines_of_kind l.kind).format l.text m;
  written : (w : List ℕ) × Appends (g.W.Write.contents l.initial.output) (g.W.Write.contents l.output) w
      × ((m : List ℕ) → Listing (lines_of_kind l.kind).format l.text m → w ≡ take (65536 * l.i) m);
}
