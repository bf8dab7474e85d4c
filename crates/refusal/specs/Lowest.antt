-- In a table whose numbers rise the lowest number wins, at its first place: the two are stated in `document.Lowest`. What rests on `First` is in `proofs.Lowest`. Assumes
-- nothing.
use Rattle.std.specs.Prelude.{◌≡◌, refl, Bool, true, false}
use Rattle.refusal.specs.document.Lowest.{both}

pub both_left : (a b : Bool) → both a b ≡ true → a ≡ true
both_left true b h = refl
both_left false b h = h

pub both_right : (a b : Bool) → both a b ≡ true → b ≡ true
both_right true b h = h
both_right false true h = refl
both_right false false h = h
