-- How many named lines of a text there is room for. What the loop of the reader keeps is `Going` of the crate `texts`. Assumes nothing.
use Rattle.std.specs.Prelude.{List, [], ◌∷◌, ℕ, ◌+◌, ◌*◌, ◌≤◌, ◌<◌, length}
use Rattle.std.proofs.Common.{arith}
use Rattle.limits.specs.document.Limits.{size}
use Rattle.texts.specs.Going.{RoomFor}
use Rattle.lines.specs.Form.{Room}

-- r lines find room: `size` bytes of digits, as many of letters, a number and a place for each; and no further line does
pub record NamedRoom (records letters numbers places r : ℕ) : Type 0 where
  pub enough : (size * r ≤ records) × (size * r ≤ letters) × (r ≤ numbers) × (r ≤ places)
  pub no_more : size * r + size ≤ records → size * r + size ≤ letters → r < numbers → r < places → ⊥

-- it is that of the shorter area
module _ {records letters numbers places r : ℕ} where
  pub by_records : records ≤ letters → Room size records numbers places r → NamedRoom records letters numbers places r
  by_records l m =
      let e = m.enough in
      record { enough = (omega arith, omega arith, omega arith, omega arith); no_more = λ a b c d. m.no_more a c d }

  pub by_letters : letters < records → Room size letters numbers places r → NamedRoom records letters numbers places r
  by_letters l m =
      let e = m.enough in
      record { enough = (omega arith, omega arith, omega arith, omega arith); no_more = λ a b c d. m.no_more b c d }

-- room for lines in the two areas
pub room_for :
    (rec lets num pla : List ℕ) {n : ℕ} → NamedRoom (length rec) (length lets) (length num) (length pla) n → RoomFor size (rec ∷ lets ∷ []) num pla n
room_for rec lets num pla r =
    record { enough = ((r.enough.0, (r.enough.1, tt)), r.enough.2, r.enough.3); no_more = λ a. r.no_more a.0 a.1.0 }
