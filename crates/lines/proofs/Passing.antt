-- From one line of a text to the next: the place behind a line; and what the loop of the reader keeps, which `Going` of the crate `texts` says.
-- Assumes nothing.
use mathlib.Core.Path.{◌≡◌, sym, ap, ◌∙◌}
use mathlib.Core.List.{List, [], ◌∷◌}
use Prim.Native.Nat.{ℕ, suc, ◌+◌, ◌*◌, ◌-◌, ◌^◌, ◌≤◌, ◌<◌}
use native.Mathlib.Omega.{arith}
use lib.ListN.{length, take, drop, length-drop, drop_of_length-le}
use lib.Seq.{drop-drop, drop-length}
use mir.Syntax.{w64}
use mir.Val.{Fits}
use Rattle.limits.specs.document.Limits.{size}
use Rattle.edition.specs.document.Edition.{neighbours_in}
use Rattle.texts.specs.Ending.{UpTo, Behind, rest_is}
use Rattle.texts.specs.Going.{RoomFor, Spacious}
use Rattle.lines.specs.document.Judged.{digit_table}
use Rattle.lines.specs.document.Reading.{digits_lent, lines_of}
use Rattle.lines.specs.Form.{Room}
use Rattle.lines.specs.Plain.{plain_once, plain_few}

module _ {t : List ℕ} {at e : ℕ} (l : at < length t) (u : UpTo (take (length t - at) (drop at t)) e) where
  pub behind-last : e ≡ length t - at → Behind t at (length t)
  behind-last q =
      record {
        end = e;
        feed = rw (rest_is t at) at u;
        within = omega arith;
        rest = drop-length t ∙ sym (drop_of_length-le (drop at t) {i = suc e} (rw length-drop (omega arith)));
      }

  pub behind-line : (e ≡ length t - at → ⊥) → Behind t at (at + e + 1)
  behind-line n =
      let f : UpTo (drop at t) e = rw (rest_is t at) at u in
      let k : at + e + 1 ≡ at + suc e = omega arith in
      record {
        end = e;
        feed = f;
        within = omega (arith, f.within, length-drop at t);
        rest = ap (λ (i : ℕ). drop i t) k ∙ sym (drop-drop (suc e) at t);
      }

-- what is lent for a line has room for its digits
pub spacious : (e : ℕ) → Spacious (lines_of e) (digits_lent size)
spacious e = let few = plain_few size (digit_table (neighbours_in e)) in record { once = plain_once; fits = (few, tt); wide = few }

-- room for lines in the one area
pub room_for : (rec num pla : List ℕ) {n : ℕ} → Room size (length rec) (length num) (length pla) n → RoomFor size (rec ∷ []) num pla n
room_for rec num pla r = record { enough = ((r.enough.0, tt), r.enough.1, r.enough.2); no_more = λ a. r.no_more a.0 }

-- what counts a line that finds room fits a word
pub in_words : (k : ℕ) {n m : ℕ} → size * k + size ≤ n → n ≡ m → m < 2 ^ 64 → Fits w64 (size * k) × Fits w64 (size * k + size) × Fits w64 (k + 1)
in_words k r e h = (omega arith, omega arith, omega arith)
