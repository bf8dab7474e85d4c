-- What is proved of the listing, as statements. In order: a text has one listing; a piece of it is one; pieces, each from where the one
-- before it ended, are the whole of it. For lines of any format that a text has in one way; then for plain lines, of which `most` is the largest N and
-- `rows` judge the digits, and for named lines. Assumes nothing.
use Rattle.std.specs.Prelude.{◌≡◌, List, ◌++◌, ℕ, ◌+◌, ◌≤◌, ◌<◌, min, length, take, drop}
use Rattle.std.proofs.Common.{sym, ap, ◌∙◌, arith, length-take, take-append-drop, take_all, drop-drop}
use Rattle.laws.specs.document.Laid.{Laid}
use Rattle.laws.specs.Laying.{laid-front}
use Rattle.texts.specs.document.Text.{Format}
use Rattle.texts.specs.Sound.{Once}
use Rattle.texts.specs.Theorems.{one_reading}
use Rattle.lines.specs.document.Line.{DigitRow, plain_lines}
use Rattle.lines.specs.Plain.{plain_once}
use Rattle.listing_text.specs.document.Listing.{listed, Listing, longer, lines, ListsOf, Lists}
use Rattle.listing_text.specs.Window.{take_least}

-- a piece is no longer than what is lent
pub piece-short : {A F : Type 0} (format : Format A F) {t old new : List ℕ} {from n : ℕ} → ListsOf format t old new from n → n ≤ length old
piece-short format p = rw (p.piece.count, length-take) (omega arith)

module _ {A F : Type 0} (format : Format A F) (once : Once format.Formed) where
  one-listing : (t l m : List ℕ) → Listing format t l → Listing format t m → l ≡ m
  one-listing t l m (longer h e) (longer k f) = e ∙ sym f
  one-listing t l m (longer h e) (lines ps k b f) = absurd (omega arith)
  one-listing t l m (lines os h a e) (longer k f) = absurd (omega arith)
  one-listing t l m (lines os h a e) (lines ps k b f) = e ∙ ap listed (one_reading format once t os ps a b) ∙ sym f

  -- a piece, of the one listing that there is
  piece_of : {t l old new : List ℕ} {from n : ℕ} → Listing format t l → ListsOf format t old new from n → Laid (take (length old) (drop from l)) old new n
  piece_of {t} {l} h p = rw (one-listing t l p.listing h p.right) p.piece

  pub only-piece :
      (t old new new' : List ℕ) (from n m : ℕ) → ListsOf format t old new from n → ListsOf format t old new' from m → (n ≡ m) × (new ≡ new')
  only-piece t old new new' from n m p q =
      let r = piece_of p.right q in
      (p.piece.count ∙ sym r.count, p.piece.lies ∙ sym r.lies)

  -- pieces of the listing of t, from byte `from` on, each from where the one before it ended; the last does not fill what is lent
  pub data Pieces (t : List ℕ) : ℕ → List ℕ → Type 0 where
    last : {old new : List ℕ} {from n : ℕ} → ListsOf format t old new from n → n < length old → Pieces t from (take n new)
    more : {old new rest : List ℕ} {from n : ℕ} → ListsOf format t old new from n → Pieces t (from + n) rest → Pieces t from (take n new ++ rest)

  module _ {t l old new : List ℕ} {from n : ℕ} (h : Listing format t l) (p : ListsOf format t old new from n) where
    many : n ≡ min (length old) (length (drop from l))
    many = (piece_of h p).count ∙ length-take (length old) (drop from l)

    front : take n new ≡ take n (drop from l)
    front =
        let q = piece_of h p in
        laid-front (take (length old) (drop from l)) old new n q.lies (sym q.count) ∙ take_least (drop from l) (length old) n many

  pub pieces_whole : (t l p : List ℕ) (from : ℕ) → Listing format t l → Pieces t from p → p ≡ drop from l
  pieces_whole t l p from h (last {n = n} q k) = front h q ∙ take_all n (drop from l) (omega (arith, many h q))
  pieces_whole t l p from h (more {rest = rest} {n = n} q r) =
      let d : List ℕ = drop from l in
      let e : rest ≡ drop n d = pieces_whole t l rest (from + n) h r ∙ sym (drop-drop n from l) in
      rw (front h q, e) (take-append-drop n d)

module _ (most : ℕ) (rows : List DigitRow) where
  pub one_piece :
      (t old new new' : List ℕ) (from n m : ℕ) → Lists most rows t old new from n → Lists most rows t old new' from m → (n ≡ m) × (new ≡ new')
  one_piece t old new new' from n m p q = only-piece (plain_lines most rows) plain_once t old new new' from n m p q
