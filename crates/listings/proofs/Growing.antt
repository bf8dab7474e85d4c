-- What is written of a listing grows by a piece at a time. In order: the one listing of a text, and a piece of it; what is written with one piece more;
-- with the last piece; the lines of a kind are read in one way; facts that an error leaves. Assumes nothing.
use Rattle.std.specs.Prelude.{◌≡◌, List, ◌++◌, ℕ, ◌+◌, ◌-◌, ◌≤◌, ◌<◌, min, length, take, drop, Option, Result, Ok, Err, OnErr}
use Rattle.std.proofs.Common.{sym, ap, ◌∙◌, arith, length-take, length-drop, take_all, take-add, take-append-drop, append_assoc}
use Rattle.laws.specs.document.Laid.{Laid}
use Rattle.laws.specs.Laying.{laid-front}
use Rattle.texts.specs.document.Text.{Format}
use Rattle.texts.specs.Sound.{Once}
use Rattle.texts.specs.Theorems.{one_reading}
use Rattle.lines.specs.Plain.{plain_once}
use Rattle.named_lines.specs.NamedSound.{named_once}
use Rattle.listing_text.specs.declared.Kind.{Kind}
use Rattle.listing_text.specs.declared.Kind.TheVariants.{Plain, Named}
use Rattle.listing_text.specs.document.Listing.{longest, listed, Listing, longer, lines, ListsOf}
use Rattle.listing_text.specs.Steps.{lines_of_kind}
use Rattle.listing_text.specs.Window.{take_least}
use Rattle.std.specs.Io.KnownBytes.{Consumes, IsAtEnd}
use Rattle.listings.specs.Answered.{most, Begun, Stopped, writing}

module _ {A F : Type 0} (format : Format A F) (once : Once format.Formed) where
  one_listing : (t l m : List ℕ) → Listing format t l → Listing format t m → l ≡ m
  one_listing t l m (longer h e) (longer k f) = e ∙ sym f
  one_listing t l m (longer h e) (lines ps k b f) = absurd (omega arith)
  one_listing t l m (lines os h a e) (longer k f) = absurd (omega arith)
  one_listing t l m (lines os h a e) (lines ps k b f) = e ∙ ap listed (one_reading format once t os ps a b) ∙ sym f

  module _ (t l old new : List ℕ) (from n : ℕ) (h : Listing format t l) (p : ListsOf format t old new from n) where
    piece_of : Laid (take (length old) (drop from l)) old new n
    piece_of = rw (one_listing t l p.listing h p.right) p.piece

    many : n ≡ min (length old) (length l - from)
    many = piece_of.count ∙ length-take (length old) (drop from l) ∙ ap (min (length old)) (length-drop from l)

    -- with a piece more
    pub more_written : (w : List ℕ) → w ≡ take from l → w ++ take n new ≡ take (from + n) l
    more_written w e =
        let d : List ℕ = drop from l in
        let front : take n new ≡ take n d =
        laid-front (take (length old) d) old new n piece_of.lies (sym piece_of.count) ∙ take_least d (length old) n (many ∙ ap (min (length old)) (sym (length-drop from l))) in
        rw (e, front) (sym (take-add from n l))

    -- with the last piece, which does not fill what is lent
    pub all_written : (w : List ℕ) → w ≡ take from l → n < length old → from + n ≤ most → w ++ take n new ≡ take most l
    all_written w e short within =
        let end : length l ≤ from + n = omega (arith, many) in
        let beyond : length l ≤ most = omega arith in
        more_written w e ∙ take_all (from + n) l end ∙ sym (take_all most l beyond)

pub once_of : (kind : Kind) → Once (lines_of_kind kind).format.Formed
once_of (Plain limit) = plain_once
once_of Named = named_once

-- what holds whatever the outcome
pub on_err : {A E : Type 0} (r : Result A E) {P : Type 0} → P → OnErr r P
on_err (Ok a) p = tt
on_err (Err e) p = p

-- a writer's error, behind a text that was taken
pub stopped :
    {A F V E : Type 0} (format : Format A F) (t : List ℕ) (had left held holds : Option (List ℕ)) (r : Result V E) → Consumes had left t → (length t ≤ longest → IsAtEnd left)
    → OnErr r (Begun format t held holds) → OnErr r (Stopped format had left held holds)
stopped format t had left held holds (Ok a) taken whole b = tt
stopped format t had left held holds (Err e) taken whole b = writing t taken whole b

-- a part of a piece behind what is written
pub begins_listing : (l w x y : List ℕ) (k : ℕ) → w ++ (x ++ y) ≡ take k l → l ≡ (w ++ x) ++ (y ++ drop k l)
begins_listing l w x y k e =
    sym (take-append-drop k l) ∙ ap (λ z. z ++ drop k l) (sym e ∙ sym (append_assoc w x y)) ∙ append_assoc (w ++ x) y (drop k l)
