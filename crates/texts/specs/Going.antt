-- From one line of a text to the next: what the loop of a reader into lent areas keeps. Which lines they are, and what is lent for them, are
-- parameters. Assumes nothing.
use Rattle.std.specs.Prelude.{◌≡◌, refl, List, [], ◌∷◌, map, ℕ, ◌+◌, ◌*◌, ◌-◌, ◌≤◌, ◌<◌, length, take, drop, set}
use Rattle.std.proofs.Common.{ap, subst, mul-suc, mul-le-mul_left, arith, length-take, length-drop}
use borrow.Rule.Slice.PartMut.{mid_of, put_mid}
use Rattle.refusal.specs.document.Table.{Outcome}
use Rattle.texts.specs.document.Text.{Format}
use Rattle.texts.specs.document.Lent.{Lent, Has, EachArea, block, number_of, place_of, ReadsLine, ReadSoFar, ReadsText}
use Rattle.texts.specs.Sound.{Once}
use Rattle.texts.specs.Ending.{Behind, rest_is}
use Rattle.texts.specs.Taking.{has_less, FoundLine, Wide, line_read}
use Rattle.texts.specs.Turns.{AllRoom, read_more, read_lengths}

-- ---- a part of each area

-- the n bytes at b of each area
abbrev pub mid_each : ℕ → ℕ → List (List ℕ) → List (List ℕ)
mid_each b n recs = map (mid_of b n) recs

-- and other bytes in their place
abbrev pub put_each : ℕ → ℕ → List (List ℕ) → List (List ℕ) → List (List ℕ)
put_each b n [] news = []
put_each b n (rec ∷ recs) [] = []
put_each b n (rec ∷ recs) (new ∷ news) = put_mid b n rec new ∷ put_each b n recs news

has_mid : (b n : ℕ) (recs : List (List ℕ)) → Has (b + n) recs → Has n (mid_each b n recs)
has_mid b n [] h = tt
has_mid b n (rec ∷ recs) h = (simp (length-take, length-drop) (omega (arith, h.0)), has_mid b n recs h.1)

module _ {A : Type 0} where
  -- areas of the same lengths have as many bytes
  has_same : (n : ℕ) (vs : List (A → List ℕ)) (olds news : List (List ℕ)) → EachArea (λ v old new. length new ≡ length old) vs olds news → Has n olds → Has n news
  has_same n [] [] [] e h = tt
  has_same n [] [] (new ∷ news) e h = absurd e
  has_same n [] (old ∷ olds) news e h = absurd e
  has_same n (v ∷ vs) [] news e h = absurd e
  has_same n (v ∷ vs) (old ∷ olds) [] e h = absurd e
  has_same n (v ∷ vs) (old ∷ olds) (new ∷ news) e h = (omega (arith, e.0, h.0), has_same n vs olds news e.1 h.1)

  -- the parts are of as many areas
  matched_mid :
      (b n : ℕ) (vs : List (A → List ℕ)) (olds news : List (List ℕ)) → EachArea (λ v old new. length new ≡ length old) vs olds news
      → EachArea (λ v old new. new ≡ old) vs (mid_each b n news) (mid_each b n news)
  matched_mid b n [] [] [] e = tt
  matched_mid b n [] [] (new ∷ news) e = absurd e
  matched_mid b n [] (old ∷ olds) news e = absurd e
  matched_mid b n (v ∷ vs) [] news e = absurd e
  matched_mid b n (v ∷ vs) (old ∷ olds) [] e = absurd e
  matched_mid b n (v ∷ vs) (old ∷ olds) (new ∷ news) e = (refl, matched_mid b n vs olds news e.1)

  -- what is put into the parts is put into the areas
  puts_each :
      (b n : ℕ) (o : Outcome A) (vs : List (A → List ℕ)) (recs news : List (List ℕ)) → EachArea (λ v old new. new ≡ block v o old) vs (mid_each b n recs) news
      → EachArea (λ v old new. new ≡ put_mid b n old (block v o (mid_of b n old))) vs recs (put_each b n recs news)
  puts_each b n o [] [] [] e = tt
  puts_each b n o [] [] (new ∷ news) e = absurd e
  puts_each b n o [] (rec ∷ recs) news e = absurd e
  puts_each b n o (v ∷ vs) [] news e = absurd e
  puts_each b n o (v ∷ vs) (rec ∷ recs) [] e = absurd e
  puts_each b n o (v ∷ vs) (rec ∷ recs) (new ∷ news) e = (ap (put_mid b n rec) e.0, puts_each b n o vs recs news e.1)

-- ---- the loop

-- `many` lines find room: w bytes in each area, a number and a place for each line; and no further line does
pub record RoomFor (w : ℕ) (recs : List (List ℕ)) (num pla : List ℕ) (many : ℕ) : Type 0 where
  pub enough : Has (w * many) recs × (many ≤ length num) × (many ≤ length pla)
  pub no_more : Has (w * many + w) recs → many < length num → many < length pla → ⊥

-- a text has the form in one way, and what is lent for a line is enough for a record
pub record Spacious {A F : Type 0} (format : Format A F) (lent : Lent A) : Type 0 where
  pub once : Once format.Formed
  pub fits : AllRoom format lent.width lent.views
  pub wide : Wide format lent once

-- before line k + 1, with room for `many`
pub record Going
    {A F : Type 0} (format : Format A F) (lent : Lent A) (text : List ℕ) (recs₀ : List (List ℕ)) (num₀ pla₀ : List ℕ) (many : ℕ) (recs : List (List ℕ))
    (num pla : List ℕ) (k at : ℕ) : Type 0 where
  pub read : ReadSoFar format lent text recs₀ num₀ pla₀ recs num pla k at
  pub room : RoomFor lent.width recs₀ num₀ pla₀ many
  pub below : k ≤ many

module _
    {A F : Type 0} {format : Format A F} {lent : Lent A} (s : Spacious format lent) {text : List ℕ} {recs₀ : List (List ℕ)} {num₀ pla₀ : List ℕ} {many : ℕ}
    {recs : List (List ℕ)} {num pla : List ℕ} {k at : ℕ} (g : Going format lent text recs₀ num₀ pla₀ many recs num pla k at) where
  -- what is lent keeps its length
  pub lengths : EachArea (λ v old new. length new ≡ length old) lent.views recs₀ recs × (length num ≡ length num₀) × (length pla ≡ length pla₀)
  lengths = read_lengths format lent s.once s.fits g.read

  room-first : k < many → Has (lent.width * k + lent.width) recs₀
  room-first l =
      let m = mul-le-mul_left lent.width l in
      has_less (lent.width * k + lent.width) (lent.width * many) (omega (arith, mul-suc lent.width k)) recs₀ g.room.enough.0

  -- there is room for one line more
  pub room_now : k < many → Has (lent.width * k + lent.width) recs × (k < length num) × (k < length pla)
  room_now l =
      let n = lengths in
      let r = g.room.enough in
      (has_same (lent.width * k + lent.width) lent.views recs₀ recs n.0 (room-first l), omega arith, omega arith)

  -- one line more is found, with the answer o
  found-more :
      {to : ℕ} {news : List (List ℕ)} {o : Outcome ℕ} → k < many → at < length text
      → FoundLine format lent s.once (drop at text) (mid_each (lent.width * k) lent.width recs) news o → Behind text at to
      → Going format lent text recs₀ num₀ pla₀ many (put_each (lent.width * k) lent.width recs news) (set num k (number_of o)) (set pla k (place_of o)) (k + 1) to
  found-more {news = news} l m f b =
      let r = g.room.enough in
      record {
        read =
            read_more format lent s.once s.fits g.read m (room-first l, omega arith, omega arith) b f.line f.told refl
            (puts_each (lent.width * k) lent.width f.answer lent.views recs news f.lies);
        room = g.room;
        below = omega arith;
      }

  -- as it is read into the parts that are lent for it
  pub going_more :
      {to : ℕ} {news : List (List ℕ)} {num' pla' : List ℕ} {o : Outcome ℕ} → k < many → at < length text
      → ReadsLine format lent (take (length text - at) (drop at text)) (mid_each (lent.width * k) (lent.width * k + lent.width - lent.width * k) recs) news o
      → (num' ≡ set num k (number_of o)) × (pla' ≡ set pla k (place_of o)) → Behind text at to
      → Going format lent text recs₀ num₀ pla₀ many (put_each (lent.width * k) (lent.width * k + lent.width - lent.width * k) recs news) num' pla' (k + 1) to
  going_more {news = news} {o = o} l m h e b =
      let w = lent.width in
      let q : w * k + w - w * k ≡ w = omega arith in
      let h' : ReadsLine format lent (drop at text) (mid_each (w * k) w recs) news o = rw (rest_is text at, q) at h in
      rw (e.0, e.1, q)
      (found-more l m
      (line_read format lent s.once s.wide (mid_each (w * k) w recs) (has_mid (w * k) w recs (room_now l).0) (matched_mid (w * k) w lent.views recs₀ recs lengths.0) h') b)

module _
    {A F : Type 0} {format : Format A F} {lent : Lent A} {text : List ℕ} {recs₀ : List (List ℕ)} {num₀ pla₀ : List ℕ} {many : ℕ}
    {recs : List (List ℕ)} {num pla : List ℕ} {k at : ℕ} (g : Going format lent text recs₀ num₀ pla₀ many recs num pla k at) where
  pub not_past : (at ≡ length text → ⊥) → at < length text
  not_past n = omega (arith, g.read.within)

  pub at-end : at ≡ length text → ReadsText format lent text recs₀ num₀ pla₀ recs num pla k at
  at-end e = record { read = g.read; stops = λ l a b c. let z : ⊥ = omega arith in z }

  pub no_room : many ≤ k → ReadsText format lent text recs₀ num₀ pla₀ recs num pla k at
  no_room l =
      let e : k ≡ many = omega (arith, g.below) in
      record { read = g.read; stops = λ m a b c. g.room.no_more (subst (λ (i : ℕ). Has (lent.width * i + lent.width) recs₀) e a) (omega arith) (omega arith) }
