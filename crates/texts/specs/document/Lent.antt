-- Document 01, "Lines": "Reading a line takes a text up to its first line feed, looks at nothing behind it, and writes the digits as
-- values. Demand 3 is about the library's reader, which does this line after line over a text of any length, with 64 bytes of output
-- lent for each line."
--
-- A record is handed out in one or more lent areas, of which each shows a part of it: `Lent` says which. In order: what is lent; what is said of
-- each area; what lines leave in one; the promise of reading a line into lent areas; reading the first lines of a text.
-- That these promises allow one result, and what a reader's proof cites, is in `Taking` and `Turns`. Assumes nothing.
use Rattle.std.specs.Prelude.{◌≡◌, ◌⊎◌, List, [], ◌∷◌, ◌++◌, map, ℕ, ◌+◌, ◌*◌, ◌≤◌, ◌<◌, length, take, drop}
use Rattle.laws.specs.document.Laid.{laid_over}
use Rattle.refusal.specs.document.Table.{Row, Outcome, gives, refuses, Promise}
use Rattle.texts.specs.document.Bytes.{Free, Cut}
use Rattle.texts.specs.document.Text.{Format, of_line, line_rows, LineCarries, LineAnswers}

-- What is lent for records: `width` bytes for each in every area; the part of a record that each area shows; how many bytes a record takes in
-- each.
pub record Lent (A : Type 0) : Type 0 where
  pub width : ℕ
  pub views : List (A → List ℕ)
  pub long : A → ℕ

-- each area has n bytes
abbrev pub Has : ℕ → List (List ℕ) → Type 0
Has n [] = Unit {0}
Has n (old ∷ olds) = (n ≤ length old) × Has n olds

-- some area has fewer than n bytes
abbrev pub Short : ℕ → List (List ℕ) → Type 0
Short n [] = ⊥
Short n (old ∷ olds) = (length old < n) ⊎ Short n olds

-- P holds of each area: of the part that it shows, and of what it holds before and after
abbrev pub EachArea : {A : Type 0} → ((A → List ℕ) → List ℕ → List ℕ → Type 0) → List (A → List ℕ) → List (List ℕ) → List (List ℕ) → Type 0
EachArea P [] [] [] = Unit {0}
EachArea P [] [] (new ∷ news) = ⊥
EachArea P [] (old ∷ olds) news = ⊥
EachArea P (v ∷ vs) [] news = ⊥
EachArea P (v ∷ vs) (old ∷ olds) [] = ⊥
EachArea P (v ∷ vs) (old ∷ olds) (new ∷ news) = P v old new × EachArea P vs olds news

-- what a line leaves in what was lent for it, in an area that shows v
unfoldable pub block : {A : Type 0} → (A → List ℕ) → Outcome A → List ℕ → List ℕ
block v (gives c) old = laid_over (v c) old
block v (refuses k p) old = old

-- what lines leave in what was lent, w bytes for each
unfoldable pub blocks : {A : Type 0} → ℕ → (A → List ℕ) → List (Outcome A) → List ℕ → List ℕ
blocks w v [] old = old
blocks w v (o ∷ os) old = block v o (take w old) ++ blocks w v os (drop w old)

-- an answer as a call tells it: for a record, how many bytes are written
unfoldable pub counted : {A : Type 0} → (A → ℕ) → Outcome A → Outcome ℕ
counted long (gives c) = gives (long c)
counted long (refuses k p) = refuses k p

-- its number, 0 for a record
abbrev pub number_of : Outcome ℕ → ℕ
number_of (gives n) = 0
number_of (refuses k p) = k

-- its place, for a record the number of its bytes
abbrev pub place_of : Outcome ℕ → ℕ
place_of (gives n) = n
place_of (refuses k p) = p

module _ {A F : Type 0} (format : Format A F) where
  -- the first lines of t are answered by os, and rest is what follows them
  pub data Taken : List ℕ → List (Outcome A) → List ℕ → Type 0 where
    none : {t : List ℕ} → Taken t [] t
    unfinished : {t : List ℕ} {o : Outcome A} → 1 ≤ length t → Free 10 t → LineAnswers format t o → Taken t (o ∷ []) []
    next : {t b rest more : List ℕ} {o : Outcome A} {os : List (Outcome A)} → Cut 10 t b rest → LineAnswers format t o →
        Taken rest os more → Taken t (o ∷ os) more

module _ {A F : Type 0} (format : Format A F) (lent : Lent A) where
  -- 15: an area that is lent is too short for the record; the place is the length needed
  abbrev pub line_row15 : List ℕ → List (List ℕ) → Row
  line_row15 t olds =
      of_line format.Formed t (record { number = 15; applies = λ q p. (p ≡ lent.long (format.carries q)) × Short (lent.long (format.carries q)) olds })

  -- the first line of t carries a record of n bytes, and each area shows its part from the start
  pub record Hands (t : List ℕ) (olds : List (List ℕ)) (n : ℕ) (news : List (List ℕ)) : Type 0 where
    pub result : A
    pub right : LineCarries format t result
    pub count : n ≡ lent.long result
    pub lies : EachArea (λ v old new. new ≡ laid_over (v result) old) lent.views olds news

  -- reading the first line of t into lent areas
  abbrev pub ReadsLine : List ℕ → List (List ℕ) → List (List ℕ) → Outcome ℕ → Type 0
  ReadsLine t olds news o = Promise (line_rows format t ++ (line_row15 t olds ∷ [])) (Hands t olds) olds news o

  -- Reading lines of t into what is lent: the areas, and a number and a place for each line. k lines are read, and t is read up to `at`.
  pub record ReadSoFar (t : List ℕ) (recs : List (List ℕ)) (num pla : List ℕ) (recs' : List (List ℕ)) (num' pla' : List ℕ) (k at : ℕ) : Type 0 where
    pub answers : List (Outcome A)
    pub taken : Taken format t answers (drop at t)
    pub within : at ≤ length t
    pub count : k ≡ length answers
    pub room : Has (lent.width * k) recs × (k ≤ length num) × (k ≤ length pla)
    pub records : EachArea (λ v old new. new ≡ blocks lent.width v answers old) lent.views recs recs'
    pub numbers : num' ≡ laid_over (map (λ o. number_of (counted lent.long o)) answers) num
    pub places : pla' ≡ laid_over (map (λ o. place_of (counted lent.long o)) answers) pla

  -- and t is read as far as what is lent allows
  pub record ReadsText (t : List ℕ) (recs : List (List ℕ)) (num pla : List ℕ) (recs' : List (List ℕ)) (num' pla' : List ℕ) (k at : ℕ) : Type 0 where
    pub read : ReadSoFar t recs num pla recs' num' pla' k at
    pub stops : at < length t → Has (lent.width * k + lent.width) recs → k < length num → k < length pla → ⊥
