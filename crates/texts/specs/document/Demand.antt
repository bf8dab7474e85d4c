-- Demand 3: "take any accepted skeletons, written as lines of centred codes, and change one byte of the text: replaced by a different one,
-- lost, or one put in anywhere. The reader then gives at least one refusal, hands out only records that were written, in their written
-- order, and loses at most two of them. After damage of any size, take a line feed of the clean text that survived, with all text behind it
-- unharmed to the end: the lines behind it are answered as in the clean text."
--
-- All of it is said of a kind of line, which is the parameter: plain lines in each edition are one (`Demand` of the crate `zurkhovel`), named lines
-- another (`NamedDemand` of the crate `named_lines`). In order: numbers of records and lines; a kind of line; the clean text, and the records written;
-- what a caller sees of a text that is read in turns; what the clean text is answered; the first sentence; the second; that a caller reaches the end of a
-- text. A statement is an abbreviation here, as `OneByteChanged`, and is proved in `Demanded`, there `one-byte_changed`. What one changed byte is
-- (`Change`), and records among others in their order (`Among`), is in `Damage`. Assumes nothing.
use Rattle.std.specs.Prelude.{◌≡◌, List, [], ◌∷◌, ◌++◌, map, ℕ, zero, suc, ◌+◌, ◌*◌, ◌≤◌, ◌<◌, length, get_or, take, drop, replicate}
use Rattle.std.proofs.Math.Logic.{ite}
use Rattle.std.proofs.Math.Decide.{ℕ_discrete}
use Rattle.texts.specs.document.Text.{Format, text_of}
use Rattle.texts.specs.document.Lent.{Lent, Has, ReadsText}
use Rattle.texts.specs.document.Damage.{Change, Among}

-- ---- numbers of records and lines

-- "R records, and F refused lines": how many of the answers' numbers are 0, and how many are not
unfoldable pub zeros : List ℕ → ℕ
zeros [] = 0
zeros (zero ∷ ns) = suc (zeros ns)
zeros (suc n ∷ ns) = zeros ns

-- read records, and refused lines
pub record Counted (numbers : List ℕ) (read refused : ℕ) : Type 0 where
  pub records : read ≡ zeros numbers
  pub others : read + refused ≡ length numbers

-- what `count` tells of each turn's numbers adds up to what it tells of all
abbrev pub CountsAdd : Type 0
CountsAdd = (ns ms : List ℕ) (r f s g : ℕ) → Counted ns r f → Counted ms s g → Counted (ns ++ ms) (r + s) (f + g)

-- how many lines a text has: its line feeds, and one more where bytes follow the last; so the last byte counts, whatever it is
unfoldable pub lines_in : List ℕ → ℕ
lines_in [] = 0
lines_in (b ∷ []) = 1
lines_in (b ∷ c ∷ t) = ite (ℕ_discrete b 10) 1 0 + lines_in (c ∷ t)

-- ---- a kind of line

-- A kind of line, as a caller meets it: its format; what is lent for its records; the record that a place and the bytes of a line's block in each area
-- show; which bytes a writer gives for a record.
pub record Kind (A F : Type 0) : Type 1 where
  pub format : Format A F
  pub lent : Lent A
  pub shown : ℕ → List (List ℕ) → A
  pub Gives : List ℕ → A → Type 0

-- the bytes of each area, and behind them those of another list of areas
abbrev pub joined : List (List ℕ) → List (List ℕ) → List (List ℕ)
joined [] ds = []
joined (b ∷ bs) [] = []
joined (b ∷ bs) (d ∷ ds) = (b ++ d) ∷ joined bs ds

module _ {A F : Type 0} (kind : Kind A F) where
  -- ---- the clean text

  -- the clean text of records: what a writer gives for each, one behind the other
  pub data Clean : List ℕ → List A → Type 0 where
    none : Clean [] []
    one_more : {b t : List ℕ} {c : A} {cs : List A} → kind.Gives b c → Clean t cs → Clean (b ++ t) (c ∷ cs)

  -- it is a line for each record written
  abbrev pub CleanLines : Type 0
  CleanLines = (t : List ℕ) (cs : List A) → Clean t cs → t ≡ text_of kind.format.body cs

  -- ---- what a caller sees

  -- a call that reads the text t: recs, num and pla before, recs', num' and pla' after; k lines are read, up to the place `at`
  abbrev pub CallReads : List ℕ → List (List ℕ) → List ℕ → List ℕ → List (List ℕ) → List ℕ → List ℕ → ℕ → ℕ → Type 0
  CallReads t recs num pla recs' num' pla' k at = ReadsText kind.format kind.lent t recs num pla recs' num' pla' k at

  -- of each area, what is lent for k lines
  abbrev pub of_lines : ℕ → List (List ℕ) → List (List ℕ)
  of_lines k recs = map (take (kind.lent.width * k)) recs

  -- The text u is read in turns to its end: each turn is a call that goes on at the last one's `at`. Of k lines that a turn reads, the caller sees k
  -- numbers, k places and the bytes lent for k lines in each area; ns, ps and bs are those of all turns.
  pub data InTurns : List ℕ → List ℕ → List ℕ → List (List ℕ) → Type 0 where
    ended : InTurns [] [] [] (map (λ v. []) kind.lent.views)
    turn :
        {u : List ℕ} {recs : List (List ℕ)} {num pla : List ℕ} {recs' : List (List ℕ)} {num' pla' ns ps : List ℕ} {bs : List (List ℕ)} {k at : ℕ}
        → CallReads u recs num pla recs' num' pla' k at → InTurns (drop at u) ns ps bs
        → InTurns u (take k num' ++ ns) (take k pla' ++ ps) (joined (of_lines k recs') bs)

  -- the records handed out: where a number is 0, what the place and the line's bytes in each area show
  unfoldable pub handed_out : List ℕ → List ℕ → List (List ℕ) → List A
  handed_out [] ps bs = []
  handed_out (n ∷ ns) [] bs = []
  handed_out (zero ∷ ns) (p ∷ ps) bs = kind.shown p (map (take kind.lent.width) bs) ∷ handed_out ns ps (map (drop kind.lent.width) bs)
  handed_out (suc n ∷ ns) (p ∷ ps) bs = handed_out ns ps (map (drop kind.lent.width) bs)

  -- one call that reads a text to its end is a turn
  abbrev pub OneCall : Type 0
  OneCall =
      (u : List ℕ) (recs : List (List ℕ)) (num pla : List ℕ) (recs' : List (List ℕ)) (num' pla' : List ℕ) (k at : ℕ)
      → CallReads u recs num pla recs' num' pla' k at → at ≡ length u → InTurns u (take k num') (take k pla') (of_lines k recs')

  -- whatever is lent for each turn, the numbers, the places and the records handed out are the same
  abbrev pub TurnsAgree : Type 0
  TurnsAgree =
      (u ns ps : List ℕ) (bs : List (List ℕ)) (ns' ps' : List ℕ) (bs' : List (List ℕ)) → InTurns u ns ps bs → InTurns u ns' ps' bs'
      → (ns ≡ ns') × (ps ≡ ps') × (handed_out ns ps bs ≡ handed_out ns' ps' bs')

  -- ---- what the clean text is answered

  -- a 0 for each of the records cs; they are handed out, each in its order; no refusal is counted
  pub record Unharmed (cs : List A) (ns ps : List ℕ) (bs : List (List ℕ)) : Type 0 where
    pub numbers : ns ≡ replicate (length cs) 0
    pub places : ps ≡ map kind.lent.long cs
    pub handed : handed_out ns ps bs ≡ cs
    pub counts : (read refused : ℕ) → Counted ns read refused → (read ≡ length cs) × (refused ≡ 0)

  -- the clean text is answered so, in whatever turns it is read
  abbrev pub CleanText : Type 0
  CleanText = (t ns ps : List ℕ) (bs : List (List ℕ)) (cs : List A) → Clean t cs → InTurns t ns ps bs → Unharmed cs ns ps bs

  -- ---- the first sentence

  -- Some number is not 0; the records handed out are among the records cs, in their order; at most two are missing; as many are counted as
  -- read, and at least one line as refused.
  pub record Survives (cs : List A) (ns ps : List ℕ) (bs : List (List ℕ)) : Type 0 where
    pub some_refused : (i : ℕ) × (i < length ns) × (get_or ns i 0 ≡ 0 → ⊥)
    pub ordered : Among (handed_out ns ps bs) cs
    pub loses : length cs ≤ length (handed_out ns ps bs) + 2
    pub counts : (read refused : ℕ) → Counted ns read refused → (read ≡ length (handed_out ns ps bs)) × (1 ≤ refused)

  -- so is a text in which one byte of the clean text was changed
  abbrev pub OneByteChanged : Type 0
  OneByteChanged = (t u ns ps : List ℕ) (bs : List (List ℕ)) (cs : List A) → Clean t cs → Change t u → InTurns u ns ps bs → Survives cs ns ps bs

  -- ---- the second sentence

  -- Behind the line feed stands y, the clean text of the last records, `behind`. The last answers are these, as in the clean text: a 0 for each,
  -- and the record handed out. What is seen before them is what a caller sees who reads z, all that stands before, and the line feed by
  -- themselves.
  pub record AnsweredBehind (cs : List A) (y z ns ps : List ℕ) (bs : List (List ℕ)) : Type 0 where
    pub earlier : List A
    pub behind : List A
    pub parts : cs ≡ earlier ++ behind
    pub clean : Clean y behind
    pub numbers-before : List ℕ
    pub places-before : List ℕ
    pub handed-before : List A
    pub numbers : ns ≡ numbers-before ++ replicate (length behind) 0
    pub places : ps ≡ places-before ++ map kind.lent.long behind
    pub handed : handed_out ns ps bs ≡ handed-before ++ behind
    pub by_itself :
        (ns' ps' : List ℕ) (bs' : List (List ℕ)) → InTurns (z ++ (10 ∷ [])) ns' ps' bs'
        → (ns' ≡ numbers-before) × (ps' ≡ places-before) × (handed_out ns' ps' bs' ≡ handed-before)

  -- of the clean text a line feed is left with y behind it, and anything, z, before it
  abbrev pub AnyDamage : Type 0
  AnyDamage =
      (x y z ns ps : List ℕ) (bs : List (List ℕ)) (cs : List A) → Clean (x ++ (10 ∷ y)) cs → InTurns (z ++ (10 ∷ y)) ns ps bs
      → AnsweredBehind cs y z ns ps bs

  -- ---- reaching the end

  -- each line is answered once
  abbrev pub AnswersEachLine : Type 0
  AnswersEachLine = (u ns ps : List ℕ) (bs : List (List ℕ)) → InTurns u ns ps bs → length ns ≡ lines_in u

  -- a caller who lends room in each area, a number and a place for each line reaches the end in one call
  abbrev pub ReachesTheEnd : Type 0
  ReachesTheEnd =
      (u : List ℕ) (recs : List (List ℕ)) (num pla : List ℕ) (recs' : List (List ℕ)) (num' pla' : List ℕ) (k at : ℕ)
      → CallReads u recs num pla recs' num' pla' k at → Has (kind.lent.width * lines_in u) recs → lines_in u ≤ length num → lines_in u ≤ length pla
      → (k ≡ lines_in u) × (at ≡ length u)

  -- a turn at the text t, with room for a line at least
  pub record Turn (t : List ℕ) : Type 0 where
    pub recs : List (List ℕ)
    pub num : List ℕ
    pub pla : List ℕ
    pub recs' : List (List ℕ)
    pub num' : List ℕ
    pub pla' : List ℕ
    pub k : ℕ
    pub at : ℕ
    pub read : CallReads t recs num pla recs' num' pla' k at
    pub room : Has kind.lent.width recs × (1 ≤ length num) × (1 ≤ length pla)

  -- such a turn gets on where text is left
  abbrev pub GetsOn : Type 0
  GetsOn = (t : List ℕ) (a : Turn t) → 1 ≤ length t → (1 ≤ a.k) × (length (drop a.at t) < length t)

  -- so turns reach the end
  abbrev pub TurnsEnd : Type 0
  TurnsEnd = ((t : List ℕ) → Turn t) → (u : List ℕ) → (ns : List ℕ) × (ps : List ℕ) × (bs : List (List ℕ)) × InTurns u ns ps bs
