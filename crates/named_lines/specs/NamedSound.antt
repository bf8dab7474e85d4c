-- Named lines are a sound format, so both sentences of demand 3 hold for lists of them. In order: what the letters' counts tell; a text has the
-- form in one way; reading undoes writing; the parts are tied; the theorems.
--
-- Of an accepted code this uses the sum of its digits, and rows 5 and 21. From the digits the count, from the count the digits' number and, by
-- the rows, their sum; from the letters their counts, and from the counts the letters' number and sum. Assumes nothing.
use Rattle.std.specs.Prelude.{◌≡◌, ℕ, ◌+◌, ◌*◌, ◌≤◌, ◌<◌, length}
use Rattle.std.proofs.Math.Path.{refl, ap, ap₂}
use Rattle.std.proofs.Common.{sym, subst, ◌∙◌, inr, arith}
use Rattle.std.proofs.Math.Logic.{⊎_elim, if_pos, if_neg}
use mathlib.Core.List.{List, [], ◌∷◌}
use Rattle.std.proofs.Math.Decide.{ℕ_discrete}
use Rattle.digit_code.specs.document.Code.{sum}
use Rattle.refusal.specs.document.Table.{Row, Clear}
use Rattle.refusal.specs.Laws.{never, others, clear_one, clear_both}
use Rattle.laws.specs.document.Each.{Each}
use Rattle.texts.specs.document.Numerals.{figures, decimal, Digits, IsCount}
use Rattle.texts.specs.document.Text.{PartRow, through}
use Rattle.texts.specs.Judging.{judged, judged-through, none}
use Rattle.texts.specs.Damage.{Accept}
use Rattle.texts.specs.Sound.{Once, Reads, Sound}
use Rattle.laws.specs.Each.{each_follows}
use Rattle.texts.specs.Numerals.{length_figures, sum-figures, same-figures, decimal-counts, count-decimal, count_some, one-count, marks-figures, marks-count}
use Rattle.texts.specs.Numbers.{one_number, marks-number}
use Rattle.texts.proofs.Numbers.{number-decimal, decimal-number}
use Rattle.texts.specs.document.Parts.{spaced, tally}
use Rattle.texts.specs.Spaced.{Marks, Marked, Alike, Tied, same_parts}
use Rattle.texts.proofs.Parted.{parted_sound}
use Rattle.texts.specs.Turns.{AllRoom}
use Rattle.texts.specs.Going.{Spacious}
use Rattle.lines.specs.document.Line.{Front, row3-line, row5_line}
use Rattle.lines.specs.Plain.{same-front}
use Rattle.skeleton.specs.document.Atom.{Atom, C, N, O, letter, Letter}
use Rattle.named_lines.specs.document.Named.{Named, named_body, Parts, NamedFormed, Matches, row21, carried, parts_of, lines_of_named, named_lent}

-- ---- the letters and their counts

-- the counts of the letters fix their number and their sum
pub record Told (t : List ℕ) : Type 0 where
  pub number : length t ≡ tally 67 t + tally 78 t + tally 79 t
  pub total : sum t ≡ 67 * tally 67 t + 78 * tally 78 t + 79 * tally 79 t

pub told : (t : List ℕ) → Each Letter t → Told t
unfolding tally sum
told [] l = record { number = refl; total = refl }
told (b ∷ t) l = go l.0 (told t l.1)
  where
    is : (a : ℕ) → b ≡ a → tally a (b ∷ t) ≡ 1 + tally a t
    is a e = omega (arith, if_pos {C = ℕ} (ℕ_discrete b a) e 1 0)

    not : (a : ℕ) → (b ≡ a → ⊥) → tally a (b ∷ t) ≡ tally a t
    not a n = omega (arith, if_neg {C = ℕ} (ℕ_discrete b a) n 1 0)

    go : Letter b → Told t → Told (b ∷ t)
    go (C, e) r =
        let x = is 67 e in
        let y = not 78 (λ q. omega arith) in
        let z = not 79 (λ q. omega arith) in
        record { number = omega (arith, r.number); total = omega (arith, r.total) }
    go (N, e) r =
        let x = not 67 (λ q. omega arith) in
        let y = is 78 e in
        let z = not 79 (λ q. omega arith) in
        record { number = omega (arith, r.number); total = omega (arith, r.total) }
    go (O, e) r =
        let x = not 67 (λ q. omega arith) in
        let y = not 78 (λ q. omega arith) in
        let z = is 79 e in
        record { number = omega (arith, r.number); total = omega (arith, r.total) }

pub marks-letters : (t : List ℕ) → Each Letter t → Marks t
marks-letters t l = each_follows {P = Letter} (λ b h. above h.0 b h.1) t l
  where
    above : (a : Atom) (b : ℕ) → b ≡ letter a → 32 < b
    above C b e = omega (arith, e)
    above N b e = omega (arith, e)
    above O b e = omega (arith, e)

-- ---- a text has the form in one way

pub same-named : {p q : Parts} → p.front ≡ q.front → p.letters ≡ q.letters → p.carbons ≡ q.carbons → p.nitrogens ≡ q.nitrogens → p.oxygens ≡ q.oxygens → p ≡ q
same-named {p} {q} f l c n o =
    ap₂ {C = Parts} (λ (x : Front) (y : List ℕ). record { front = x; letters = y; carbons = p.carbons; nitrogens = p.nitrogens; oxygens = p.oxygens }) f l
    ∙ ap₂ {C = Parts} (λ (x y : ℕ). record { front = q.front; letters = q.letters; carbons = x; nitrogens = y; oxygens = p.oxygens }) c n
    ∙ ap {B = Parts} (λ (x : ℕ). record { front = q.front; letters = q.letters; carbons = q.carbons; nitrogens = q.nitrogens; oxygens = x }) o

pub formed_parts : {b : List ℕ} {q : Parts} (f : NamedFormed b q) → Marked (f.count ∷ figures q.front.digits ∷ q.letters ∷ f.c ∷ f.n ∷ f.o ∷ [])
formed_parts {q = q} f = (
  marks-count f.counts,
  (
    marks-figures q.front.digits,
    (marks-letters q.letters f.lettered, (marks-number f.says-c, (marks-number f.says-n, (marks-number f.says_o, tt)))),
  ),
)

pub named_once : Once NamedFormed
named_once b p q f g =
    let h =
    same_parts f.count (figures p.front.digits ∷ p.letters ∷ f.c ∷ f.n ∷ f.o ∷ []) g.count (figures q.front.digits ∷ q.letters ∷ g.c ∷ g.n ∷ g.o ∷ [])
    (formed_parts f) (formed_parts g) refl (sym f.parts ∙ g.parts) in
    let x : f.count ≡ g.count = cc in
    let d : figures p.front.digits ≡ figures q.front.digits = cc in
    let l : p.letters ≡ q.letters = cc in
    let c : f.c ≡ g.c = cc in
    let n : f.n ≡ g.n = cc in
    let o : f.o ≡ g.o = cc in
    same-named
    (same-front (one-count f.counts (rw x g.counts)) (same-figures p.front.digits q.front.digits d)) l
    (one_number f.says-c (rw c g.says-c)) (one_number f.says-n (rw n g.says-n)) (one_number f.says_o (rw o g.says_o))

stable : {a b : ℕ} → ((a ≡ b → ⊥) → ⊥) → a ≡ b
stable {a} {b} h = go (ℕ_discrete a b)
  where
    go : Dec (a ≡ b) → a ≡ b
    go (yes e) = e
    go (no n) = absurd (h n)

module _ (most : ℕ) (rows : List (PartRow Named)) where
  -- what the rows leave: digits as many as the count says, letters and counts that match, and digits with letters that are not refused
  pub record Left (q : Parts) : Type 0 where
    pub many : length q.front.digits ≡ q.front.count
    pub few : q.front.count ≤ most
    pub matches : Matches q
    pub clear : Clear (judged rows (carried q))

  pub parts-left : (q : Parts) → Clear (judged (lines_of_named most rows).rows q) → Left q
  parts-left q k =
      let big : most < q.front.count → ⊥ = λ l. never k 0 (refl, inr l) in
      let k21 = others (others k) in
      record {
        many = stable (λ n. never (others k) 0 (refl, n));
        few = omega arith;
        matches =
            record {
              number = stable (λ n. never k21 0 (refl, λ m. n m.number));
              c = stable (λ n. never k21 0 (refl, λ m. n m.c));
              n = stable (λ n. never k21 0 (refl, λ m. n m.n));
              o = stable (λ n. never k21 0 (refl, λ m. n m.o));
            };
        clear = subst (λ (rs : List Row). Clear rs) (judged-through carried rows q) (others k21);
      }

  -- a code with its letters that a line may carry
  pub named_accept :
      (c : Named) → 1 ≤ length c.digits → Digits c.digits → Each Letter c.letters → length c.letters ≡ length c.digits → length c.digits ≤ 99
      → length c.digits ≤ most → Clear (judged rows c) → Accept (lines_of_named most rows) c
  unfolding named_body
  named_accept c l d t e n m k =
      let r = (told c.letters t).number in
      record {
        formed =
            record {
              count = decimal (length c.digits);
              c = decimal (tally 67 c.letters);
              n = decimal (tally 78 c.letters);
              o = decimal (tally 79 c.letters);
              counts = decimal-counts (length c.digits) n;
              some = l;
              digits = d;
              some_letters = omega arith;
              lettered = t;
              says-c = decimal-number (tally 67 c.letters) (omega arith);
              says-n = decimal-number (tally 78 c.letters) (omega arith);
              says_o = decimal-number (tally 79 c.letters) (omega arith);
              parts = refl;
            };
        clear =
            clear_both {xs = judged (through (λ q. q.front) (row3-line most) ∷ []) (parts_of c)}
            (clear_one (λ p a. ⊎_elim (λ z. omega (arith, z)) (λ z. omega (arith, z)) a.1))
            (clear_both {xs = judged (through (λ q. q.front) row5_line ∷ []) (parts_of c)} (clear_one (λ p a. a.1 refl))
            (clear_both {xs = judged (row21 ∷ []) (parts_of c)} (clear_one (λ p a. a.1 (record { number = e; c = refl; n = refl; o = refl })))
            (subst (λ (rs : List Row). Clear rs) (sym (judged-through carried rows (parts_of c))) k)));
      }

  -- ---- reading undoes writing

  low : {b : List ℕ} {q : Parts} → NamedFormed b q → Matches q → (tally 67 q.letters ≤ 99) × (tally 78 q.letters ≤ 99) × (tally 79 q.letters ≤ 99)
  low {q = q} f m =
      let r = (told q.letters f.lettered).number in
      let s = (count-decimal f.counts).1 in
      let t = m.number in
      (omega arith, omega arith, omega arith)

  -- a number that says a letter's count is written as that count
  as_written : {b : List ℕ} {q : Parts} (f : NamedFormed b q) → Left q → b ≡ named_body (carried q)
  unfolding named_body
  as_written {b} {q} f r =
      let m = r.matches in
      let l = low f m in
      let x : f.count ≡ decimal (length q.front.digits) = (count-decimal f.counts).0 ∙ ap decimal (sym r.many) in
      let c : f.c ≡ decimal (tally 67 q.letters) = number-decimal f.says-c (omega (arith, l.0, m.c)) ∙ ap decimal (sym m.c) in
      let n : f.n ≡ decimal (tally 78 q.letters) = number-decimal f.says-n (omega (arith, l.1, m.n)) ∙ ap decimal (sym m.n) in
      let o : f.o ≡ decimal (tally 79 q.letters) = number-decimal f.says_o (omega (arith, l.2, m.o)) ∙ ap decimal (sym m.o) in
      f.parts
      ∙ ap₂ (λ (y z : List ℕ). spaced y (figures q.front.digits ∷ q.letters ∷ z ∷ f.n ∷ f.o ∷ [])) x c
      ∙ ap₂ (λ (y z : List ℕ). spaced (decimal (length q.front.digits)) (figures q.front.digits ∷ q.letters ∷ decimal (tally 67 q.letters) ∷ y ∷ z ∷ [])) n o

  pub named_reads : Reads (lines_of_named most rows)
  named_reads =
      record {
        first_clear = none;
        once = named_once;
        read = λ b q f k.
            let r = parts-left q k in
            let m = r.matches in
            (as_written f r, same-named (same-front (sym r.many) refl) refl (sym m.c) (sym m.n) (sym m.o));
        back = λ c. refl;
      }

  -- ---- the parts are tied

  -- counts written alike are the same
  same_count : (a b : ℕ) → a ≤ 99 → b ≤ 99 → decimal a ≡ decimal b → a ≡ b
  same_count a b l m e = one-count (decimal-counts a l) (subst (λ (x : List ℕ). IsCount x b) (sym e) (decimal-counts b m))

  alike : {f g : List ℕ} → f ≡ g → Alike f g
  alike e = (ap length e, ap sum e)

  few : (c : Named) → Accept (lines_of_named most rows) c → length c.digits ≤ 99
  few c a = (count-decimal a.formed.counts).1

  lows : (c : Named) → Accept (lines_of_named most rows) c → (tally 67 c.letters ≤ 99) × (tally 78 c.letters ≤ 99) × (tally 79 c.letters ≤ 99)
  lows c a = low a.formed (parts-left (parts_of c) a.clear).matches

  module _ (lawful : (c : Named) → Clear (judged rows c) → sum c.digits + 1 ≡ length c.digits) where
    total : (c : Named) → Accept (lines_of_named most rows) c → sum c.digits + 1 ≡ length c.digits
    total c a = lawful c (parts-left (parts_of c) a.clear).clear

    -- the parts behind the count
    abbrev behind : Named → List (List ℕ)
    behind c = figures c.digits ∷ c.letters ∷ decimal (tally 67 c.letters) ∷ decimal (tally 78 c.letters) ∷ decimal (tally 79 c.letters) ∷ []

    module _ (c d : Named) (a : Accept (lines_of_named most rows) c) (b : Accept (lines_of_named most rows) d) where
      count-alike : behind c ≡ behind d → Alike (decimal (length c.digits)) (decimal (length d.digits))
      count-alike e =
          let f : figures c.digits ≡ figures d.digits = cc in
          alike (ap (λ (x : List ℕ). decimal (length x)) (same-figures c.digits d.digits f))

      digits-alike : decimal (length c.digits) ≡ decimal (length d.digits) → Alike (figures c.digits) (figures d.digits)
      digits-alike e =
          let n = same_count (length c.digits) (length d.digits) (few c a) (few d b) e in (
            omega (arith, length_figures c.digits, length_figures d.digits),
            omega (arith, sum-figures c.digits, sum-figures d.digits, total c a, total d b),
          )

      letters-alike :
          ◌≡◌ {A = List (List ℕ)} (decimal (tally 67 c.letters) ∷ decimal (tally 78 c.letters) ∷ decimal (tally 79 c.letters) ∷ [])
          (decimal (tally 67 d.letters) ∷ decimal (tally 78 d.letters) ∷ decimal (tally 79 d.letters) ∷ []) → Alike c.letters d.letters
      letters-alike e =
          let l = lows c a in
          let m = lows d b in
          let x = same_count (tally 67 c.letters) (tally 67 d.letters) l.0 m.0 (cc) in
          let y = same_count (tally 78 c.letters) (tally 78 d.letters) l.1 m.1 (cc) in
          let z = same_count (tally 79 c.letters) (tally 79 d.letters) l.2 m.2 (cc) in
          let p = told c.letters a.formed.lettered in
          let q = told d.letters b.formed.lettered in
          (omega (arith, p.number, q.number), omega (arith, p.total, q.total))

      tally-alike : (k : ℕ) → c.letters ≡ d.letters → Alike (decimal (tally k c.letters)) (decimal (tally k d.letters))
      tally-alike k e = alike (ap (λ (x : List ℕ). decimal (tally k x)) e)

      tied : Tied (decimal (length c.digits)) (behind c) (decimal (length d.digits)) (behind d)
      tied = (
        count-alike,
        λ n. ((λ r. digits-alike n), λ ds. (letters-alike, λ l. ((λ r. tally-alike 67 l), λ x. ((λ r. tally-alike 78 l), λ y. tally-alike 79 l)))),
      )

    pub named_sound : Sound (lines_of_named most rows)
    unfolding named_body
    named_sound =
        parted_sound named_reads
        (record {
          front = λ c. decimal (length c.digits);
          more = behind;
          is = λ c. refl;
          sized = λ c d. refl;
          some = λ c a. count_some (decimal-counts (length c.digits) (few c a));
          marked = λ c a.
              let l = lows c a in (
                marks-count (decimal-counts (length c.digits) (few c a)),
                (
                  marks-figures c.digits,
                  (
                    marks-letters c.letters a.formed.lettered,
                    (
                      marks-count (decimal-counts (tally 67 c.letters) l.0),
                      (marks-count (decimal-counts (tally 78 c.letters) l.1), (marks-count (decimal-counts (tally 79 c.letters) l.2), tt)),
                    ),
                  ),
                ),
              );
          tied = tied;
        })

  -- both areas have room for what they show, where each has N bytes for the largest N
  pub named-room : AllRoom (lines_of_named most rows) most (named_lent most).views
  named-room = (
    (λ q k. let r = parts-left q k in omega (arith, r.many, r.few)),
    ((λ q k. let r = parts-left q k in omega (arith, r.matches.number, r.few)), tt),
  )

  pub named_spacious : Spacious (lines_of_named most rows) (named_lent most)
  named_spacious = record { once = named_once; fits = named-room; wide = named-room.0 }
