-- From one line of a text to the next, and the listing so far. Assumes nothing.
use mathlib.Core.Path.{◌≡◌, refl, sym, ap, ◌∙◌}
use mathlib.Core.List.{List, [], ◌∷◌, ◌++◌, append_assoc, append-nil}
use Prim.Native.Nat.{ℕ, suc, ◌+◌, ◌-◌, ◌≤◌, ◌<◌}
use native.Mathlib.Omega.{arith}
use lib.ListN.{length, take, drop, length-append, length-drop, drop_of_length-le}
use Rattle.refusal.specs.document.Table.{Outcome, gives, refuses}
use Rattle.texts.specs.document.Damage.{records, refusals}
use Rattle.texts.specs.document.Lent.{counted, Taken, none}
use Rattle.texts.specs.Ending.{Behind, rest_is}
use Rattle.texts.specs.FirstLines.{taken-all, taken-join}
use Rattle.texts.specs.Turns.{line_taken}
use Rattle.texts.specs.Records.{records-refusals}
use Rattle.listing_text.specs.document.Listing.{longest, answer_line, answer_lines, totals, listed, lines, ListsOf}
use Rattle.listing_text.specs.Window.{Shown, Puts, shown-none}
use Rattle.listing_text.specs.Steps.{Lined, Replied, is_record}

-- before line `line` + 1, which begins at `at`: the lines before it are answered and the answers put, and `read` of them are records
pub record Going (l : Lined) (text : List ℕ) (from : ℕ) (old out : List ℕ) (skip done at line read : ℕ) : Type 0 where
  pub answers : List (Outcome l.A)
  pub taken : Taken l.format text answers (drop at text)
  pub within : at ≤ length text
  pub lines : line ≡ length answers
  pub fewer : line ≤ at
  pub read_of : read ≡ length (records answers)
  pub shown : Shown (answer_lines 1 answers) from old out skip done

pub going_none : (l : Lined) (text : List ℕ) (from : ℕ) (old : List ℕ) → Going l text from old old from 0 0 0 0
unfolding answer_lines records
going_none l text from old =
    record { answers = []; taken = none; within = omega arith; lines = refl; fewer = omega arith; read_of = refl; shown = shown-none from old }

-- ---- one answer more

lines_more : {A : Type 0} (i : ℕ) (os : List (Outcome A)) (o : Outcome A) → answer_lines i (os ++ (o ∷ [])) ≡ answer_lines i os ++ answer_line (i + length os) o
unfolding answer_lines
lines_more i [] o = let e : i + 0 ≡ i = omega arith in rw e (append-nil (answer_line i o))
lines_more i (q ∷ os) o =
    let e : suc i + length os ≡ i + suc (length os) = omega arith in
    rw (lines_more (suc i) os o, e) (sym (append_assoc (answer_line i q) (answer_lines (suc i) os) (answer_line (i + suc (length os)) o)))

-- a line is written of an answer as a call tells it
line-counted : {A : Type 0} (long : A → ℕ) (i : ℕ) (o : Outcome A) → answer_line i (counted long o) ≡ answer_line i o
unfolding answer_line counted
line-counted long i (gives c) = refl
line-counted long i (refuses k p) = refl

records-more : {A : Type 0} (long : A → ℕ) (os : List (Outcome A)) (o : Outcome A) → length (records (os ++ (o ∷ []))) ≡ length (records os) + is_record (counted long o)
unfolding records counted
records-more long [] (gives c) = refl
records-more long [] (refuses k p) = refl
records-more long (gives c ∷ os) o = omega (arith, records-more long os o)
records-more long (refuses k p ∷ os) o = records-more long os o

pub behind-falls : {t : List ℕ} {at to : ℕ} → Behind t at to → at < length t → at < to
behind-falls {t} {at} {to} b h = let e = simp length-drop at (ap length b.rest) in omega (arith, b.within)

module _ {l : Lined} {text : List ℕ} {from : ℕ} {old out : List ℕ} {skip done at line read : ℕ} (g : Going l text from old out skip done at line read) where
  pub going_more :
      {out' : List ℕ} {skip' done' to : ℕ} {o : Outcome ℕ} → at < length text → Replied l (take (length text - at) (drop at text)) o
      → Puts (answer_line (line + 1) o) out skip done out' skip' done' → Behind text at to
      → Going l text from old out' skip' done' to (line + 1) (read + is_record o)
  going_more {out'} {skip'} {done'} {to} {o} h r p b =
      let q = r.answer in
      let a = rw (rest_is text at) at r.line in
      let n = g.lines in
      let i : line + 1 ≡ 1 + length g.answers = omega arith in
      let z : answer_line (line + 1) o ≡ answer_line (1 + length g.answers) q = ap (λ (u : Outcome ℕ). answer_line (line + 1) u) r.tells ∙ line-counted l.long (line + 1) q ∙ ap (λ (j : ℕ). answer_line j q) i in
      let f = behind-falls b h in
      let s : Shown (answer_lines 1 g.answers ++ answer_line (1 + length g.answers) q) from old out' skip' done' = rw z at (p _ old from g.shown) in
      record {
        answers = g.answers ++ (q ∷ []);
        taken = taken-join l.format g.taken (rw b.rest (line_taken l.format (rw length-drop (omega arith)) b.feed a));
        within = b.within;
        lines = simp length-append (omega arith);
        fewer = omega (arith, g.fewer);
        read_of = rw (r.tells, records-more l.long g.answers q) (omega (arith, g.read_of));
        shown = rw (lines_more 1 g.answers q) s;
      }

  pub not_more : read ≤ line
  not_more = omega (arith, records-refusals g.answers, g.lines, g.read_of)

  -- and no more with one answer more
  pub one_more : at < length text → (o : Outcome ℕ) → read + is_record o ≤ length text
  one_more h (gives n) = omega (arith, not_more, g.fewer)
  one_more h (refuses k p) = omega (arith, not_more, g.fewer)

  -- behind the last line, the totals
  pub going_all :
      {out' : List ℕ} {skip' done' : ℕ} → length text ≤ longest → length text ≤ at → Puts (totals read (line - read)) out skip done out' skip' done'
      → ListsOf l.format text old out' from done'
  unfolding listed
  going_all h e p =
      let n : line - read ≡ refusals g.answers = omega (arith, records-refusals g.answers, g.lines, g.read_of) in
      let d : drop at text ≡ [] = drop_of_length-le text e in
      let s = p _ old from g.shown in
      record {
        listing = listed g.answers;
        right = lines g.answers h (taken-all l.format g.taken d) refl;
        piece = rw (n, g.read_of) at s.laid;
      }
