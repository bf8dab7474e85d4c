-- A named line as it is written, part behind part. Assumes nothing.
use Rattle.std.specs.Prelude.{◌≡◌, refl, ℕ, ◌+◌, ◌-◌, ◌≤◌, length, take, drop, set}
use Rattle.std.proofs.Common.{sym, ◌∙◌, arith, take-append-drop, length-take-le}
use Rattle.std.proofs.Math.Path.{ap}
use mathlib.Core.List.{List, [], ◌∷◌, ◌++◌, append_assoc}
use Rattle.std.proofs.Math.ListN.{length-append}
use Rattle.std.proofs.Math.Seq.{append_snoc}
use borrow.Rule.Slice.PartMut.{mid_of, put_mid}
use Rattle.laws.specs.Laid.{laid_length}
use Rattle.laws.specs.document.Laid.{laid_over, Laid}
use Rattle.laws.specs.Laying.{laid_more, laid-part}
use Rattle.texts.specs.document.Numerals.{figures, decimal}
use Rattle.texts.specs.document.Parts.{spaced, tally}
use Rattle.lines.specs.document.Line.{body, line}
use Rattle.named_lines.specs.document.Named.{named_body, named_line}

-- the count, the digits and the letters of a line
unfoldable pub opened : List ℕ → List ℕ → List ℕ
opened ds ls = (body ds ++ (32 ∷ [])) ++ ls

-- a space and how often a stands in the letters
unfoldable pub count : ℕ → List ℕ → List ℕ
count a ls = 32 ∷ decimal (tally a ls)

-- the counts of C, N and O
unfoldable pub counts : List ℕ → List ℕ
counts ls = count 67 ls ++ (count 78 ls ++ count 79 ls)

line-parts : (ds ls : List ℕ) → (opened ds ls ++ counts ls) ++ (10 ∷ []) ≡ named_line ds ls
unfolding named_body spaced body opened count counts
line-parts ds ls =
    ap (λ (t : List ℕ). t ++ (10 ∷ []))
    (append_assoc (body ds ++ (32 ∷ [])) ls (counts ls)
    ∙ append_snoc (body ds) 32 (ls ++ counts ls)
    ∙ append_assoc (decimal (length ds)) (32 ∷ figures ds) (32 ∷ (ls ++ counts ls)))

pub opened_long : (ds ls : List ℕ) → length (opened ds ls) ≡ length (line ds) + length ls
unfolding opened line
opened_long ds ls = simp length-append (omega arith)

pub count_long : (a : ℕ) (ls : List ℕ) → length (count a ls) ≡ length (decimal (tally a ls)) + 1
unfolding count
count_long a ls = omega arith

pub counts_long : (ls : List ℕ) → length (counts ls) ≡ length (count 67 ls) + length (count 78 ls) + length (count 79 ls)
unfolding counts
counts_long ls = simp length-append (omega arith)

pub line_long : (ds ls : List ℕ) → length (named_line ds ls) ≡ length (line ds) + length ls + length (counts ls) + 1
line_long ds ls = ap length (sym (line-parts ds ls)) ∙ simp length-append (omega (arith, opened_long ds ls))

-- ---- behind what is written

-- ys is written behind the first `at` bytes, and r is the place behind it: whatever w stands in these over what was lent, base
pub record Appends (ys old new : List ℕ) (at r : ℕ) : Type 0 where
  pub count : r ≡ at + length ys
  pub lies : (w base : List ℕ) → Laid w base old at → at + length ys ≤ length base → Laid (w ++ ys) base new r

-- what stands in front
front-laid : (at : ℕ) (old : List ℕ) → at ≤ length old → Laid (take at old) old old at
unfolding laid_over
front-laid at old h =
    let l = length-take-le at old h in
    record { count = sym l; lies = sym (ap (λ (n : ℕ). take at old ++ drop n old) l ∙ take-append-drop at old) }

-- what is lent keeps its length
pub laid_long : {ys old new : List ℕ} {r : ℕ} → Laid ys old new r → length ys ≤ length old → length new ≡ length old
laid_long {ys} {old} l h = ap length l.lies ∙ laid_length ys old h

pub appends_long : {ys old new : List ℕ} {at r : ℕ} → Appends ys old new at r → at + length ys ≤ length old → length new ≡ length old
appends_long {ys} {old} {new} {at} a h =
    let w = front-laid at old (omega arith) in
    let l = length-take-le at old (omega arith) in
    laid_long (a.lies (take at old) old w h) (simp length-append (omega arith))

-- one behind the other
pub appends_both : {ys zs old mid new : List ℕ} {at p r : ℕ} → Appends ys old mid at p → Appends zs mid new p r → Appends (ys ++ zs) old new at r
appends_both {ys} {zs} a b =
    let n = length-append ys zs in
    record {
      count = omega (arith, a.count, b.count);
      lies = λ w base h k.
          rw append_assoc at (b.lies (w ++ ys) base (a.lies w base h (omega arith)) (omega (arith, a.count)));
    }

-- ---- its parts

-- a space and a count
module _ (a : ℕ) (ls : List ℕ) {n : ℕ} (e : n ≡ tally a ls) (old : List ℕ) (at : ℕ) {ys : List ℕ} {m : ℕ}
    (l : Laid (decimal n) (mid_of (at + 1) (length (set old at 32) - (at + 1)) (set old at 32)) ys m) where
  pub count-put : Appends (count a ls) old (put_mid (at + 1) (length (set old at 32) - (at + 1)) (set old at 32) ys) at (at + 1 + m)
  unfolding count
  count-put =
      rw (← e)
      (record {
        count = omega (arith, l.count);
        lies = λ w base h k.
            let s = laid_more w base old at 32 h.lies (sym h.count) (omega arith) in
            record {
              count = simp length-append (omega (arith, h.count, l.count));
              lies =
                  ap (put_mid (at + 1) (length (set old at 32) - (at + 1)) (set old at 32)) l.lies
                  ∙ laid-part (w ++ (32 ∷ [])) base (set old at 32) (decimal n) (at + 1) s (simp length-append (omega (arith, h.count))) (omega arith)
                  ∙ ap (λ (x : List ℕ). laid_over x base) (append_snoc w 32 (decimal n));
            };
      })

-- the three counts
module _ (ls o₀ : List ℕ) (at : ℕ) (room : at + length (counts ls) ≤ length o₀) where
  pub room-c : at + length (count 67 ls) ≤ length o₀
  room-c = omega (arith, counts_long ls)

  module _ {o₁ : List ℕ} {p : ℕ} (x : Appends (count 67 ls) o₀ o₁ at p) where
    pub room-n : p + length (count 78 ls) ≤ length o₁
    room-n = let l = appends_long x room-c in omega (arith, counts_long ls, x.count)

    module _ {o₂ : List ℕ} {q : ℕ} (y : Appends (count 78 ls) o₁ o₂ p q) where
      pub room_o : q + length (count 79 ls) ≤ length o₂
      room_o =
          let l = appends_long x room-c in
          let m = appends_long y room-n in
          omega (arith, counts_long ls, x.count, y.count)

      pub counts-put : {o₃ : List ℕ} {r : ℕ} → Appends (count 79 ls) o₂ o₃ q r → Appends (counts ls) o₀ o₃ at r
      unfolding counts
      counts-put z = appends_both x (appends_both y z)

set_end : (b r : List ℕ) (x y : ℕ) → set (b ++ (x ∷ r)) (length b) y ≡ b ++ (y ∷ r)
set_end [] r x y = refl
set_end (a ∷ b) r x y = ap (λ (l : List ℕ). a ∷ l) (set_end b r x y)

-- the plain line, with a space for its line feed
space-last : (c base out : List ℕ) (at : ℕ) → Laid (line c) base out at → Laid (body c ++ (32 ∷ [])) base (set out (at - 1) 32) at
unfolding line laid_over
space-last c base out at l =
    let b : List ℕ = body c in
    let d : List ℕ = drop (length (b ++ (10 ∷ []))) base in
    let k = length-append b (10 ∷ []) in
    let m = length-append b (32 ∷ []) in
    let e : at - 1 ≡ length b = omega (arith, l.count) in
    let f : length (b ++ (10 ∷ [])) ≡ length (b ++ (32 ∷ [])) = omega arith in
    record {
      count = omega (arith, l.count);
      lies =
          ap (λ (x : List ℕ). set x (at - 1) 32) (l.lies ∙ append_snoc b 10 d)
          ∙ ap (λ (n : ℕ). set (b ++ (10 ∷ d)) n 32) e
          ∙ set_end b d 10 32
          ∙ sym (append_snoc b 32 d)
          ∙ ap (λ (n : ℕ). (b ++ (32 ∷ [])) ++ drop n base) f;
    }

module _ (ds ls base : List ℕ) (room : length (line ds) + length ls ≤ length base) {at : ℕ} {out : List ℕ} (l : Laid (line ds) base out at) where
  -- the plain line is some bytes, and leaves room for the letters
  pub plain-put : (1 ≤ at) × (at + length ls ≤ length out)
  unfolding line
  plain-put =
      let k = laid_long l (omega arith) in
      (omega (arith, l.count, length-append (body ds) (10 ∷ [])), omega (arith, l.count))

  -- the letters behind it
  pub front-put :
      {ys : List ℕ} → ys ≡ laid_over ls (mid_of at (length (set out (at - 1) 32) - at) (set out (at - 1) 32))
      → Laid (opened ds ls) base (put_mid at (length (set out (at - 1) 32) - at) (set out (at - 1) 32) ys) (at + length ls)
  unfolding opened
  front-put e =
      let s = space-last ds base out at l in
      record {
        count = simp length-append (omega (arith, s.count, length-append (body ds) (32 ∷ [])));
        lies =
            ap (put_mid at (length (set out (at - 1) 32) - at) (set out (at - 1) 32)) e
            ∙ laid-part (body ds ++ (32 ∷ [])) base (set out (at - 1) 32) ls at s.lies (sym s.count) (omega (arith, l.count));
      }

module _ (ds ls base : List ℕ) (room : length (named_line ds ls) ≤ length base) {o₁ : List ℕ} {at : ℕ} (f : Laid (opened ds ls) base o₁ at) where
  -- there is room for the counts and the line feed
  pub counts-room : (at + length (counts ls) + 1 ≤ length base) × (length o₁ ≡ length base)
  counts-room =
      let n = line_long ds ls in
      let k = opened_long ds ls in
      (omega (arith, f.count), laid_long f (omega arith))

  module _ {o₂ : List ℕ} {r : ℕ} (a : Appends (counts ls) o₁ o₂ at r) where
    pub feed-room : (r + 1 ≤ length base) × (length o₂ ≡ length base)
    feed-room = let h = counts-room in (omega (arith, a.count), appends_long a (omega arith) ∙ h.1)

    pub line-put : Laid (named_line ds ls) base (set o₂ r 10) (r + 1)
    line-put =
        let h = counts-room in
        let w = a.lies (opened ds ls) base f (omega arith) in
        record {
          count = omega (arith, a.count, f.count, line_long ds ls, opened_long ds ls);
          lies =
              laid_more (opened ds ls ++ counts ls) base o₂ r 10 w.lies (sym w.count) (omega (arith, feed-room.0))
              ∙ ap (λ (x : List ℕ). laid_over x base) (line-parts ds ls);
        }
