-- What a text is answered, from its first line on: `first` and `last` take the answers apart, `halves` cuts them at any line
-- feed, and a clean text is read back. Assumes nothing.
use Rattle.std.specs.Prelude.{◌≡◌, ℕ, ◌≤◌}
use Rattle.std.proofs.Math.Path.{refl, ap}
use Rattle.std.proofs.Common.{sym, ap₂, ◌∙◌, arith}
use mathlib.Core.List.{List, [], ◌∷◌, ◌++◌, map, append_assoc}
use Rattle.std.proofs.Math.ListN.{length, length-append}
use Rattle.refusal.specs.document.Table.{Outcome, gives, refuses, kept, left}
use Rattle.texts.specs.document.Bytes.{Free, Cut}
use Rattle.texts.specs.document.Text.{Format, text_of, LineAnswers, TextAnswers, none, unfinished, next}
use Rattle.texts.specs.Damage.{Accept, Accepted, Recovers}
use Rattle.texts.specs.Sound.{Once, Sound}
use Rattle.texts.specs.Cuts.{not_free, cut_some, cut_once, Meet, same, further, meet}
use Rattle.texts.specs.Answered.{shaped_fed, answer_moves, answered_once, look, sure}

module _ {A F : Type 0} (format : Format A F) where
  -- the answers os to a text that is cut at its first line feed
  pub record First (t rest : List ℕ) (os : List (Outcome A)) : Type 0 where
    pub answer : Outcome A
    pub others : List (Outcome A)
    pub parts : os ≡ answer ∷ others
    pub line : LineAnswers format t answer
    pub text : TextAnswers format rest others

  pub first : {t b rest : List ℕ} {os : List (Outcome A)} → Cut 10 t b rest → TextAnswers format t os → First t rest os
  first c none = let l = cut_some c in absurd (omega arith)
  first {b = b} {rest} c (unfinished h f a) = absurd (not_free 10 b rest (rw c.parts at f))
  first {t} {b} {rest} c (next {b = d} {rest = more} {o} {os} u a h) =
      record { answer = o; others = os; parts = refl; line = a; text = rw (cut_once 10 t b rest d more c u).1 h }

  -- an empty text has no answers
  no_line : {t : List ℕ} {os : List (Outcome A)} → TextAnswers format t os → t ≡ [] → os ≡ []
  no_line none e = refl
  no_line (unfinished h f a) e = let l = ap length e in absurd (omega arith)
  no_line (next c a h) e = let l = cut_some c in let n = ap length e in absurd (omega arith)

  -- an unfinished line is refused
  pub record Last (t : List ℕ) (os : List (Outcome A)) : Type 0 where
    pub number : ℕ
    pub place : ℕ
    pub only : os ≡ refuses number place ∷ []
    pub line : LineAnswers format t (refuses number place)

  pub last : {t : List ℕ} {os : List (Outcome A)} → 1 ≤ length t → Free 10 t → TextAnswers format t os → Last t os
  last l f none = absurd (omega arith)
  last l f (unfinished h g (kept u r)) = absurd (shaped_fed format.Formed r.shape f)
  last l f (unfinished h g (left {k} {p} u e)) = record { number = k; place = p; only = refl; line = left u e }
  last l f (next {b} {rest} c a h) = absurd (not_free 10 b rest (rw c.parts at f))

  pub texts_once : Once format.Formed → {t : List ℕ} {os ps : List (Outcome A)} → TextAnswers format t os → TextAnswers format t ps → os ≡ ps
  texts_once once none k = sym (no_line k refl)
  texts_once once (unfinished l f a) k =
      let g = last l f k in
      let e = answered_once format once a g.line in
      ap (λ o. o ∷ []) e ∙ sym g.only
  texts_once once (next c a h) k =
      let g = first c k in
      let e = answered_once format once a g.line in
      ap₂ ◌∷◌ e (texts_once once h g.text) ∙ sym g.parts

  -- the answers to a text with a line feed in it: to the front, and to what is behind
  pub record Halves (z y : List ℕ) (os : List (Outcome A)) : Type 0 where
    pub before : List (Outcome A)
    pub after : List (Outcome A)
    pub parts : os ≡ before ++ after
    pub front : TextAnswers format (z ++ (10 ∷ [])) before
    pub behind : TextAnswers format y after

  pub halves : {t : List ℕ} {os : List (Outcome A)} (z y : List ℕ) → TextAnswers format t os → t ≡ z ++ (10 ∷ y) → Halves z y os
  halves z y none e = let l = simp length-append at (ap length e) in absurd (omega arith)
  halves z y (unfinished h f a) e = absurd (not_free 10 z y (rw e at f))
  halves z y (next {t} {b} {rest} {o} {os} c a h) e =
      go (meet 10 z y b rest c.free (sym e ∙ c.parts)) (λ x q. halves x y h q)
    where
      go : Meet 10 z y b rest → ((x : List ℕ) → rest ≡ x ++ (10 ∷ y) → Halves x y os) → Halves z y (o ∷ os)
      go (same p q) k =
          let d : Cut 10 (z ++ (10 ∷ [])) b [] = record { parts = ap (λ (x : List ℕ). x ++ (10 ∷ [])) p; free = c.free } in
          record {
            before = o ∷ [];
            after = os;
            parts = refl;
            front = next d (answer_moves format c d a) none;
            behind = rw q h;
          }
      go (further x p q) k =
          let r = k x q in
          let d : Cut 10 (z ++ (10 ∷ [])) b (x ++ (10 ∷ [])) =
          record { parts = ap (λ (s : List ℕ). s ++ (10 ∷ [])) p ∙ append_assoc b (10 ∷ x) (10 ∷ []); free = c.free } in
          record {
            before = o ∷ r.before;
            after = r.after;
            parts = ap (λ (s : List (Outcome A)). o ∷ s) r.parts;
            front = next d (answer_moves format c d a) r.front;
            behind = r.behind;
          }

module _ {A F : Type 0} (format : Format A F) (sound : Sound format) where
  -- the text of records is cut behind the first one's line
  pub cut_line : (c : A) (cs : List A) → Accept format c → Cut 10 (text_of format.body (c ∷ cs)) (format.body c) (text_of format.body cs)
  unfolding text_of
  cut_line c cs a = record { parts = append_assoc (format.body c) (10 ∷ []) (text_of format.body cs); free = sound.free c a }

  -- the answers os to a text that begins with the line of c
  pub record Given (c : A) (rest : List ℕ) (os : List (Outcome A)) : Type 0 where
    pub others : List (Outcome A)
    pub parts : os ≡ gives c ∷ others
    pub text : TextAnswers format rest others

  pub given : {c : A} {t rest : List ℕ} {os : List (Outcome A)} → Accept format c → Cut 10 t (format.body c) rest → TextAnswers format t os → Given c rest os
  given a u h =
      let f = first format u h in
      let e = sure format sound.reads a (look format sound.reads u f.line) in
      record { others = f.others; parts = f.parts ∙ ap (λ o. o ∷ f.others) e; text = f.text }

  -- a clean text is read back
  pub reads_back : (cs : List A) {t : List ℕ} {os : List (Outcome A)} → Accepted format cs → t ≡ text_of format.body cs → TextAnswers format t os → os ≡ map gives cs
  unfolding text_of
  reads_back [] a e h = no_line format h e
  reads_back (c ∷ cs) a e h =
      let g = given a.0 (cut_line c cs a.0) (rw e at h) in
      g.parts ∙ ap (λ os. gives c ∷ os) (reads_back cs a.1 refl g.text)

  -- a line feed of a clean text is the end of a line
  record Ends (cs : List A) (y : List ℕ) : Type 0 where
    earlier : List A
    behind : List A
    parts : cs ≡ earlier ++ behind
    lines-behind : y ≡ text_of format.body behind
    accepted : Accepted format behind

  line_ends : (cs : List A) (x y : List ℕ) → Accepted format cs → text_of format.body cs ≡ x ++ (10 ∷ y) → Ends cs y
  unfolding text_of
  line_ends [] x y a e = let l = simp length-append at (ap length e) in absurd (omega arith)
  line_ends (c ∷ cs) x y a e =
      go (meet 10 x y (format.body c) (text_of format.body cs) cut.free (sym e ∙ cut.parts)) (λ z q. line_ends cs z y a.1 q)
    where
      cut : Cut 10 (text_of format.body (c ∷ cs)) (format.body c) (text_of format.body cs)
      cut = cut_line c cs a.0

      go : Meet 10 x y (format.body c) (text_of format.body cs) → ((z : List ℕ) → text_of format.body cs ≡ z ++ (10 ∷ y) → Ends cs y) → Ends (c ∷ cs) y
      go (same p q) k = record { earlier = c ∷ []; behind = cs; parts = refl; lines-behind = q; accepted = a.1 }
      go (further z p q) k =
          let r = k z q in
          record {
            earlier = c ∷ r.earlier;
            behind = r.behind;
            parts = ap (λ ds. c ∷ ds) r.parts;
            lines-behind = r.lines-behind;
            accepted = r.accepted;
          }

  pub recover : (cs : List A) (x y z u : List ℕ) {os : List (Outcome A)} → Accepted format cs → text_of format.body cs ≡ x ++ (10 ∷ y) → u ≡ z ++ (10 ∷ y) → TextAnswers format u os → Recovers format cs y z os
  recover cs x y z u a e q h =
      let r = line_ends cs x y a e in
      let s = halves format z y h q in
      record {
        earlier = r.earlier;
        behind = r.behind;
        parts = r.parts;
        lines-behind = r.lines-behind;
        before = s.before;
        answered = s.front;
        ends = s.parts ∙ ap (λ os. s.before ++ os) (reads_back r.behind r.accepted r.lines-behind s.behind);
      }
