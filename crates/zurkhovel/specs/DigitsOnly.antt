-- "No line may ever hold a decimal mark: the text carries digits only." Said of the calls: what `write_line` gives is digits, one space and one
-- line feed; a line that holds any other byte is refused 2, by `read_line` and in a text.
--
-- What is allowed and what a mark is, is in `Marks` of the crate `lines`. Assumes nothing.
use Rattle.std.specs.Prelude.{◌≡◌, ℕ, take}
use Rattle.std.proofs.Math.Path.{refl, ap}
use Rattle.std.proofs.Common.{sym, subst, ◌∙◌, inl, inr}
use mathlib.Core.List.{List, [], ◌∷◌, ◌++◌, map-append, append_assoc}
use Rattle.std.proofs.Math.ListN.{length, get_or}
use Rattle.std.proofs.lemmas.List.{length-map}
use Rattle.std.proofs.Math.Seq.{get_or_at}
use Rattle.refusal.specs.document.Table.{Outcome, gives, refuses}
use Rattle.refusal.specs.Giving.{gave}
use Rattle.laws.specs.document.Each.{Each}
use Rattle.texts.specs.document.Bytes.{Cut}
use Rattle.texts.specs.document.Text.{TextAnswers, none}
use Rattle.texts.specs.document.Lent.{counted}
use Rattle.texts.specs.Texts.{first, halves}
use Rattle.lines.specs.document.Marks.{Allowed, DigitsOnly, Mark}
use Rattle.lines.specs.Marks.{line-digits, each_allowed, marked-answer, marked-line}
use Rattle.zurkhovel.specs.document.Lines.{ReadLine, WriteLine}
use Rattle.zurkhovel.specs.Accepted.{skeleton_of, centred_accepted}
use Rattle.texts.specs.document.Demand.{InTurns, lines_in}
use Rattle.texts.specs.Seen.{numbers_of, places_of, seen, answered, lines-answered}
use Rattle.zurkhovel.specs.document.Demand.{plain_kind}
use Rattle.zurkhovel.specs.Demanded.{legible}
use Rattle.zurkhovel.specs.document.DigitsOnly.{WholeLines}
use Rattle.zurkhovel.specs.document.InEdition.{edge_table}
use Rattle.edition.specs.document.Edition.{IsEdition, neighbours_in}
use Rattle.edition.specs.Laws.{clear_edition}
use Rattle.lines.specs.OfEdition.{answer_of, read_of}
use Rattle.lines.specs.document.Reading.{lines_of}

module _ (e : ℕ) where
  -- what `write_line` gives: digits, one space, digits, and one line feed, the last byte
  pub write-line-digits : (N : ℕ) (E old new : List ℕ) (n : ℕ) → WriteLine (edge_table e) N E old new (gives n) → DigitsOnly (take n new)
  write-line-digits N E old new n w =
      let (k, (c, x, q), _) = gave w in
      subst DigitsOnly (sym q) (line-digits c (centred_accepted (clear_edition k) (skeleton_of k) x).formed)

  -- so each byte of it is a digit, the space or the line feed
  pub write-line-bytes : (N : ℕ) (E old new : List ℕ) (n : ℕ) → WriteLine (edge_table e) N E old new (gives n) → Each Allowed (take n new)
  write-line-bytes N E old new n w = each_allowed (write-line-digits N E old new n w)

  -- the first line of t, up to its first line feed, holds the mark m: `read_line` refuses it 2, and leaves what is lent
  pub read-line-marked :
      (t x y rest : List ℕ) (m : ℕ) (old new : List ℕ) (o : Outcome ℕ) → IsEdition e → Cut 10 t (x ++ (m ∷ y)) rest → Mark m → ReadLine e t old new o
      → (o ≡ refuses 2 0) × (new ≡ old)
  read-line-marked t x y rest m old new o i c k g = marked-line c x y m refl k (neighbours_in e) (read_of e i g)

  -- the answers to a text behind whole lines
  record Parted (v y : List ℕ) (os : List (Outcome (List ℕ))) : Type 0 where
    pub before : List (Outcome (List ℕ))
    pub after : List (Outcome (List ℕ))
    pub parts : os ≡ before ++ after
    pub front : TextAnswers (lines_of e) v before
    pub behind : TextAnswers (lines_of e) y after

  parted : {v y : List ℕ} {os : List (Outcome (List ℕ))} → WholeLines v → TextAnswers (lines_of e) (v ++ y) os → Parted v y os
  parted {v} {y} {os} (inl q) h =
      record { before = []; after = os; parts = refl; front = rw q none; behind = subst (λ (u : List ℕ). TextAnswers (lines_of e) (u ++ y) os) q h }
  parted {v} {y} {os} (inr (w, z)) h =
      let q : v ++ y ≡ w ++ (10 ∷ y) = ap (λ (u : List ℕ). u ++ y) z ∙ append_assoc w (10 ∷ []) y in
      let r = halves (lines_of e) w y h q in
      record { before = r.before; after = r.after; parts = r.parts; front = subst (λ (u : List ℕ). TextAnswers (lines_of e) u r.before) (sym z) r.front; behind = r.behind }

  -- in a text, behind the whole lines v, such a line has the number 2 and the place 0
  pub read-text-marked :
      (v t x y rest : List ℕ) (m : ℕ) (ns ps : List ℕ) (bs : List (List ℕ)) → IsEdition e → WholeLines v → Cut 10 t (x ++ (m ∷ y)) rest → Mark m → InTurns (plain_kind e) (v ++ t) ns ps bs
      → (get_or ns (lines_in v) 0 ≡ 2) × (get_or ps (lines_in v) 0 ≡ 0)
  unfolding counted
  read-text-marked v t x y rest m ns ps bs i w c k r =
      let s = seen (plain_kind e) (legible e) r in
      let p = parted w (answered (plain_kind e) s) in
      let f = first (lines_of e) c p.behind in
      let a : f.answer ≡ refuses 2 0 = marked-answer c x y m refl k (neighbours_in e) (answer_of e i f.line) in
      let q : s.answers ≡ p.before ++ (refuses 2 0 ∷ f.others) =
      p.parts ∙ ap (λ os. p.before ++ os) (f.parts ∙ ap (λ o. o ∷ f.others) a) in
      let l : length p.before ≡ lines_in v = lines-answered (lines_of e) p.front in (
        ap (λ (z : List ℕ). get_or z (lines_in v) 0) (s.shows.numbers ∙ ap (numbers_of (plain_kind e)) q ∙ map-append _ p.before (refuses 2 0 ∷ f.others))
            ∙ get_or_at (numbers_of (plain_kind e) p.before) 2 (numbers_of (plain_kind e) f.others) 0 (lines_in v) (length-map p.before _ ∙ l),
        ap (λ (z : List ℕ). get_or z (lines_in v) 0) (s.shows.places ∙ ap (places_of (plain_kind e)) q ∙ map-append _ p.before (refuses 2 0 ∷ f.others))
            ∙ get_or_at (places_of (plain_kind e) p.before) 0 (places_of (plain_kind e) f.others) 0 (lines_in v) (length-map p.before _ ∙ l),
      )
