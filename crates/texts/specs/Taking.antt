-- Laws of reading a line into lent areas. In order: areas; a line that is read has one result; what a reader of one line cites; what is read with
-- room enough is what `LineAnswers` allows. The lines of a text, one behind the other, are in `FirstLines`. Assumes nothing.
use Rattle.std.specs.Prelude.{◌≡◌, refl, List, [], ◌∷◌, ℕ, ◌≤◌}
use Rattle.std.proofs.Common.{sym, ap₂, ◌∙◌, inl, inr, arith}
use Rattle.std.proofs.Math.Path.{ap, subst}
use Rattle.laws.specs.document.Laid.{laid_over}
use Rattle.refusal.specs.document.Table.{Clear, Outcome, gives, refuses, kept, left}
use Rattle.refusal.specs.Laws.{clear_one, clear_left, clear_both}
use Rattle.refusal.proofs.Laws.{one_result, first-place, refusal_back, refusal_before}
use Rattle.texts.specs.document.Text.{Format, Shaped, line_rows, LineAnswers}
use Rattle.texts.specs.document.Lent.{Lent, Has, Short, EachArea, block, counted, line_row15, Hands, ReadsLine}
use Rattle.texts.specs.Judging.{judged}
use Rattle.texts.specs.Sound.{Once}
use Rattle.texts.specs.Answered.{where_is, line_clear, clear_line, carried_once}

-- ---- areas

module _ {A : Type 0} where
  -- what is one of each area is one of all
  pub areas_once :
      (f : (A → List ℕ) → List ℕ → List ℕ) (vs : List (A → List ℕ)) (olds news news' : List (List ℕ)) → EachArea (λ v old new. new ≡ f v old) vs olds news
      → EachArea (λ v old new. new ≡ f v old) vs olds news' → news ≡ news'
  areas_once f [] [] [] [] a b = refl
  areas_once f [] [] [] (m ∷ ms) a b = absurd b
  areas_once f [] [] (n ∷ ns) ms a b = absurd a
  areas_once f [] (o ∷ os) ns ms a b = absurd a
  areas_once f (v ∷ vs) [] ns ms a b = absurd a
  areas_once f (v ∷ vs) (o ∷ os) [] ms a b = absurd a
  areas_once f (v ∷ vs) (o ∷ os) (n ∷ ns) [] a b = absurd b
  areas_once f (v ∷ vs) (o ∷ os) (n ∷ ns) (m ∷ ms) a b =
      ap₂ {C = List (List ℕ)} (λ (x : List ℕ) (y : List (List ℕ)). x ∷ y) (a.0 ∙ sym b.0) (areas_once f vs os ns ms a.1 b.1)

-- an area cannot be long and short enough
pub not_short : (n : ℕ) (olds : List (List ℕ)) → Has n olds → Short n olds → ⊥
not_short n (old ∷ olds) h (inl s) = omega (arith, h.0)
not_short n (old ∷ olds) h (inr s) = not_short n olds h.1 s
not_short n [] h x'' = elim x'' [ ]

pub has_less : (n m : ℕ) → n ≤ m → (olds : List (List ℕ)) → Has m olds → Has n olds
has_less n m l [] h = tt
has_less n m l (old ∷ olds) h = (omega (arith, h.0), has_less n m l olds h.1)

-- whatever is lent has no byte at least
pub has_none : (n : ℕ) → n ≡ 0 → (olds : List (List ℕ)) → Has n olds
has_none n e [] = tt
has_none n e (old ∷ olds) = (omega arith, has_none n e olds)

-- as many areas are lent as parts are shown
abbrev pub Matched : {A : Type 0} → Lent A → List (List ℕ) → Type 0
Matched lent olds = EachArea (λ v old new. new ≡ old) lent.views olds olds

module _ {A F : Type 0} (format : Format A F) (lent : Lent A) (once : Once format.Formed) where
  -- reading a line has one result, and leaves one thing in what is lent
  pub read_once :
      {t : List ℕ} {olds news news' : List (List ℕ)} {o p : Outcome ℕ} → ReadsLine format lent t olds news o → ReadsLine format lent t olds news' p
      → (o ≡ p) × (news ≡ news')
  read_once {t} {olds} {news} {news'} h k = one_result one h k
    where
      one : (n m : ℕ) → Hands format lent t olds n news → Hands format lent t olds m news' → (n ≡ m) × (news ≡ news')
      one n m v w =
          let e = carried_once format once v.right w.right in
          let l = subst (λ (a : A). EachArea (λ u old new. new ≡ laid_over (u a) old) lent.views olds news) e v.lies in
          (v.count ∙ ap lent.long e ∙ sym w.count, areas_once (λ u old. laid_over (u w.result) old) lent.views olds news news' l w.lies)

  -- ---- what a reader of one line cites

  module _ (free : Clear format.first) {t : List ℕ} {q : F} (s : Shaped format.Formed t q) (c : Clear (judged format.rows q)) (olds : List (List ℕ)) where
    -- what the record needs
    need :
        (p : ℕ) → (line_row15 format lent t olds).applies p
        → (p ≡ lent.long (format.carries q)) × Short (lent.long (format.carries q)) olds
    need p w = where_is format.Formed once (λ x. (p ≡ lent.long (format.carries x)) × Short (lent.long (format.carries x)) olds) s w

    -- what is lent is too short
    pub read_short : Short (lent.long (format.carries q)) olds → ReadsLine format lent t olds olds (refuses 15 (lent.long (format.carries q)))
    read_short l =
        left
        (refusal_back (line_clear format once free s c)
        (first-place {r = line_row15 format lent t olds} (record { parts = q; shape = s; holds = (refl, l) })
        (λ p m a. let n = (need p a).0 in let z : ⊥ = omega arith in z))) refl

    -- the record
    pub read_record :
        {news : List (List ℕ)} → Has (lent.long (format.carries q)) olds
        → EachArea (λ v old new. new ≡ laid_over (v (format.carries q)) old) lent.views olds news
        → ReadsLine format lent t olds news (gives (lent.long (format.carries q)))
    read_record h l =
        kept
        (clear_both (line_clear format once free s c)
        (clear_one {r = line_row15 format lent t olds} (λ p a. not_short (lent.long (format.carries q)) olds h (need p a).1)))
        (record { result = format.carries q; right = record { parts = q; shape = s; holds = refl }; count = refl; lies = l })

  -- ---- with room enough

  -- what is read of t, as an answer to the line
  pub record FoundLine (t : List ℕ) (olds news : List (List ℕ)) (o : Outcome ℕ) : Type 0 where
    pub answer : Outcome A
    pub line : LineAnswers format t answer
    pub told : o ≡ counted lent.long answer
    pub lies : EachArea (λ v old new. new ≡ block v answer old) lent.views olds news

  -- an accepted record needs no more than the width
  abbrev pub Wide : Type 0
  Wide = (q : F) → Clear (judged format.rows q) → lent.long (format.carries q) ≤ lent.width

  module _ (wide : Wide) {t : List ℕ} (olds : List (List ℕ)) (room : Has lent.width olds) where
    -- 15 does not apply where no other row does
    no_15 : Clear (line_rows format t) → Clear (line_row15 format lent t olds ∷ [])
    no_15 c =
        clear_one {r = line_row15 format lent t olds} (λ p w.
        let l = wide w.parts (clear_line format once c w.shape) in
        not_short (lent.long (format.carries w.parts)) olds (has_less (lent.long (format.carries w.parts)) lent.width l olds room) w.holds.1)

    pub line_read : {news : List (List ℕ)} {o : Outcome ℕ} → Matched lent olds → ReadsLine format lent t olds news o → FoundLine t olds news o
    unfolding counted block
    line_read m (kept c w) =
        record {
          answer = gives w.result;
          line = kept (clear_left (line_rows format t) (line_row15 format lent t olds ∷ []) c) w.right;
          told = ap gives w.count;
          lies = w.lies;
        }
    line_read m (left {k} {p} l e) =
        record {
          answer = refuses k p;
          line = left (refusal_before (line_rows format t) (line_row15 format lent t olds ∷ []) no_15 l) refl;
          told = refl;
          lies = subst (EachArea (λ v old new. new ≡ old) lent.views olds) (sym e) m;
        }
