-- The rows that are looked at before a line's digits: which of them refuses, from what was found. Assumes nothing.
use mathlib.Core.Path.{◌≡◌, refl, sym, subst, ◌∙◌}
use mathlib.Core.Logic.{⊎_elim}
use mathlib.Core.List.{List, [], ◌∷◌}
use Prim.Native.Nat.{ℕ, suc, ◌-◌, ◌≤◌}
use native.Mathlib.Omega.{arith}
use lib.ListN.{length, take, drop}
use lib.Seq.{length-take-le}
use Rattle.laws.specs.Part.{part, part_length}
use Rattle.refusal.specs.document.Table.{Row, FirstRefusal, Outside}
use Rattle.refusal.specs.Laws.{clear_one, refusal_front}
use Rattle.refusal.proofs.Laws.{first-place, refusal_back}
use Rattle.std.specs.Prelude.{Ok, Err}
use Rattle.refusal.specs.declared.Refusal.{Refusal}
use Rattle.lines.specs.declared.Span.{Span}
use Rattle.texts.specs.document.Bytes.{Free, Cut}
use Rattle.texts.specs.document.Text.{Shaped, row1, row2, of_line}
use Rattle.texts.specs.Answered.{where_is, shaped_fed, unformed_2}
use Rattle.texts.specs.Ending.{UpTo, unfed, fed_cut}
use Rattle.lines.specs.document.Line.{Front, front, Formed, row3-line, row5_line}
use Rattle.lines.specs.Form.{values, FormAt, Stands, front_rows, Located, stands, refused}
use Rattle.lines.specs.document.Marks.{WrittenDigits}
use Rattle.lines.specs.Plain.{plain_once}
use Rattle.lines.specs.Forming.{drop_take}
use Rattle.lines.specs.Taking.{length_values}

-- the first row applies at 0
here : {r : Row} (rs : List Row) → r.applies 0 → FirstRefusal (r ∷ rs) r.number 0
here {r} rs h = refusal_front rs (first-place {r = r} h (λ q l a. absurd (omega arith)))

-- or it does not apply
after : {r : Row} {rs : List Row} {k p : ℕ} → ((q : ℕ) → r.applies q → ⊥) → FirstRefusal rs k p → FirstRefusal (r ∷ rs) k p
after {r} f l = refusal_back (clear_one {r = r} f) l

-- rows 3 and 5 of a line
abbrev sizes : ℕ → List ℕ → List Row
sizes most t = of_line Formed t (row3-line most) ∷ of_line Formed t row5_line ∷ []

module _ (most : ℕ) {t : List ℕ} where
  refused_1 : Free 10 t → FirstRefusal (front_rows most t) 1 0
  refused_1 f = here {r = row1 t} (row2 Formed t ∷ sizes most t) (refl, f)

  refused_2 : {b rest : List ℕ} → Cut 10 t b rest → ((q : Front) → Formed b q → ⊥) → FirstRefusal (front_rows most t) 2 0
  refused_2 c h = unformed_2 Formed c h (sizes most t)

  module _ {q : Front} (s : Shaped Formed t q) where
    formed_on : {k p : ℕ} → FirstRefusal (sizes most t) k p → FirstRefusal (front_rows most t) k p
    formed_on l = after {r = row1 t} (λ p f. shaped_fed Formed s f.1) (after {r = row2 Formed t} (λ p f. f.1 q s) l)

    refused_3 : Outside most q.count → FirstRefusal (front_rows most t) 3 0
    refused_3 o =
        formed_on (here {r = of_line Formed t (row3-line most)} (of_line Formed t row5_line ∷ []) (record { parts = q; shape = s; holds = (refl, o) }))

    refused_5 : (Outside most q.count → ⊥) → (length q.digits ≡ q.count → ⊥) → FirstRefusal (front_rows most t) 5 0
    refused_5 i e =
        formed_on
        (after {r = of_line Formed t (row3-line most)} (λ p f. i (where_is Formed plain_once (λ x. (p ≡ 0) × Outside most x.count) s f).1)
        (here {r = of_line Formed t row5_line} [] (record { parts = q; shape = s; holds = (refl, e) })))

-- ---- what was found

-- the first line ends at e, and its form is found: the count n, and the digits from s on
pub record Found (t : List ℕ) (e n s : ℕ) : Type 0 where
  pub ordered : s ≤ e
  pub within : e ≤ length t
  pub figures : WrittenDigits (part s e t)
  pub shape : Shaped Formed t (front n (values (part s e t)))

module _ {t : List ℕ} {e : ℕ} (u : UpTo t e) where
  pub no_feed : (most : ℕ) → e ≡ length t → FirstRefusal (front_rows most t) 1 0
  no_feed most q = refused_1 most {t = t} (unfed u q)

  pub no_form : (most : ℕ) → (e ≡ length t → ⊥) → ((q : Front) → Formed (take e t) q → ⊥) → FirstRefusal (front_rows most t) 2 0
  no_form most n h = refused_2 most (fed_cut u n) h

  pub found : {n s : ℕ} → (e ≡ length t → ⊥) → FormAt (take e t) n s → Found t e n s
  found {s = s} d f =
      let v = drop_take s e t in
      record {
        ordered = omega (arith, f.within, length-take-le e t u.within);
        within = u.within;
        figures = rw (← v) f.figures;
        shape = record { text = take e t; rest = drop (suc e) t; feed = fed_cut u d; formed = rw (← v) f.formed };
      }

module _ (most : ℕ) {t : List ℕ} {e n s : ℕ} (f : Found t e n s) where
  pub not_sized : Outside most n → FirstRefusal (front_rows most t) 3 0
  not_sized o = refused_3 most f.shape o

  as_many : length (values (part s e t)) ≡ e - s
  as_many = length_values (part s e t) ∙ part_length s e t f.within

  pub not_as_many : (n ≡ 0 → ⊥) → n ≤ most → (e - s ≡ n → ⊥) → FirstRefusal (front_rows most t) 5 0
  not_as_many a b c =
      refused_5 most f.shape (λ o. ⊎_elim (λ z. a z) (λ l. let x : ⊥ = omega arith in x) o) (λ q. c (sym as_many ∙ q))

  pub standing : (n ≡ 0 → ⊥) → n ≤ most → e - s ≡ n → Stands most t s e
  standing a b c =
      record {
        ordered = f.ordered;
        within = f.within;
        figures = f.figures;
        shape = subst (λ (m : ℕ). Shaped Formed t (front m (values (part s e t)))) (sym c) f.shape;
        some = omega arith;
        few = omega arith;
      }

-- ---- what a caller learns

pub located : {most : ℕ} {t : List ℕ} {d : Span} → Located most t (Ok d) → Stands most t d.start d.end
located (stands h) = h

pub unlocated : {most : ℕ} {t : List ℕ} {r : Refusal} → Located most t (Err r) → FirstRefusal (front_rows most t) r.row r.place
unlocated (refused l) = l
