-- Read from its promise alone, every call on lines, and the call on equal vertices, has one possible result and one possible state of what it
-- is lent, as in `One`. Assumes nothing.
use Rattle.std.specs.Prelude.{Result}
use Rattle.refusal.specs.declared.Refusal.{Refusal}
use Rattle.std.specs.Prelude.{◌≡◌, List, [], ◌∷◌, ℕ}
use Rattle.std.proofs.Common.{sym, ap₂, subst, ◌∙◌, arith}
use Rattle.refusal.specs.document.Table.{Clear}
use Rattle.refusal.specs.document.Outcome.{told}
use Rattle.refusal.proofs.Apart.{told-both}
use Rattle.refusal.proofs.Giving.{one_clear}
use Rattle.limits.specs.document.Limits.{size, valence}
use Rattle.form.specs.document.Form.{IsCentred}
use Rattle.form.specs.Forms.{centred-form}
use Rattle.texts.specs.Theorems as Texts
use Rattle.lines.specs.document.Judged.{digit_table}
use Rattle.lines.specs.document.Reading.{lines_of, digits_lent}
use Rattle.lines.specs.declared.Progress.{Progress}
use Rattle.lines.specs.Plain.{plain_once}
use Rattle.listing_text.specs.Theorems as Answers
use Rattle.orbits.specs.document.Carried.{ClassesOf}
use Rattle.orbits.specs.Theorems.{one-classes}
use Rattle.zurkhovel.specs.declared.text.Counts.{Counts}
use Rattle.zurkhovel.specs.document.Lines.{ReadLine, WriteLine, ReadText, ListText}
use Rattle.texts.specs.document.Demand.{Counted}
use Rattle.zurkhovel.specs.document.Alike.{EqualVertices}
use Rattle.zurkhovel.specs.document.Tabled.{Tabled}
use Rattle.zurkhovel.specs.Tabled.{in-edition}
use Rattle.zurkhovel.specs.document.InEdition.{EdgeTable}

-- one area is one thing
same-only : {a b : List ℕ} → ◌≡◌ {A = List (List ℕ)} (a ∷ []) (b ∷ []) → a ≡ b
same-only e = cc

pub one-count : (numbers : List ℕ) (r s : Counts) → Counted numbers r.read r.refused → Counted numbers s.read s.refused → r ≡ s
one-count numbers r s a b =
    let e : r.read ≡ s.read = a.records ∙ sym b.records in
    ap₂ (λ (i j : ℕ). record { read = i; refused = j }) e (omega (arith, a.others, b.others))

pub one_list : (t old new new' : List ℕ) (from n m : ℕ) → ListText t old new from n → ListText t old new' from m → (n ≡ m) × (new ≡ new')
one_list t old new new' from n m a b = Answers.one_piece size (digit_table valence) t old new new' from n m a b

-- ---- the calls on an edge list, over its table

module _ {T : EdgeTable} {R : ℕ} (t : Tabled T R) where
  -- what Of has it to be of the centred code is one, where it is of any code and the list is accepted
  one_derived :
      {N : ℕ} {E : List ℕ} {Of : List ℕ → List ℕ → Type 0} → ((c l m : List ℕ) → Of c l → Of c m → l ≡ m) → Clear (T size N E 1)
      → (l m : List ℕ) → (c : List ℕ) × IsCentred N E c × Of c l → (c : List ℕ) × IsCentred N E c × Of c m → l ≡ m
  one_derived {N} {E} {Of} one k l m (c, x, o) (d, y, p) = one c l m o (subst (λ (b : List ℕ). Of b m) (centred-form.one (t.skeleton N E 1 k).tree y x) p)

  pub one-write-line :
      (N : ℕ) (E old new new' : List ℕ) (r s : Result ℕ Refusal) → WriteLine T N E old new (told r) → WriteLine T N E old new' (told s) → (r ≡ s) × (new ≡ new')
  one-write-line N E old new new' r s a b = told-both r s (one_clear (one_derived (λ c l m e f. e ∙ sym f)) a b)

-- ---- the calls that are told the edition, e

module _ (e : ℕ) where
  pub one-read-line : (t old new new' : List ℕ) (r s : Result ℕ Refusal) → ReadLine e t old new (told r) → ReadLine e t old new' (told s) → (r ≡ s) × (new ≡ new')
  one-read-line t old new new' r s a b =
      let (o, q) = Texts.one_line (lines_of e) plain_once (digits_lent size) t (old ∷ []) (new ∷ []) (new' ∷ []) (told r) (told s) a b in
      told-both r s (o, same-only q)

  pub one-read-text :
      (t rec num pla rec₁ num₁ pla₁ rec₂ num₂ pla₂ : List ℕ) (r s : Progress)
      → ReadText e t rec num pla rec₁ num₁ pla₁ r.lines r.at → ReadText e t rec num pla rec₂ num₂ pla₂ s.lines s.at
      → (r ≡ s) × (rec₁ ≡ rec₂) × (num₁ ≡ num₂) × (pla₁ ≡ pla₂)
  one-read-text t rec num pla rec₁ num₁ pla₁ rec₂ num₂ pla₂ r s a b =
      let (k, at, q, f, g) = Texts.one-text (lines_of e) plain_once (digits_lent size) t (rec ∷ []) num pla (rec₁ ∷ []) num₁ pla₁ (rec₂ ∷ []) num₂ pla₂ r.lines r.at s.lines s.at a b in
      (ap₂ (λ (i j : ℕ). record { lines = i; at = j }) k at, same-only q, f, g)

  pub one-equal-vertices :
      (N : ℕ) (E old new new' : List ℕ) (r s : Result ℕ Refusal) → EqualVertices e N E old new (told r) → EqualVertices e N E old new' (told s) → (r ≡ s) × (new ≡ new')
  one-equal-vertices N E old new new' r s a b = told-both r s (one_clear (one_derived (in-edition e) {Of = ClassesOf} one-classes) a b)
