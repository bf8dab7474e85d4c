-- Document 02, wish 8: "An edition 1 reader given an edition 2 line hands out the right skeleton or refusal 10." Of the promises of the public calls,
-- for one text that is read in both editions with as much lent.
--
-- In order: edition 1 is the narrower; a line; its digits, decoded; a text. That it holds of any two editions is in the crate `lines`, `Editions`.
-- Assumes nothing.
use Rattle.std.specs.Prelude.{◌≡◌, refl, ◌⊎◌, List, ℕ, ◌≤◌, take}
use Rattle.std.proofs.Common.{sym, ap, ◌∙◌, inl, inr, ⊎_elim, arith}
use Rattle.refusal.specs.document.Table.{Outcome, gives, refuses}
use Rattle.refusal.specs.Stricter.{RefusedBy}
use Rattle.refusal.specs.Giving.{gave}
use Rattle.edition.specs.document.Edition.{neighbours_in}
use Rattle.form.specs.document.Form.{IsCentred}
use Rattle.lines.specs.Editions.{read_across, TextsAcross, texts_across}
use Rattle.zurkhovel.specs.document.Codes.{DecodeForm}
use Rattle.zurkhovel.specs.document.Lines.{ReadLine, ReadText}

pub narrower : neighbours_in 1 ≤ neighbours_in 2
unfolding neighbours_in
narrower = omega arith

-- What edition 1 answers to a line, and leaves in the output, is what edition 2 does; or it is refusal 10.
pub line_in_both :
    (t old new new' : List ℕ) (o u : Outcome ℕ) → ReadLine 1 t old new o → ReadLine 2 t old new' u → ((o ≡ u) × (new ≡ new')) ⊎ RefusedBy 10 o
line_in_both t old new new' o u a b = read_across (inl refl) (inr refl) narrower a b

-- So of a line that edition 2 accepts, edition 1 hands out the same digits, or refuses it with 10.
pub accepted_in_both :
    (t old new new' : List ℕ) (n : ℕ) (o : Outcome ℕ) → ReadLine 2 t old new' (gives n) → ReadLine 1 t old new o
    → ((o ≡ gives n) × (take n new ≡ take n new')) ⊎ RefusedBy 10 o
accepted_in_both t old new new' n o b a = ⊎_elim (λ (q, e). inl (q, ap (take n) e)) inr (line_in_both t old new new' o (gives n) a b)

-- And a line that edition 2 refuses, edition 1 refuses alike, or with 10.
pub refused_in_both :
    (t old new new' : List ℕ) (k p : ℕ) (o : Outcome ℕ) → ReadLine 2 t old new' (refuses k p) → ReadLine 1 t old new o → (o ≡ refuses k p) ⊎ RefusedBy 10 o
refused_in_both t old new new' k p o b a = ⊎_elim (λ (q, e). inl q) inr (line_in_both t old new new' o (refuses k p) a b)

-- Digits that both accept decode to the same edges.
pub decoded_in_both :
    (c old new old' new' : List ℕ) (n m : ℕ) → DecodeForm 1 IsCentred c old new (gives n) → DecodeForm 2 IsCentred c old' new' (gives m) → take n new ≡ take m new'
decoded_in_both c old new old' new' n m a b = let (k, e, x) = gave a in let (l, f, y) = gave b in e ∙ sym f

-- A text: both read as many lines, as far, and edition 1 answers each line as edition 2 does, or with refusal 10.
pub text_in_both :
    (t rec num pla rec₁ num₁ pla₁ rec₂ num₂ pla₂ : List ℕ) (k at l to : ℕ) (a : ReadText 1 t rec num pla rec₁ num₁ pla₁ k at)
    (b : ReadText 2 t rec num pla rec₂ num₂ pla₂ l to) → TextsAcross (inl refl) (inr refl) narrower a b
text_in_both t rec num pla rec₁ num₁ pla₁ rec₂ num₂ pla₂ k at l to a b = texts_across (inl refl) (inr refl) narrower a b
