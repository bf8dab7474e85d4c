-- What is proved of texts of lines, as statements; the proofs are named from elsewhere.
--
-- The line format is any one, and all that is asked of it is that it is `Sound`; for a single answer, that a text has the form in one way. Plain
-- lines are an instance, in the crate `lines`. Assumes nothing.
use Rattle.std.specs.Prelude.{◌≡◌, refl, List, ◌∷◌, ◌++◌, map, ℕ}
use Rattle.refusal.specs.document.Table.{Outcome, gives}
use Rattle.texts.specs.document.Bytes.{Cut}
use Rattle.texts.specs.document.Text.{Format, text_of, LineAnswers, TextAnswers}
use Rattle.texts.specs.document.Damage.{Change}
use Rattle.texts.specs.document.Lent.{Lent, ReadsLine, ReadsText}
use Rattle.texts.specs.Damage.{Robust, Accepted, Recovers}
use Rattle.texts.specs.Sound.{Once, Sound}
use Rattle.texts.specs.Edits.{edit_of}
use Rattle.texts.specs.Answered.{answer_moves}
use Rattle.texts.specs.Texts.{texts_once, reads_back, recover}
use Rattle.texts.specs.Taking.{read_once}
use Rattle.texts.specs.Turns.{read-text_once}
use Rattle.texts.specs.Robustness.{one_edit}

module _ {A F : Type 0} (format : Format A F) where
  -- "looks at nothing behind it": the answer to a line is the same whatever follows its line feed.
  pub first-line-only :
      (t u b rest more : List ℕ) (o : Outcome A) → Cut 10 t b rest → Cut 10 u b more → LineAnswers format t o → LineAnswers format u o
  first-line-only t u b rest more o c d h = answer_moves format c d h

module _ {A F : Type 0} (format : Format A F) (once : Once format.Formed) where
  -- A text has one answer.
  pub one_reading : (t : List ℕ) (os ps : List (Outcome A)) → TextAnswers format t os → TextAnswers format t ps → os ≡ ps
  one_reading t os ps h k = texts_once format once h k

  -- Reading a line into lent areas has one result, and leaves one thing there.
  pub one_line :
      (lent : Lent A) (t : List ℕ) (olds news news' : List (List ℕ)) (o p : Outcome ℕ) → ReadsLine format lent t olds news o
      → ReadsLine format lent t olds news' p → (o ≡ p) × (news ≡ news')
  one_line lent t olds news news' o p h k = read_once format lent once h k

  -- So has reading a text into what is lent for each line.
  pub one-text :
      (lent : Lent A) (t : List ℕ) (recs : List (List ℕ)) (num pla : List ℕ) (recs₁ : List (List ℕ)) (num₁ pla₁ : List ℕ) (recs₂ : List (List ℕ))
      (num₂ pla₂ : List ℕ) (k at j to : ℕ) → ReadsText format lent t recs num pla recs₁ num₁ pla₁ k at
      → ReadsText format lent t recs num pla recs₂ num₂ pla₂ j to → (k ≡ j) × (at ≡ to) × (recs₁ ≡ recs₂) × (num₁ ≡ num₂) × (pla₁ ≡ pla₂)
  one-text lent t recs num pla recs₁ num₁ pla₁ recs₂ num₂ pla₂ k at j to g h = read-text_once format lent once g h

module _ {A F : Type 0} (format : Format A F) (sound : Sound format) where
  -- What is written of accepted records is read back: these records, and nothing else.
  pub read_back :
      (cs : List A) (os : List (Outcome A)) → Accepted format cs → TextAnswers format (text_of format.body cs) os → os ≡ map gives cs
  read_back cs os a h = reads_back format sound cs a refl h

  -- One byte of the text is replaced, lost or put in: a line is refused, the records read are among those sent, in their order, and at
  -- most two are missing.
  pub one_byte :
      (cs : List A) (u : List ℕ) (os : List (Outcome A)) → Accepted format cs → Change (text_of format.body cs) u → TextAnswers format u os
      → Robust cs os
  one_byte cs u os a c h = one_edit format sound cs a (edit_of c) os h

  -- After damage of any size, every line behind a line feed that is left is read as in the clean text.
  pub recovers :
      (cs : List A) (x y z u : List ℕ) (os : List (Outcome A)) → Accepted format cs → text_of format.body cs ≡ x ++ (10 ∷ y) → u ≡ z ++ (10 ∷ y)
      → TextAnswers format u os → Recovers format cs y z os
  recovers cs x y z u os a e q h = recover format sound cs x y z u a e q h
