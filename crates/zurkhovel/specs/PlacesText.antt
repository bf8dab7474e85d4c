-- What the calls on a line, and the call on equal vertices, tell fits into bytes, as in `Places`. Assumes nothing.
use Rattle.std.proofs.Common.{ap, arith}
use Rattle.std.specs.Prelude.{List, ℕ, length}
use Rattle.refusal.specs.document.Table.{Outcome}
use Rattle.refusal.specs.document.Small.{SmallAnswer}
use Rattle.refusal.specs.Laws.{clear_left, others}
use Rattle.refusal.specs.Bounded.{small}
use Rattle.refusal.proofs.Bounded.{small-written}
use Rattle.limits.specs.document.Limits.{size}
use Rattle.form.specs.document.Form.{IsCentred}
use Rattle.form.specs.Forms.{centred-form, form-size}
use Rattle.lines.specs.Form.{front_rows}
use Rattle.lines.specs.Plain.{line-short}
use Rattle.zurkhovel.specs.document.Lines.{ReadLine, WriteLine}
use Rattle.zurkhovel.specs.document.Alike.{EqualVertices}
use Rattle.zurkhovel.specs.Bounds.{edges_bounded, line-digits, behind_front, line_bounded}
use Rattle.zurkhovel.specs.Places.{form_few}
use Rattle.zurkhovel.specs.document.Tabled.{Tabled}
use Rattle.zurkhovel.specs.document.InEdition.{EdgeTable}

module _ (e : ℕ) where
  pub places-read-line : (t old new : List ℕ) (o : Outcome ℕ) → ReadLine e t old new o → SmallAnswer o
  places-read-line t old new o g =
      small (line_bounded e t old) (λ k n w.
      let f = clear_left (front_rows size t) (behind_front e t old) (others k) in
      omega (arith, w.count, ap length w.right.holds, line-digits t f w.right.parts w.right.shape)) g

  pub places-equal-vertices : (N : ℕ) (E old new : List ℕ) (o : Outcome ℕ) → EqualVertices e N E old new o → SmallAnswer o
  places-equal-vertices N E old new o g =
      small-written (edges_bounded e (omega arith) N E 1) (λ k l (c, x, b). omega (arith, b.count, form_few e IsCentred centred-form N E k c x)) g

module _ {T : EdgeTable} {R : ℕ} (t : Tabled T R) where
  pub places-write-line : (N : ℕ) (E old new : List ℕ) (o : Outcome ℕ) → WriteLine T N E old new o → SmallAnswer o
  places-write-line N E old new o g =
      small-written (t.bounded (omega arith) N E 1) (λ k l (c, x, q).
      let s = t.skeleton N E 1 k in
      let h = form-size IsCentred centred-form N E c s.tree x in
      omega (arith, ap length q, h, s.few, line-short c (omega (arith, h, s.few)))) g
