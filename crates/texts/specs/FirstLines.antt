-- The first lines of a text, as a reader takes them one by one. In order: all of them are `TextAnswers`, both ways; one more; two readings, by
-- one format or by two; they are one for each number of lines; what they leave in an area that is lent, w bytes for each. Assumes nothing.
use Rattle.std.specs.Prelude.{◌≡◌, ℕ, ◌+◌, ◌*◌, ◌≤◌}
use Rattle.std.proofs.Math.Path.{refl, ap}
use Rattle.std.proofs.Common.{ap₂, subst, ◌∙◌, length-take-le}
use mathlib.Core.List.{List, [], ◌∷◌, ◌++◌, append_assoc}
use Rattle.std.proofs.Math.Nat.{mul-suc}
use native.Mathlib.Omega.{arith}
use Rattle.std.proofs.Math.ListN.{length, take, drop, length-append, length-drop}
use Rattle.std.proofs.Math.Seq.{take-append-add, drop-append-add}
use borrow.Rule.Slice.PartMut.{mid_of, put_mid}
use Rattle.laws.specs.Laid.{laid_length}
use Rattle.refusal.specs.document.Table.{Clear, Outcome, gives, refuses, kept, left}
use Rattle.texts.specs.document.Text.{Format, LineAnswers, TextAnswers}
use Rattle.texts.specs.document.Lent.{block, blocks, Taken, none, unfinished, next}
use Rattle.texts.specs.Judging.{judged}
use Rattle.texts.specs.Sound.{Once}
use Rattle.texts.specs.Cuts.{cut_once, cut_some, not_free}
use Rattle.texts.specs.Answered.{answered_once, clear_line}

module _ {A F : Type 0} (format : Format A F) where
  pub taken-all : {t rest : List ℕ} {os : List (Outcome A)} → Taken format t os rest → rest ≡ [] → TextAnswers format t os
  taken-all none e = rw e TextAnswers.none
  taken-all (unfinished l f a) e = TextAnswers.unfinished l f a
  taken-all (next c a h) e = TextAnswers.next c a (taken-all h e)

  pub all-taken : {t : List ℕ} {os : List (Outcome A)} → TextAnswers format t os → Taken format t os []
  all-taken TextAnswers.none = none
  all-taken (TextAnswers.unfinished l f a) = unfinished l f a
  all-taken (TextAnswers.next c a h) = next c a (all-taken h)

  -- nothing can be taken of nothing
  none-taken : {t more : List ℕ} {os : List (Outcome A)} → Taken format t os more → t ≡ [] → (os ≡ []) × (more ≡ [])
  none-taken none e = (refl, e)
  none-taken (unfinished l f a) e = let n = ap length e in absurd (omega arith)
  none-taken (next c a h) e = let n = ap length e in let l = cut_some c in absurd (omega arith)

  pub taken-join :
      {t rest more : List ℕ} {os ps : List (Outcome A)} → Taken format t os rest → Taken format rest ps more → Taken format t (os ++ ps) more
  taken-join none k = k
  taken-join (unfinished l f a) k = let e = none-taken k refl in rw (e.0, e.1) (unfinished l f a)
  taken-join (next c a h) k = next c a (taken-join h k)

-- Q relates the elements of two lists, place by place, and they are as long
abbrev pub Pairwise : {A B : Type 0} → (A → B → Type 0) → List A → List B → Type 0
Pairwise Q [] [] = Unit {0}
Pairwise Q [] (y ∷ ys) = ⊥
Pairwise Q (x ∷ xs) [] = ⊥
Pairwise Q (x ∷ xs) (y ∷ ys) = Q x y × Pairwise Q xs ys

pairwise_equal : {A : Type 0} (xs ys : List A) → Pairwise ◌≡◌ xs ys → xs ≡ ys
pairwise_equal [] [] h = refl
pairwise_equal (x ∷ xs) (y ∷ ys) h = ap₂ ◌∷◌ h.0 (pairwise_equal xs ys h.1)
-- where a line ends is the same for any format
pairwise_equal {A = A} [] (y ∷ ys) h = elim h [ ]
pairwise_equal {A = A} (x ∷ xs) [] h = elim h [ ]

module _ {A F B G : Type 0} (format : Format A F) (other : Format B G) where
  -- two readings of so many lines leave one rest, and their answers are related as those to one line are
  pub taken-pairs :
      (Q : Outcome A → Outcome B → Type 0) → ((t : List ℕ) (o : Outcome A) (u : Outcome B) → LineAnswers format t o → LineAnswers other t u → Q o u)
      → {t rest more : List ℕ} {os : List (Outcome A)} {ps : List (Outcome B)} → Taken format t os rest → Taken other t ps more → length os ≡ length ps
      → Pairwise Q os ps × (rest ≡ more)
  taken-pairs Q v none none e = (tt, refl)
  taken-pairs Q v none (unfinished l f a) e = absurd (omega arith)
  taken-pairs Q v none (next c a h) e = absurd (omega arith)
  taken-pairs Q v (unfinished l f a) none e = absurd (omega arith)
  taken-pairs Q v (unfinished {t} {o} l f a) (unfinished {o = u} m g b) e = ((v t o u a b, tt), refl)
  taken-pairs Q v (unfinished l f a) (next {b} {rest} c d h) e = absurd (not_free 10 b rest (rw c.parts at f))
  taken-pairs Q v (next c a h) none e = absurd (omega arith)
  taken-pairs Q v (next {b} {rest} c d h) (unfinished l f a) e = absurd (not_free 10 b rest (rw c.parts at f))
  taken-pairs Q v (next {t} {b} {rest} {o = o} c a h) (next {b = b'} {rest = rest'} {o = u} c' a' h') e =
      let q = (cut_once 10 t b rest b' rest' c c').1 in
      let r = taken-pairs Q v (rw q at h) h' (omega arith) in
      ((v t o u a a', r.0), r.1)

  -- where nothing is left, no more lines can be taken
  pub taken_most :
      {t rest more : List ℕ} {os : List (Outcome A)} {ps : List (Outcome B)} → Taken format t os rest → rest ≡ [] → Taken other t ps more
      → length ps ≤ length os
  taken_most none e k = let n = ap length (none-taken other k e).0 in omega arith
  taken_most (unfinished l f a) e none = omega arith
  taken_most (unfinished l f a) e (unfinished m g b) = omega arith
  taken_most (unfinished l f a) e (next {b} {rest} c d h) = absurd (not_free 10 b rest (rw c.parts at f))
  taken_most (next c a h) e none = omega arith
  taken_most (next {b} {rest} c d h) e (unfinished l f a) = absurd (not_free 10 b rest (rw c.parts at f))
  taken_most (next {t} {b} {rest} c a h) e (next {b = b'} {rest = rest'} c' a' h') =
      let q = (cut_once 10 t b rest b' rest' c c').1 in
      let r = taken_most h e (rw (← q) at h') in
      omega arith

-- so many lines are answered in one way, and leave one rest
pub taken_once :
    {A F : Type 0} (format : Format A F) → Once format.Formed → {t rest more : List ℕ} {os ps : List (Outcome A)} → Taken format t os rest
    → Taken format t ps more → length os ≡ length ps → (os ≡ ps) × (rest ≡ more)
taken_once format once {os = os} {ps} g h e =
    let r = taken-pairs format format ◌≡◌ (λ t o u a b. answered_once format once a b) g h e in (pairwise_equal os ps r.0, r.1)

-- ---- what is left in what is lent

-- what an area that shows v shows of a record fits w bytes
abbrev pub Fit : {A : Type 0} → ℕ → (A → List ℕ) → Outcome A → Type 0
Fit w v (gives c) = length (v c) ≤ w
Fit w v (refuses k p) = Unit {0}

abbrev pub AllFit : {A : Type 0} → ℕ → (A → List ℕ) → List (Outcome A) → Type 0
AllFit w v [] = Unit {0}
AllFit w v (o ∷ os) = Fit w v o × AllFit w v os

-- what an area shows of an accepted record fits w bytes
abbrev pub Fits : {A F : Type 0} → Format A F → ℕ → (A → List ℕ) → Type 0
Fits {A} {F} format w v = (q : F) → Clear (judged format.rows q) → length (v (format.carries q)) ≤ w

module _ {A F : Type 0} (format : Format A F) (once : Once format.Formed) (w : ℕ) (v : A → List ℕ) (room : Fits format w v) where
  pub answer_fits : {t : List ℕ} {o : Outcome A} → LineAnswers format t o → Fit w v o
  answer_fits (kept c r) = subst (λ (a : A). length (v a) ≤ w) r.holds (room r.parts (clear_line format once c r.shape))
  answer_fits (left l e) = tt

  pub taken_fit : {t rest : List ℕ} {os : List (Outcome A)} → Taken format t os rest → AllFit w v os
  taken_fit none = tt
  taken_fit (unfinished l f a) = (answer_fits a, tt)
  taken_fit (next c a h) = (answer_fits a, taken_fit h)

module _ {A : Type 0} (w : ℕ) (v : A → List ℕ) where
  pub length_block : (o : Outcome A) (old : List ℕ) → Fit w v o → length old ≡ w → length (block v o old) ≡ w
  unfolding block
  length_block (gives c) old f e = laid_length (v c) old (omega arith) ∙ e
  length_block (refuses k p) old f e = e

  -- one line more
  pub blocks_more :
      (os : List (Outcome A)) (o : Outcome A) (old : List ℕ) (b : ℕ) → AllFit w v os → b ≡ w * length os → b + w ≤ length old →
      put_mid b w (blocks w v os old) (block v o (mid_of b w (blocks w v os old))) ≡ blocks w v (os ++ (o ∷ [])) old
  unfolding blocks
  blocks_more [] o old b f e l = let z : b ≡ 0 = omega arith in rw z
  blocks_more (q ∷ os) o old b f e l =
      let x = block v q (take w old) in
      let r = blocks w v os (drop w old) in
      let d = w * length os in
      let n = length_block q (take w old) f.0 (length-take-le w old (omega arith)) in
      let k : b ≡ length x + d = omega (arith, mul-suc w (length os)) in
      let p : take b (x ++ r) ≡ x ++ take d r = ap (λ (i : ℕ). take i (x ++ r)) k ∙ take-append-add x r d in
      let u : drop b (x ++ r) ≡ drop d r = ap (λ (i : ℕ). drop i (x ++ r)) k ∙ drop-append-add x r d in
      let ih = blocks_more os o (drop w old) d f.1 refl (simp length-drop (omega arith)) in
      rw (p, u) (append_assoc x (take d r) (block v o (mid_of d w r) ++ drop w (drop d r)) ∙ ap (λ (z : List ℕ). x ++ z) ih)

  pub length_blocks : (os : List (Outcome A)) (old : List ℕ) → AllFit w v os → w * length os ≤ length old → length (blocks w v os old) ≡ length old
  unfolding blocks
  length_blocks [] old f l = refl
  length_blocks (q ∷ os) old f l =
      let m = mul-suc w (length os) in
      let n = length_block q (take w old) f.0 (length-take-le w old (omega arith)) in
      let ih = length_blocks os (drop w old) f.1 (simp length-drop (omega arith)) in
      simp length-append (omega (arith, length-drop w old))
