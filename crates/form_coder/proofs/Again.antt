-- Row 14 by coding again: the digits ds of the marks c are decoded, what they tell is coded, and the two codes are compared. Over the form; and
-- where every vertex is carbon. Assumes nothing.
use Rattle.std.specs.Prelude.{Ok, Err}
use mathlib.Core.Path.{◌≡◌, refl, sym, ap, ◌∙◌, subst}
use mathlib.Core.Logic.{◌↔◌}
use mathlib.Core.List.{List, [], ◌∷◌, map}
use Prim.Native.Nat.{ℕ, zero, suc, ◌-◌, ◌*◌, ◌≤◌, ◌<◌}
use native.Mathlib.Omega.{arith}
use lib.ListN.{length, get_or, take, replicate, length-map}
use Rattle.laws.specs.document.Laid.{Laid, laid_over}
use Rattle.laws.specs.Laid.{laid_length}
use Rattle.laws.specs.Laying.{laid-front}
use Rattle.refusal.specs.document.Table.{Writes}
use Rattle.refusal.specs.Checks.{Check, Answers, passes, fails}
use Rattle.refusal.specs.Laws.{clear_one, Alike}
use Rattle.refusal.proofs.Laws.{first-place, alike-answers}
use Rattle.refusal.specs.Giving.{laid_writes, written, written-room, written_length}
use Rattle.limits.specs.document.Limits.{size}
use Rattle.limits.specs.Width.{width}
use Rattle.digit_code.specs.document.Code.{digit, cap, decode}
use Rattle.digit_code.specs.Ends.{Ends}
use Rattle.digit_code.specs.Right.{RightCode}
use Rattle.skeleton.specs.document.Skeleton.{IsSkeleton}
use Rattle.skeleton.specs.document.Label.{digits, labels}
use Rattle.skeleton.specs.document.Atom.{Atom}
use Rattle.skeleton.specs.document.AtomMarks.{atoms}
use Rattle.skeleton.specs.Carbon.{carbon, carbon_mark}
use Rattle.skeleton.proofs.Carbon.{carbon-digits, carbon-labels}
use Rattle.form.specs.document.Form.{IsNTuple, row14_form}
use Rattle.form.specs.document.Labelled.{IsNTupleₗ, Own, row14ₗ}
use Rattle.form.specs.Labelled.{IsFormₗ}
use Rattle.form.specs.Rewritten.{n_tuple-carbon}
use Rattle.form_coder.proofs.Written.{n_tuple-told}

module _ (c ds : List ℕ) (told : ds ≡ digits atoms c) (k : Ends 1 ds × IsSkeleton size width (length c) (decode ds)) where
  pub digits_few : length ds ≤ size
  unfolding digits
  digits_few = omega (arith, ap length told, length-map c atoms.arity, k.1.few)

  -- what is written has room
  pub edges_fit : length (decode ds) ≤ 2 * (size - 1)
  edges_fit = omega (arith, k.1.tree.edges, k.1.few)

  module _ {old E : List ℕ} {m : ℕ} (l : Laid (decode ds) old E m) where
    -- the edges as they are handed on
    pub front : take m E ≡ decode ds
    front = written (laid_writes l) ∙ (laid_writes l).right

    pub front-room : m ≤ length E
    front-room = written-room (laid_writes l)

    pub front_length : m ≡ length (take m E)
    front_length = written_length (laid_writes l)

    pub skeleton_again : IsSkeleton size width (length c) (take m E)
    skeleton_again = rw front k.1

    module _ (form : ℕ → List ℕ → (ℕ → Atom) → List ℕ → Type 0) (f : IsFormₗ atoms form) {rest own : List ℕ} (w : Writes (form (length c) (take m E) (labels atoms c)) rest (length c) own) where
      own_form : form (length c) (decode (digits atoms c)) (labels atoms c) (take (length c) own)
      own_form = rw (← told, ← front, written w) w.right

      pub judged-same : c ≡ take (length c) own → Answers (row14ₗ atoms form c ∷ []) (Ok tt)
      judged-same e = passes (clear_one {r = row14ₗ atoms form c} (λ p a. a.1 (subst (form (length c) (decode (digits atoms c)) (labels atoms c)) (sym e) own_form)))

      pub judged-other : (c ≡ take (length c) own → ⊥) → Answers (row14ₗ atoms form c ∷ []) (Err (record { row = 14; place = 0 }))
      judged-other n =
          fails (first-place {r = row14ₗ atoms form c} (refl, λ x. n (f.one (length c) (decode (digits atoms c)) (labels atoms c) (rw told at k.1.tree) x own_form)) (λ q h a. let z : ⊥ = omega arith in z))

-- ---- where every vertex is carbon

module _ (c : List ℕ) where
  -- the skeleton that the marks tell is the digits'
  tells : (P : ℕ → List ℕ → (ℕ → Atom) → Type 0) → P (length (map carbon_mark c)) (decode (digits atoms (map carbon_mark c))) (labels atoms (map carbon_mark c)) ≡ P (length c) (decode c) carbon
  tells P i = P (length-map c carbon_mark i) (decode (carbon-digits c i)) (λ v. carbon-labels c v i)

  own_carbon : Own atoms (IsNTupleₗ atoms) (map carbon_mark c) ↔ IsNTuple (length c) (decode c) c
  own_carbon = rw (tells (λ n E l. IsNTupleₗ atoms n E l (map carbon_mark c))) (
    λ x. subst (IsNTuple (length c) (decode c)) (carbon-digits c) (n_tuple-told (length c) (decode c) (map carbon_mark c) x),
    λ x. (n_tuple-carbon (length c) (decode c) (map carbon_mark c)).1 (c, refl, x),
  )

  pub rows-carbon : Alike (row14ₗ atoms (IsNTupleₗ atoms) (map carbon_mark c) ∷ []) (row14_form IsNTuple c ∷ [])
  rows-carbon = let (there, back) = own_carbon in record { rows = (refl, λ p. (λ (e, n). (e, λ x. n (back x)), λ (e, n). (e, λ x. n (there x))), tt) }

  -- the marks are written over zeros
  module _ {marks : List ℕ} (few : length c ≤ size) (l : marks ≡ laid_over (map carbon_mark c) (replicate size 0)) where
    pub marks_long : length marks ≡ size
    marks_long = rw l (laid_length (map carbon_mark c) (replicate size 0) (omega (arith, length-map c carbon_mark)))

    marks-front : take (length c) marks ≡ map carbon_mark c
    marks-front = laid-front (map carbon_mark c) (replicate size 0) marks (length c) l (length-map c carbon_mark)

    pub marks-digits : c ≡ digits atoms (take (length c) marks)
    marks-digits = sym (ap (digits atoms) marks-front ∙ carbon-digits c)

    pub marks_length : length c ≡ length (take (length c) marks)
    marks_length = sym (ap length marks-front ∙ length-map c carbon_mark)

    pub marks-judged : {r : Check} → Answers (row14ₗ atoms (IsNTupleₗ atoms) (take (length c) marks) ∷ []) r → Answers (row14_form IsNTuple c ∷ []) r
    marks-judged {r} a = alike-answers rows-carbon (subst (λ x. Answers (row14ₗ atoms (IsNTupleₗ atoms) x ∷ []) r) marks-front a)

-- the digits of a right code are small
cap_most : (R p : ℕ) → cap R p ≤ R
cap_most R zero = omega arith
cap_most R (suc zero) = omega arith
cap_most R (suc (suc p)) = omega arith

pub digits-small : {most R : ℕ} {c : List ℕ} → RightCode most R c → R ≤ width → (i : ℕ) → i < length c → get_or c i 0 ≤ width
digits-small {R = R} {c = c} r h i l =
    let e : suc i - 1 ≡ i = omega arith in
    let z : digit c (suc i) ≤ width = omega (arith, r.small (suc i) (omega arith) (omega arith), cap_most R (suc i)) in
    rw e at z
