-- `lettered_check::mark` meets its contract: the loop keeps that the marks of the digits passed are written, and how these stand to their letters' limits. Assumes nothing.
use mathlib.Core.Path.{◌≡◌, sym, ap, ◌∙◌, subst}
use mathlib.Core.Bool.{Bool, true, false, true≢false, false≢true}
use mathlib.Core.List.{List, [], ◌∷◌, map-id}
use Prim.Native.Nat.{ℕ, ◌+◌, ◌*◌, ◌≤◌, ◌<◌}
use native.Mathlib.Omega.{arith}
use borrow.Author.Count.{below_more}
use lib.ListN.{length, get_or, set}
use Rattle.laws.specs.document.Laid.{laid_over}
use Rattle.laws.specs.Tells.{tells}
use Rattle.laws.specs.Laying.{Mapped, mapped-none, mapped-more, mapped-all}
use Rattle.refusal.specs.document.Table.{Clear}
use Rattle.refusal.specs.Laws.{never, clear_one}
use Rattle.skeleton.specs.Atoms.{rank-under}
use Rattle.skeleton.specs.document.Label.{row20}
use Rattle.skeleton.specs.document.Atom.{bonds, rank, atom_of}
use Rattle.skeleton.specs.document.AtomMarks.{atoms}
use Rattle.lettered_check.specs.document.Lettered.{marks_of}
use Rattle.lettered_check.specs.Lettered.{length_marks, mark-at}
use Rattle.lettered_check.specs.Rows.{above_applies, within_passes}
use Rattle.lettered_check.proofs.mark.Goals.{then-top-k, else-top-k}
use Rattle.lettered_check.proofs.mark.Goals as goal

-- how the digits before i stand to their letters' limits
abbrev SoFar : List ℕ → Bool → ℕ → Type 0
SoFar ms kept i = (kept ≡ true → (p : ℕ) → p < i + 1 → (row20 atoms bonds ms).applies p → ⊥) × (kept ≡ false → Clear (row20 atoms bonds ms ∷ []) → ⊥)

-- the rank of an atom is below three
low : (b : ℕ) {r : ℕ} → r ≡ rank (atom_of b) → r < 3
low b e = omega (arith, e, rank-under (atom_of b))

-- there is room for the marks
room_for : (ds ls out : List ℕ) → length ls ≡ length ds → length ds ≤ length out → length (marks_of ds ls) ≤ length out
room_for ds ls out e h = omega (arith, length_marks ds ls e)

pub loop-i-init : goal.loop-i-init
loop-i-init c =
    (mapped-none (λ m. m) _ _ (room_for _ _ _ c.requires.letters_len c.requires.ds_in_bounds), ((λ e p l a. let x : ⊥ = omega (arith, a.0) in x), λ e. absurd (true≢false e)))

pub loop-i-preserved : goal.loop-i-preserved
loop-i-preserved c = let long : length (marks_of c.args.ds.now c.args.letters.now) ≡ length c.args.ds.now = length_marks c.args.ds.now c.args.letters.now c.requires.letters_len in
    let ms : List ℕ = marks_of c.args.ds.now c.args.letters.now in
    let above : c.top.result < get_or c.args.ds.now c.loop-i.i 0 → c.if-top-k.kept ≡ false → SoFar (ms) c.if-top-k.kept (c.loop-i.i + 1) = λ t e. (
      λ f. absurd (false≢true (sym e ∙ f)),
      λ f k. never k (c.loop-i.i + 1) (above_applies c.args.ds.now c.args.letters.now c.requires.letters_len c.loop-i.i (omega arith) c.ranked-r.ensures (omega (arith, t, c.top.ensures))),
    ) in
    let within : get_or c.args.ds.now c.loop-i.i 0 ≤ c.top.result → c.if-top-k.kept ≡ c.loop-i.kept → SoFar (ms) c.if-top-k.kept (c.loop-i.i + 1) = λ t e. (
      λ f. below_more _ _ (c.loop-i.invariant.1.0 (sym e ∙ f)) (within_passes c.args.ds.now c.args.letters.now c.requires.letters_len c.loop-i.i (omega arith) c.ranked-r.ensures (λ g. let x : ⊥ = omega (arith, t, g, c.top.ensures) in x)),
      λ f. c.loop-i.invariant.1.1 (sym e ∙ f),
    ) in
    let sofar : SoFar (ms) c.if-top-k.kept (c.loop-i.i + 1) = elim c.if-top-k.branch [ then-top-k w ↦ above w.if-top-k.true w.kept-is | else-top-k w ↦ within w.if-top-k.false w.kept-is ] in
    let ds = c.args.ds.now in
    let ls = c.args.letters.now in
    let e = mark-at ds ls c.loop-i.i c.requires.letters_len (omega arith) in
    let q : get_or (marks_of ds ls) c.loop-i.i 0 ≡ 3 * get_or ds c.loop-i.i 0 + c.ranked-r.result = omega (arith, e, c.ranked-r.ensures) in (
      subst (λ (m : ℕ). Mapped (λ m. m) (marks_of ds ls) c.args.out.now (set c.loop-i.out c.loop-i.i m) (c.loop-i.i + 1)) q
          (mapped-more (λ m. m) (marks_of ds ls) c.args.out.now (room_for _ _ _ c.requires.letters_len c.requires.ds_in_bounds) c.loop-i.invariant.0 (omega (arith, long))),
      sofar,
    )

pub returns : goal.returns
returns c = let long : length (marks_of c.args.ds.now c.args.letters.now) ≡ length c.args.ds.now = length_marks c.args.ds.now c.args.letters.now c.requires.letters_len in
    let all : c.loop-i.out ≡ laid_over (marks_of c.args.ds.now c.args.letters.now) c.args.out.now = let ms = marks_of c.args.ds.now c.args.letters.now in
    mapped-all (λ m. m) ms c.args.out.now (room_for _ _ _ c.requires.letters_len c.requires.ds_in_bounds) c.loop-i.invariant.0 (omega (arith, long)) ∙ ap (λ (l : List ℕ). laid_over l c.args.out.now) (map-id ms) in record { out_after = all; tells = tells c.loop-i.kept (λ e. clear_one (λ p a. c.loop-i.invariant.1.0 e p (omega (arith, a.1, long)) a)) c.loop-i.invariant.1.1 }
