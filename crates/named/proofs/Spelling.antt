-- The digits and letters of a right code, written or found too long, answer for a call that is asked for that code. Assumes nothing.
use mathlib.Core.Path.{◌≡◌, sym, ap, ◌∙◌, subst}
use mathlib.Core.List.{List, []}
use Prim.Native.Nat.{ℕ}
use lib.ListN.{length, take}
use Rattle.refusal.specs.document.Table.{Row, Clear, Outcome, Writes}
use Rattle.refusal.specs.document.Both.{TwoOutputs, GivesBoth}
use Rattle.refusal.specs.Both.{Sized}
use Rattle.refusal.proofs.Both.{both_behind}
use Rattle.refusal.specs.Giving.{written}
use Rattle.skeleton.specs.document.Label.{digits}
use Rattle.skeleton.specs.document.AtomMarks.{atoms}
use Rattle.letters.specs.document.Letters.{letters_of}
use Rattle.named.specs.document.Codes.{Spelled}
use Rattle.named.specs.Accepted.{digits_many, letters_many}

module _ {rs : List Row} {Right : List ℕ → Type 0} {N : ℕ} (clear : Clear rs) (sized : (c : List ℕ) → Right c → length c ≡ N) where
  spelled-sized : Sized (Spelled Right) N N
  spelled-sized d l (c, r, e, f) = (ap length e ∙ digits_many c ∙ sized c r, ap length f ∙ letters_many c ∙ sized c r)

  pub spelled :
      {c : List ℕ} {old new : TwoOutputs} {o : Outcome ℕ} → Right c → GivesBoth [] (λ d l. (d ≡ digits atoms c) × (l ≡ letters_of c)) old new o
      → GivesBoth rs (Spelled Right) old new o
  spelled {c} r g = both_behind clear spelled-sized (λ d l (e, f). (c, r, e, f)) g

-- what was written is right
pub written_right : {Right : List ℕ → Type 0} {old new : List ℕ} {n : ℕ} → Writes Right old n new → Right (take n new)
written_right {Right} w = subst Right (sym (written w)) w.right
