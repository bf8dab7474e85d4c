-- An accepted edge list, coded: the code that is written, or the room that it would take. Assumes nothing.
use mathlib.Core.Path.{◌≡◌, refl, ap, ◌∙◌}
use mathlib.Core.List.{List}
use Prim.Native.Nat.{ℕ, ◌≤◌, ◌<◌}
use lib.ListN.{length}
use Rattle.refusal.specs.document.Table.{Clear, gives, refuses, Writes, Gives}
use Rattle.refusal.specs.Giving.{given}
use Rattle.refusal.proofs.Giving.{refused-short}
use Rattle.limits.specs.document.Limits.{size}
use Rattle.skeleton.specs.document.Skeleton.{rooted}
use Rattle.form.specs.Forms.{IsForm, form-size}
use Rattle.zurkhovel.specs.Accepted.{skeleton_of, rooted-size}
use Rattle.zurkhovel.specs.document.InEdition.{edge_table}

module _ {e : ℕ} (N : ℕ) (E : List ℕ) (r : ℕ) (clear : Clear (edge_table e size N E r)) where
  -- the rooted code has N digits
  rooted-sized : (c : List ℕ) → c ≡ rooted N E r → length c ≡ N
  rooted-sized c e = ap length e ∙ rooted-size E clear

  module _ {old new : List ℕ} where
    pub rooted-short : length old < N → new ≡ old → Gives (edge_table e size N E r) (λ c. c ≡ rooted N E r) old new (refuses 15 N)
    rooted-short h e = refused-short clear rooted-sized refl h e

    pub rooted-given :
        N ≤ length old → Writes (λ c. c ≡ rooted N E r) old N new → Gives (edge_table e size N E r) (λ c. c ≡ rooted N E r) old new (gives N)
    rooted-given h w = given clear rooted-sized h w

  -- the code of a form has N digits, and there is one
  module _ (form : ℕ → List ℕ → List ℕ → Type 0) (f : IsForm form) where
    form-sized : (c : List ℕ) → form N E c → length c ≡ N
    form-sized c x = form-size form f N E c (skeleton_of clear).tree x

    pub form-short : {old new : List ℕ} → length old < N → new ≡ old → Gives (edge_table e size N E r) (form N E) old new (refuses 15 N)
    form-short h e = refused-short clear form-sized (f.some N E (skeleton_of clear).tree).1 h e

    pub form-given : {old new : List ℕ} → N ≤ length old → Writes (form N E) old N new → Gives (edge_table e size N E r) (form N E) old new (gives N)
    form-given h w = given clear form-sized h w
