-- What is made of the centred code of an accepted edge list: what is known of the code, the result that is written, or the room that it would
-- take. Assumes nothing.
use mathlib.Core.Path.{◌≡◌, refl, sym, ap, ◌∙◌, subst}
use mathlib.Core.List.{List}
use Prim.Native.Nat.{ℕ, ◌≤◌, ◌<◌}
use lib.ListN.{length, take}
use Rattle.laws.specs.document.Laid.{Laid}
use Rattle.refusal.specs.document.Table.{Clear, gives, refuses, Writes, Gives}
use Rattle.refusal.specs.Laws.{clear_left, others}
use Rattle.refusal.specs.Giving.{given, written, written_length}
use Rattle.refusal.proofs.Giving.{refused-short}
use Rattle.limits.specs.document.Limits.{size}
use Rattle.digit_code.specs.document.Code.{code_rows}
use Rattle.digit_code.specs.Right.{RightCode, clear_right}
use Rattle.skeleton.specs.document.Skeleton.{IsSkeleton}
use Rattle.form.specs.document.Form.{IsCentred, OfCentred}
use Rattle.form.specs.Forms.{centred-form, form-size}
use Rattle.form.specs.Accepted.{form_accepted}
use Rattle.lines.specs.Lawful.{Code, lawful}
use Rattle.zurkhovel.specs.Accepted.{skeleton_of}
use Rattle.zurkhovel.specs.document.InEdition.{edge_table}

-- the code that was written is the one that was to be
pub code_right : {Right : List ℕ → Type 0} {n : ℕ} {old new : List ℕ} → Writes Right old n new → Right (take n new)
code_right {Right} w = subst Right (sym (written w)) w.right

-- the code that was written, where it is read again
module _ {R N : ℕ} {E old digits : List ℕ} (s : IsSkeleton size R N E) (w : Writes (IsCentred N E) old N digits) where
  code_clear : Clear (code_rows size R (take N digits))
  code_clear = rw (written w) (clear_left (code_rows size R w.result) _ (form_accepted IsCentred centred-form size R w.result N E s w.right))

  pub right_code : RightCode size R (take N digits)
  right_code = clear_right size R (take N digits) code_clear

  pub code-digits : R ≤ 9 → Code (take N digits)
  code-digits h = lawful R h (take N digits) (others code_clear)

-- l is what Of has it to be of the centred code
abbrev Made : ℕ → List ℕ → (List ℕ → List ℕ → Type 0) → List ℕ → Type 0
Made N E Of l = (c : List ℕ) × IsCentred N E c × Of c l

module _ {e : ℕ} (N : ℕ) (E : List ℕ) (clear : Clear (edge_table e size N E 1)) where
  centred-size : (c : List ℕ) → IsCentred N E c → length c ≡ N
  centred-size c x = form-size IsCentred centred-form N E c (skeleton_of clear).tree x

  -- a result of n bytes
  module _ (Of : List ℕ → List ℕ → Type 0) (n : ℕ) (sized : (c l : List ℕ) → length c ≡ N → Of c l → length l ≡ n) where
    all-sized : (l : List ℕ) → Made N E Of l → length l ≡ n
    all-sized l (c, x, o) = sized c l (centred-size c x) o

    pub of_short :
        {old new : List ℕ} → ((c : List ℕ) → IsCentred N E c → (l : List ℕ) × Of c l) → length old < n → new ≡ old
        → Gives (edge_table e size N E 1) (Made N E Of) old new (refuses 15 n)
    of_short some h e =
        let (c, x) = centred-form.some N E (skeleton_of clear).tree in
        let (l, o) = some c x in refused-short clear all-sized (c, x, o) h e

    pub of_given :
        {l old new : List ℕ} {m : ℕ} → n ≤ length old → Made N E Of l → Laid l old new m → Gives (edge_table e size N E 1) (Made N E Of) old new (gives m)
    of_given {l} {old} {new} {m} h o k =
        let q : m ≡ n = k.count ∙ all-sized l o in
        subst (λ (i : ℕ). Gives (edge_table e size N E 1) (Made N E Of) old new (gives i)) (sym q)
        (given clear all-sized h (record { result = l; right = o; count = sym q ∙ k.count; lies = k.lies }))

  -- the same of what f makes of the code
  module _ (f : List ℕ → List ℕ) (n : ℕ) (sized : (c : List ℕ) → length c ≡ N → length (f c) ≡ n) where
    made-sized : (c l : List ℕ) → length c ≡ N → l ≡ f c → length l ≡ n
    made-sized c l h e = ap length e ∙ sized c h

    pub derived_size : {before digits : List ℕ} → Writes (IsCentred N E) before N digits → length (f (take N digits)) ≡ n
    derived_size {digits = digits} w = sized (take N digits) (sym (written_length w))

    pub derived_short : {old new : List ℕ} → length old < n → new ≡ old → Gives (edge_table e size N E 1) (OfCentred N E f) old new (refuses 15 n)
    derived_short = of_short (λ c l. l ≡ f c) n made-sized (λ c x. (f c, refl))

    pub derived_given :
        {old new digits before : List ℕ} {m : ℕ} → n ≤ length old → Writes (IsCentred N E) before N digits → Laid (f (take N digits)) old new m
        → Gives (edge_table e size N E 1) (OfCentred N E f) old new (gives m)
    derived_given h w = of_given (λ c l. l ≡ f c) n made-sized h (_, code_right w, refl)
