-- The edges of a right code: how many bytes they are, and what a call that writes them answers. Assumes nothing.
use mathlib.Core.Path.{◌≡◌, refl, ap, ◌∙◌}
use mathlib.Core.List.{List}
use Prim.Native.Nat.{ℕ, ◌-◌, ◌*◌, ◌≤◌, ◌<◌}
use native.Mathlib.Omega.{arith}
use lib.ListN.{length}
use Rattle.laws.specs.document.Laid.{Laid}
use Rattle.refusal.specs.document.Table.{Clear, gives, refuses}
use Rattle.refusal.specs.Laws.{clear_left, others}
use Rattle.refusal.specs.Giving.{given-laid}
use Rattle.refusal.proofs.Giving.{refused-short}
use Rattle.limits.specs.document.Limits.{size}
use Rattle.digit_code.specs.document.Code.{decode}
use Rattle.digit_code.specs.Ends.{ends_sum}
use Rattle.digit_code.specs.Right.{clear_right}
use Rattle.zurkhovel.specs.Rooting.{EndsWhole, LaysEdges}
use Rattle.zurkhovel.specs.Places.{edges-of}
use Rattle.texts.specs.Judging.{none}
use Rattle.edition.specs.document.Edition.{neighbours_in}
use Rattle.zurkhovel.specs.document.InEdition.{code_table, form_table}

-- a right code, and one of a form, ends as a code does
pub whole_of : {e : ℕ} (c : List ℕ) → Clear (code_table e c) → EndsWhole c
whole_of {e} c k = let r = clear_right size (neighbours_in e) c (others k) in (r.ends, r.few)

pub right_of : {e : ℕ} (form : ℕ → List ℕ → List ℕ → Type 0) (c : List ℕ) → Clear (form_table e form c) → EndsWhole c
right_of {e} form c k = whole_of c (clear_left (code_table e c) _ k)

-- so it has a digit
pub whole_some : (c : List ℕ) → EndsWhole c → 1 ≤ length c
whole_some c k = omega (arith, ends_sum 1 c k.0)

module _ (c : List ℕ) (k : EndsWhole c) where
  -- two for each vertex but the root
  edges_length : length (decode c) ≡ 2 * (length c - 1)
  edges_length = edges-of c k.0

  edges-sized : (E : List ℕ) → E ≡ decode c → length E ≡ 2 * (length c - 1)
  edges-sized E e = ap length e ∙ edges_length

  pub edges_room : {m : ℕ} → 2 * (length c - 1) ≤ m → length (decode c) ≤ m
  edges_room h = omega (arith, edges_length)

  module _ {old new : List ℕ} where
    pub edges-short : length old < 2 * (length c - 1) → new ≡ old → LaysEdges c old new (refuses 15 (2 * (length c - 1)))
    edges-short h e = refused-short none edges-sized refl h e

    pub edges-given : {n : ℕ} → 2 * (length c - 1) ≤ length old → Laid (decode c) old new n → LaysEdges c old new (gives n)
    edges-given h l = given-laid none (edges_room h) l
