-- The rooted code at a vertex of an accepted edge list, as the bit forms take it.
--
-- In order: the code of an accepted list; what the writers require; a value; the packed form, laid out. Assumes nothing.
use mathlib.Core.Path.{◌≡◌, ap, ◌∙◌}
use mathlib.Core.List.{List, [], ◌++◌}
use Prim.Native.Nat.{ℕ, ◌≤◌}
use native.Mathlib.Nat.{le_refl}
use native.Mathlib.Omega.{arith}
use lib.ListN.{length, take, drop}
use lib.Seq.{take_all}
use Rattle.laws.specs.document.Laid.{laid_over, Laid}
use Rattle.refusal.specs.document.Table.{Clear, Outcome, gives, Answered, kept, Writes, Gives}
use Rattle.refusal.specs.Laws.{others, at_most}
use Rattle.refusal.specs.Giving.{written}
use Rattle.limits.specs.document.Limits.{size}
use Rattle.digit_code.specs.document.Code.{digit_rows}
use Rattle.skeleton.specs.document.Skeleton.{rooted}
use Rattle.skeleton.specs.Theorems.{right, degrees}
use Rattle.skeleton.specs.Accepted.{digits_pass}
use Rattle.bits.specs.Written.{Coded, packed_again, right_coded}
use Rattle.bits.specs.document.Written.{Packs}
use Rattle.refusal.specs.document.Reported.{Reporting}
use Rattle.zurkhovel.specs.document.Reported.{ReportedAtRoot}
use Rattle.zurkhovel.specs.Rooting.{Rooted}
use Rattle.zurkhovel.specs.Accepted.{skeleton_of, root_of, rooted-size}
use Rattle.refusal.proofs.Behind.{behind}
use Rattle.edition.specs.document.Edition.{neighbours_in}
use Rattle.zurkhovel.specs.document.InEdition.{edge_table}

-- ---- an accepted list

module _ {e most N r : ℕ} (E : List ℕ) (k : Clear (edge_table e most N E r)) where
  rooted_right : Clear (digit_rows (neighbours_in e) (rooted N E r))
  rooted_right =
      let s = skeleton_of k in
      let i = root_of E k in
      (digits_pass (neighbours_in e) (rooted N E r)).1
      (right N E r s.tree i.0 i.1, (degrees N E r s.tree i.0 i.1 (neighbours_in e)).0 s.degrees)

  rooted-coded : {S : ℕ} → neighbours_in e ≤ S → Coded S most (rooted N E r)
  rooted-coded {S} h = right_coded S most (rooted N E r) h rooted_right (omega (arith, rooted-size E k, at_most (others k)))

  -- what was written
  pub coded-at : {old code : List ℕ} {n : ℕ} → Writes (λ c. c ≡ rooted N E r) old N code → length code ≡ size → ReportedAtRoot N E r n → Rooted e most N E r code n
  coded-at w l e = record { clear = k; digits = written w ∙ w.right; long = l; count = e }

-- ---- what the writers require

module _ {e most N r n : ℕ} {E code : List ℕ} (t : Rooted e most N E r code n) where
  pub digits_length : length (take N code) ≡ N
  digits_length = ap length t.digits ∙ rooted-size E t.clear

  pub digits_within : most ≤ size → N ≤ size
  digits_within l = omega (arith, at_most (others t.clear))

  pub digits-coded : {S : ℕ} → neighbours_in e ≤ S → Coded S most (take N code)
  digits-coded h = rw t.digits (rooted-coded E t.clear h)

-- ---- a value

-- of the code's digits it is one of the code
pub value-given :
    {A : Type 0} {e most N r n : ℕ} {E code : List ℕ} {a : A} (Right : List ℕ → A → Type 0) → Rooted e most N E r code n → Right (take N code) a
    → Reporting (Answered (edge_table e most N E r) (Right (rooted N E r))) (ReportedAtRoot N E r) (gives a) n
value-given Right t h = record { promised = kept t.clear (rw t.digits at h); reported = t.count }

-- ---- the packed form

-- a list that is copied to the start of another
pub copied : {c old new : List ℕ} → new ≡ take (length c) c ++ drop (length c) old → (n : ℕ) → n ≡ length c → Laid c old new n
unfolding laid_over
copied {c} {old} e n l = record { count = l; lies = e ∙ ap (λ (s : List ℕ). s ++ drop (length c) old) (take_all (length c) c (le_refl (length c))) }

pub packed-given :
    {e N r m n : ℕ} {E code blank packed old new : List ℕ} {o : Outcome ℕ} → Rooted e size N E r code n → Writes (Packs (take N code)) blank m packed
    → Gives [] (λ c. c ≡ take m packed) old new o → Gives (edge_table e size N E r) (Packs (rooted N E r)) old new o
packed-given {N = N} {r} {m} {E = E} {packed = packed} t w g =
    let p : Packs (rooted N E r) (take m packed) = rw (written w) (rw t.digits at w.right) in
    behind t.clear (λ c e. rw e p) (λ c q. packed_again q p) g
