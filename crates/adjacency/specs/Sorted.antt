-- Numbers that differ can be put in ascending order, and make the same number then. Assumes nothing.
use Rattle.std.specs.Prelude.{◌≡◌, refl, ℕ, suc, ◌+◌, ◌-◌, ◌^◌, ◌≤◌, ◌<◌}
use Rattle.std.proofs.Common.{ap, ◌∙◌, arith}
use mathlib.Core.List.Permᴰ
use mathlib.Core.List.{List, [], ◌∷◌, Memᴰ, Permᴰ}
use Rattle.std.proofs.Math.Decide.{dec_lt}
use Rattle.laws.specs.Perms.{perm_in}
use Rattle.laws.specs.document.Once.{Once}
use Rattle.digit_code.specs.document.Code.{sum}
use Rattle.adjacency.specs.document.Adjacency.{column_sum}
use Rattle.adjacency.specs.Ascend.{Asc, none, more}

-- S is rs in ascending order, from r up and below t
pub record Ordered (t r : ℕ) (rs S : List ℕ) : Type 0 where
  pub same : Permᴰ rs S
  pub asc : Asc t r S

insert : {t r : ℕ} {S : List ℕ} (x : ℕ) → r ≤ x → x < t → (Memᴰ x S → ⊥) → Asc t r S → (T : List ℕ) × Ordered t r (x ∷ S) T
insert x h k n none = (x ∷ [], record { same = Permᴰ.refl _; asc = more h k none })
insert {t} {r} x h k n (more {x = y} {S} a b s) = step (dec_lt x y) (λ l. insert x l k (λ m. n (Memᴰ.tail m)) s)
  where
    step : Dec (x < y) → (suc y ≤ x → (T : List ℕ) × Ordered t (suc y) (x ∷ S) T) → (T : List ℕ) × Ordered t r (x ∷ y ∷ S) T
    step (yes l) rest = (x ∷ y ∷ S, record { same = Permᴰ.refl _; asc = more h k (more l b s) })
    step (no l) rest =
        let d : x ≡ y → ⊥ = λ e. n (Memᴰ.head e) in
        let (T, o) = rest (omega arith) in
        (y ∷ T, record { same = Permᴰ.trans (Permᴰ.swap refl refl) (Permᴰ.cons refl o.same); asc = more a b o.asc })

pub order : (t r : ℕ) (rs : List ℕ) → Once rs → ((x : ℕ) → Memᴰ x rs → (r ≤ x) × (x < t)) → (S : List ℕ) × Ordered t r rs S
order t r [] o h = ([], record { same = Permᴰ.nil; asc = none })
order t r (x ∷ rs) o h =
    let (S, s) = order t r rs o.1 (λ y m. h y (Memᴰ.tail m)) in
    let k = h x (Memᴰ.head refl) in
    let (T, u) = insert x k.0 k.1 (λ m. o.0 (perm_in (Permᴰ.symm s.same) m)) s.asc in
    (T, record { same = Permᴰ.trans (Permᴰ.cons refl s.same) u.same; asc = u.asc })

pub bits_perm : {rs S : List ℕ} → Permᴰ rs S → column_sum rs ≡ column_sum S
unfolding column_sum sum
bits_perm Permᴰ.nil = refl
bits_perm (Permᴰ.cons {b = b} e d) = rw e (ap (λ y. 2 ^ (b - 1) + y) (bits_perm d))
bits_perm (Permᴰ.swap e f) = rw (e, f) (omega arith)
bits_perm (Permᴰ.trans d e) = bits_perm d ∙ bits_perm e
