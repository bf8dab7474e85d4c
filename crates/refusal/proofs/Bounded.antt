-- Tables whose refusals are small: a number of 1 to 255, and a place below 256. Here stands what rests on `First`; the rest is in `specs.Bounded`. Assumes nothing.
use Rattle.std.specs.Prelude.{refl, List, [], ◌∷◌, ◌++◌, ℕ, ◌<◌, length}
use Rattle.std.proofs.Common.{⊎_elim, arith}
use Rattle.refusal.specs.document.Table.{RowOf, Row, Clear, Outcome, short, Gives}
use Rattle.refusal.specs.document.Small.{byte_values, SmallAnswer, BoundedBy, Bounded}
use Rattle.refusal.specs.Laws.{clear_left}
use Rattle.refusal.proofs.Laws.{refusal_either}
use Rattle.refusal.specs.Bounded.{bounded_rows, small}

-- one table behind another, which counts where the first is clear
pub bounded_both :
    {K : Type 0} {Number : K → Type 0} (xs ys : List (RowOf K)) → BoundedBy Number xs → (Clear xs → BoundedBy Number ys) → BoundedBy Number (xs ++ ys)
bounded_both xs ys b d = record { refusal = λ k p l. ⊎_elim (λ f. b.refusal k p f) (λ (c, f). (d c).refusal k p f) (refusal_either xs ys l) }

-- a call that writes, where a right result of an input that no row refuses has fewer than 256 bytes
pub small-written :
    {rs : List Row} {Right : List ℕ → Type 0} {old new : List ℕ} {o : Outcome ℕ} → Bounded rs → (Clear rs → (c : List ℕ) → Right c → length c < byte_values)
    → Gives rs Right old new o → SmallAnswer o
small-written {rs} {Right} {old} b v g =
    small
    (bounded_both rs (short Right (length old) ∷ []) b (λ k. bounded_rows refl ((λ p (c, r, (e, l)). omega (arith, v k c r)), tt)))
    (λ k n w. omega (arith, w.count, v (clear_left rs (short Right (length old) ∷ []) k) w.result w.right)) g.promise
