-- The edges that an accepted CAM, 0A or A0 makes: how many bytes they are, and a call that writes one known result. Assumes nothing.
use mathlib.Core.Path.{◌≡◌, refl, sym, ap, ◌∙◌}
use mathlib.Core.List.{List}
use Prim.Native.Nat.{ℕ, ◌-◌, ◌*◌, ◌≤◌, ◌<◌}
use native.Mathlib.Omega.{arith}
use lib.ListN.{length}
use Rattle.laws.specs.document.Laid.{laid_over}
use Rattle.refusal.specs.document.Table.{Row, Clear, gives, refuses, Gives}
use Rattle.refusal.specs.Laws.{clear_left, others}
use Rattle.refusal.specs.Giving.{given-laid}
use Rattle.refusal.proofs.Giving.{refused-short}
use Rattle.limits.specs.document.Limits.{a_size}
use Rattle.adjacency.specs.document.Adjacency.{a_edges_lem, made_rows}
use Rattle.adjacency.specs.Accepted.{a_front, a_long}
use Rattle.edition.specs.document.Edition.{neighbours_in}
use Rattle.zurkhovel.specs.document.InEdition.{a_table}

pub a_bytes : {e : ℕ} (N x : ℕ) → Clear (a_table e N x) → length (a_edges_lem N x) ≡ 2 * (N - 1)
a_bytes {e} N x k = a_long a_size N x (clear_left (a_front a_size N x) (made_rows (neighbours_in e) (a_edges_lem N x)) (others k))

-- n: the length of the one right result
module _ {rs : List Row} {c : List ℕ} {n : ℕ} (clear : Clear rs) (sized : length c ≡ n) {old new : List ℕ} where
  pub known-short : length old < n → new ≡ old → Gives rs (λ d. d ≡ c) old new (refuses 15 n)
  known-short h e = refused-short clear (λ d i. ap length i ∙ sized) refl h e

  pub known-given : n ≤ length old → new ≡ laid_over c old → Gives rs (λ d. d ≡ c) old new (gives n)
  known-given h e = given-laid clear (omega arith) (record { count = sym sized; lies = e })
