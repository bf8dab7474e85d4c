-- `adjacency::down` meets its contract. Assumes nothing.
use mathlib.Core.Logic.{⊎_elim}
use native.Mathlib.Omega.{arith}
use Rattle.adjacency.proofs.Search.{down-one, down-other, down-none}
use Rattle.adjacency.proofs.down.Goals as goal

pub returns-then-b-v : goal.returns-then-b-v
returns-then-b-v c = down-other _ _ _ (omega arith) (omega arith) (omega arith)

pub returns-then-a-v-2 : goal.returns-then-a-v-2
returns-then-a-v-2 c = down-one _ _ _ (omega arith) (omega arith) (omega arith)

pub returns : goal.returns
returns c =
    down-none _ _ _ (λ e. ⊎_elim (λ w. w.1) (λ n. absurd (n e)) c.else-a-v.either) (λ e. ⊎_elim (λ w. w.1) (λ n. absurd (n e)) c.else-b-v-2.either)
