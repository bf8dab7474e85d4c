-- What an edge list that was judged and coded answers, as its caller learns it. Assumes nothing.
use Rattle.std.specs.Prelude.{List, ℕ, Ok, Err}
use Rattle.refusal.specs.document.Table.{Row, FirstRefusal}
use Rattle.refusal.specs.declared.Refusal.{Refusal}
use Rattle.zurkhovel.specs.Rooting.{Judged, coded, refused}

module _ {rs : List Row} {Known : ℕ → Type 0} where
  pub was_coded : {n : ℕ} → Judged rs Known (Ok n) → Known n
  was_coded (coded t) = t

  pub was_refused : {r : Refusal} → Judged rs Known (Err r) → FirstRefusal rs r.row r.place
  was_refused (refused l) = l
