-- What demand 3 asks of named lines, whoever writes them: what a reader leaves in the two areas can be read by a caller. That the format is sound is in `NamedSound`. Assumes nothing.
use Rattle.std.specs.Prelude.{◌≡◌, refl, List, [], ◌∷◌, ℕ, length}
use Rattle.std.proofs.Common.{ap₂, arith, rules}
use Rattle.laws.specs.Laying.{laid-front}
use Rattle.refusal.specs.document.Table.{Clear}
use Rattle.limits.specs.document.Limits.{size}
use Rattle.texts.specs.Judging.{judged}
use Rattle.texts.specs.Seen.{Told, Legible}
use Rattle.named_lines.specs.document.Named.{Named, Parts, carried, lines_of_named, named_table}
use Rattle.named_lines.specs.document.NamedDemand.{named_kind}
use Rattle.named_lines.specs.NamedSound.{named_once, named-room, parts-left}

module _ (Gives : List ℕ → Named → Type 0) where
  told : (q : Parts) → Clear (judged (lines_of_named size named_table).rows q) → Told (named_kind Gives) (carried q)
  told q k (old ∷ []) (old' ∷ news) x = absurd x.1
  told q k (old ∷ lets ∷ []) (old' ∷ []) x = absurd x.1
  told q k (old ∷ lets ∷ []) (old' ∷ lets' ∷ new ∷ news) x = absurd x.1.1
  told q k (old ∷ lets ∷ more ∷ olds) (old' ∷ []) x = absurd x.1
  told q k (old ∷ lets ∷ more ∷ olds) (old' ∷ lets' ∷ news) x = absurd x.1.1
  told q k (old ∷ lets ∷ []) (old' ∷ lets' ∷ []) x =
      let r = parts-left size named_table q k in
      let n : length q.letters ≡ length q.front.digits = omega (arith, r.many, r.matches.number) in
      ap₂ {C = Named} (λ (ds ls : List ℕ). record { digits = ds; letters = ls }) (laid-front q.front.digits old old' (length q.front.digits) x.0 refl)
      (laid-front q.letters lets lets' (length q.front.digits) x.1.0 n)
  told q k [] news x = elim x [ ]
  told q k (old ∷ []) [] x = elim x [ ]
  told q k (old ∷ (lets ∷ [])) [] x = elim x [ ]
  told q k (old ∷ (lets ∷ (more ∷ olds))) [] x = elim x [ ]

  pub named_legible : Legible (named_kind Gives)
  named_legible = record { once = named_once; fits = named-room size named_table; numbered = λ t. search rules; told = told }
