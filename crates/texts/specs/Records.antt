-- Laws of the records and the refusals among answers: of answers one behind the other, and of records alone. Assumes nothing.
use Rattle.std.specs.Prelude.{◌≡◌, refl, List, [], ◌∷◌, ◌++◌, map, ◌+◌, ◌≤◌, length}
use Rattle.std.proofs.Common.{ap, ◌∙◌, arith}
use Rattle.refusal.specs.document.Table.{Outcome, gives, refuses}
use Rattle.texts.specs.document.Damage.{records, refusals}

pub records-join : {A : Type 0} (os ps : List (Outcome A)) → records (os ++ ps) ≡ records os ++ records ps
unfolding records
records-join [] ps = refl
records-join (gives c ∷ os) ps = ap (λ cs. c ∷ cs) (records-join os ps)
records-join (refuses k p ∷ os) ps = records-join os ps

pub records-given : {A : Type 0} (cs : List A) → records (map gives cs) ≡ cs
unfolding records
records-given [] = refl
records-given (c ∷ cs) = ap (λ ds. c ∷ ds) (records-given cs)

pub records-before : {A : Type 0} (os : List (Outcome A)) (cs : List A) → records (os ++ map gives cs) ≡ records os ++ cs
records-before os cs = records-join os (map gives cs) ∙ ap (λ ds. records os ++ ds) (records-given cs)

pub refusals-before : {A : Type 0} (os ps : List (Outcome A)) → refusals os ≤ refusals (os ++ ps)
unfolding refusals
refusals-before [] ps = omega arith
refusals-before (gives c ∷ os) ps = refusals-before os ps
refusals-before (refuses k p ∷ os) ps = omega (arith, refusals-before os ps)

-- an answer is a record or a refusal
pub records-refusals : {A : Type 0} (os : List (Outcome A)) → length (records os) + refusals os ≡ length os
unfolding records refusals
records-refusals [] = refl
records-refusals (gives c ∷ os) = omega (arith, records-refusals os)
records-refusals (refuses k p ∷ os) = omega (arith, records-refusals os)
