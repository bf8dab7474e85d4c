-- `zurkhovel::maps::hand_out` keeps its promise. Assumes nothing.
use Rattle.std.specs.Prelude.{ℕ, Result}
use Rattle.refusal.specs.declared.Refusal.{Refusal}
use mathlib.Core.Path.{◌≡◌, refl, sym, subst}
use Rattle.refusal.specs.document.Outcome.{told}
use Rattle.limits.specs.document.Limits.{size}
use Rattle.limits.specs.Width.{width}
use Rattle.skeleton.specs.document.Skeleton.{IsSkeleton}
use Rattle.zurkhovel.specs.document.Maps.{HandOut}
use Rattle.zurkhovel.specs.document.Reported.{OfBoth, not_coded}
use Rattle.zurkhovel.specs.Accepted.{table_of}
use Rattle.zurkhovel.specs.Handing.{map_outcome}
use Rattle.zurkhovel.proofs.Handing.{hand_sizes, hand_found, hand_looked}
use Rattle.zurkhovel.proofs.maps.hand_out.Goals as goal

pub returns-then-n1-n2 : goal.returns-then-n1-n2
returns-then-n1-n2 c = record { promised = hand_sizes _ _ _ _ c.requires.clear c.requires.clear_2 c.if-n1-n2.true; reported = not_coded c.if-n1-n2.true }

pub hand_out-handed-requires : goal.hand_out-handed-requires
hand_out-handed-requires c = (table_of c.requires.clear, subst (λ n. IsSkeleton size width n c.args.edges2.now) (sym c.if-n1-n2.false) (table_of c.requires.clear_2))

pub returns-in-Ok : goal.returns-in-Ok
returns-in-Ok c = let found : (a : Result ℕ Refusal) → c.hand_out-handed.result.answer ≡ a → HandOut c.args.edition c.args.n1 c.args.edges1.now c.args.n2 c.args.edges2.now c.args.out.now c.hand_out-handed.new.out (map_outcome (told a)) = λ a q. hand_found _ _ _ _ c.requires.clear c.requires.clear_2 c.if-n1-n2.false (rw q at c.hand_out-handed.ensures.found) in
    let looked : let s = c.args in OfBoth s.n1 s.edges1.now s.n2 s.edges2.now c.hand_out-handed.result.pairs = hand_looked c.if-n1-n2.false c.hand_out-handed.ensures.looked_at in
    record { promised = found _ c.in-Ok.is; reported = looked }

pub returns-in-Err : goal.returns-in-Err
returns-in-Err c = let found : (a : Result ℕ Refusal) → c.hand_out-handed.result.answer ≡ a → HandOut c.args.edition c.args.n1 c.args.edges1.now c.args.n2 c.args.edges2.now c.args.out.now c.hand_out-handed.new.out (map_outcome (told a)) = λ a q. hand_found _ _ _ _ c.requires.clear c.requires.clear_2 c.if-n1-n2.false (rw q at c.hand_out-handed.ensures.found) in
    record { promised = found _ c.in-Err.is; reported = refl }
