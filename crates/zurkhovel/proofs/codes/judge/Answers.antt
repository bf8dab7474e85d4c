-- `zurkhovel::codes::judge` keeps its promise. Assumes nothing.
use native.Mathlib.Omega.{arith}
use Rattle.refusal.specs.Giving.{written-room, written_length}
use Rattle.form_coder.specs.Sums.{centred_few}
use Rattle.zurkhovel.specs.document.Reported.{coded, not_coded}
use Rattle.zurkhovel.specs.Accepted.{table_of}
use Rattle.zurkhovel.proofs.Verdicts.{verdict-sizes, verdict}
use Rattle.std.proofs.lemmas.Slice.Eq.{slice_eq-Decides}
use Rattle.std.proofs.lemmas.Bool.Decides.{Decides-eqb}
use Rattle.zurkhovel.proofs.codes.judge.Goals as goal

pub returns-then-n1-n2 : goal.returns-then-n1-n2
returns-then-n1-n2 c = record { promised = verdict-sizes c.requires.clear c.requires.clear_2 c.if-n1-n2.true; reported = not_coded c.if-n1-n2.true }

pub centred-first-requires : goal.centred-first-requires
centred-first-requires c = let t = table_of c.requires.clear in record { skeleton = t; n_in_bounds = t.few }

pub centred-second-requires : goal.centred-second-requires
centred-second-requires c = let t = table_of c.requires.clear_2 in record { skeleton = t; n_in_bounds = t.few }

pub overflow_add-result : goal.overflow_add-result
overflow_add-result c = omega (arith, centred_few (table_of c.requires.clear) c.centred-first.ensures.centred_pairs, centred_few (table_of c.requires.clear_2) c.centred-second.ensures.centred_pairs)

pub slice_bounds-a-end : goal.slice_bounds-a-end
slice_bounds-a-end c = written-room c.centred-first.ensures.writes

pub slice_bounds-eq-end : goal.slice_bounds-eq-end
slice_bounds-eq-end c = written_length c.centred-first.ensures.writes

pub slice_bounds-b-end : goal.slice_bounds-b-end
slice_bounds-b-end c = written-room c.centred-second.ensures.writes

pub slice_bounds-eq-end-2 : goal.slice_bounds-eq-end-2
slice_bounds-eq-end-2 c = written_length c.centred-second.ensures.writes

pub returns : goal.returns
returns c =
    record {
      promised = verdict c.requires.clear c.requires.clear_2 c.centred-first.ensures.writes c.centred-second.ensures.writes c.eq.result
          (slice_eq-Decides Decides-eqb _ _ _ c.eq.ensures);
      reported = coded c.if-n1-n2.false c.centred-first.ensures.centred_pairs c.centred-second.ensures.centred_pairs;
    }
