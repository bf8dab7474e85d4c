-- `named::codes::judge` keeps its promise. Assumes nothing.
use native.Mathlib.Omega.{arith}
use Rattle.refusal.specs.Giving.{written-room, written_length}
use Rattle.zurkhovel.specs.document.Reported.{coded, not_coded}
use Rattle.named.specs.Accepted.{few}
use Rattle.named.specs.Two.{named_few}
use Rattle.named.proofs.Judging.{verdict-sizes, verdict}
use Rattle.std.proofs.lemmas.Slice.Eq.{slice_eq-Decides}
use Rattle.std.proofs.lemmas.Bool.Decides.{Decides-eqb}
use Rattle.named.proofs.codes.judge.Goals as goal

pub returns-then-n1-n2 : goal.returns-then-n1-n2
returns-then-n1-n2 c = record { promised = verdict-sizes c.args.n1 c.args.edges1.now c.args.letters1.now c.args.n2 c.args.edges2.now c.args.letters2.now c.requires.clear c.requires.clear_2 c.if-n1-n2.true; reported = not_coded c.if-n1-n2.true }

pub centred-first-requires : goal.centred-first-requires
centred-first-requires c = record { clear = c.requires.clear; n_in_bounds = few c.args.n1 c.args.edges1.now 1 c.args.letters1.now c.requires.clear }

pub centred-second-requires : goal.centred-second-requires
centred-second-requires c = record { clear = c.requires.clear_2; n_in_bounds = few c.args.n2 c.args.edges2.now 1 c.args.letters2.now c.requires.clear_2 }

pub overflow_add-result : goal.overflow_add-result
overflow_add-result c = omega (arith, named_few c.args.n1 c.args.edges1.now c.args.letters1.now c.requires.clear c.centred-first.ensures.counts, named_few c.args.n2 c.args.edges2.now c.args.letters2.now c.requires.clear_2 c.centred-second.ensures.counts)

pub slice_bounds-a-end : goal.slice_bounds-a-end
slice_bounds-a-end c = written-room c.centred-first.ensures.writes

pub slice_bounds-eq-end : goal.slice_bounds-eq-end
slice_bounds-eq-end c = written_length c.centred-first.ensures.writes

pub slice_bounds-b-end : goal.slice_bounds-b-end
slice_bounds-b-end c = written-room c.centred-second.ensures.writes

pub slice_bounds-eq-end-2 : goal.slice_bounds-eq-end-2
slice_bounds-eq-end-2 c = written_length c.centred-second.ensures.writes

pub returns : goal.returns
returns c = let s = c.args in
    record {
      promised = verdict s.n1 s.edges1.now s.letters1.now s.n2 s.edges2.now s.letters2.now c.requires.clear c.requires.clear_2 c.centred-first.ensures.writes
          c.centred-second.ensures.writes c.eq.result (slice_eq-Decides Decides-eqb _ _ _ c.eq.ensures);
      reported = coded c.if-n1-n2.false c.centred-first.ensures.counts c.centred-second.ensures.counts;
    }
