-- `rooted_coder::settle` meets its contract. Assumes nothing.
use mathlib.Core.Path.{◌∙◌}
use Prim.Native.Nat.{◌≤◌}
use native.Mathlib.Omega.{arith}
use Rattle.limits.specs.document.Limits.{size}
use Rattle.rooted_coder.proofs.Settling.{idle, room, standing, settled_part}
use Rattle.rooted_coder.proofs.settle.Goals as goal

pub end-b-requires : goal.end-b-requires
end-b-requires c = omega (arith, room c.requires.waiting.is, c.requires.waiting.is.some, c.requires.out_len)

pub seek-z-requires : goal.seek-z-requires
seek-z-requires c = let known : (c.args.m ≤ c.end-b.result) × (c.end-b.result ≤ size) = (omega (arith, c.end-b.ensures), omega (arith, c.end-b.ensures, room c.requires.waiting.is, c.requires.waiting.is.head, c.requires.out_len)) in record { standing = standing c.requires.waiting.is; m_le_b = (known.0, omega (arith, known.1, c.requires.out_len), omega (arith, known, c.requires.out_len)) }

pub exchange-requires : goal.exchange-requires
exchange-requires c = let known : (c.args.m ≤ c.end-b.result) × (c.end-b.result ≤ size) = (omega (arith, c.end-b.ensures), omega (arith, c.end-b.ensures, room c.requires.waiting.is, c.requires.waiting.is.head, c.requires.out_len)) in
    (c.seek-z.ensures.at_le_m.0, known.0, omega (arith, known.1, c.requires.out_len), known.1)

pub exchange-requires-then-at-m : goal.exchange-requires-then-at-m
exchange-requires-then-at-m c = let known : (c.args.m ≤ c.end-b.result) × (c.end-b.result ≤ size) = (omega (arith, c.end-b.ensures), omega (arith, c.end-b.ensures, room c.requires.waiting.is, c.requires.waiting.is.head, c.requires.out_len)) in
    (c.seek-z.ensures.at_le_m.0, known.0, omega (arith, known.1, c.requires.out_len), known.1)

pub returns-then-at-m : goal.returns-then-at-m
returns-then-at-m c = let known : (c.args.m ≤ c.end-b.result) × (c.end-b.result ≤ size) = (omega (arith, c.end-b.ensures), omega (arith, c.end-b.ensures, room c.requires.waiting.is, c.requires.waiting.is.head, c.requires.out_len)) in record {
  out_len_2 = (c.exchange.auto.s ∙ c.requires.out_len.0, c.exchange-then-at-m.auto.s ∙ c.requires.out_len.1, omega (arith, c.seek-z.ensures.at_le_m, known));
  by_index = λ p L d q w.
      settled_part w c.end-b.ensures (omega (arith, known.1, c.requires.out_len)) (c.seek-z.ensures.by_index p _ L w.stand) c.exchange.ensures c.exchange-then-at-m.ensures;
}

pub returns-else-at-m : goal.returns-else-at-m
returns-else-at-m c = let known : (c.args.m ≤ c.end-b.result) × (c.end-b.result ≤ size) = (omega (arith, c.end-b.ensures), omega (arith, c.end-b.ensures, room c.requires.waiting.is, c.requires.waiting.is.head, c.requires.out_len)) in record {
  out_len_2 = (c.requires.out_len.0, c.requires.out_len.1, omega (arith, c.seek-z.ensures.at_le_m, known));
  by_index = λ p L d q w.
      settled_part w c.end-b.ensures (omega (arith, known.1, c.requires.out_len)) (c.seek-z.ensures.by_index p _ L w.stand) (idle _ _ _ _ c.if-at-m.false) (idle _ _ _ _ c.if-at-m.false);
}
