-- `adjacency::a_check` meets its contract: a check that refuses answers for the whole table, and behind it the edges that are made are checked as an edge list. Assumes nothing.
use Rattle.refusal.proofs.Laws.{behind, clear_of, exits}
use mathlib.Core.Path.{◌≡◌, sym, ap, ◌∙◌}
use Prim.Native.Nat.{ℕ, ◌-◌, ◌*◌, ◌≤◌}
use lib.ListN.{length}
use Rattle.refusal.specs.document.Table.{Clear}
use Rattle.refusal.specs.Laws.{at_least, at_most}
use Rattle.limits.specs.document.Limits.{a_size}
use Rattle.adjacency.specs.document.Adjacency.{a_edges_lem, made_rows}
use Rattle.adjacency.specs.Made.{edge_front}
use Rattle.adjacency.specs.Accepted.{a_front, a_long, a-front}
use Rattle.adjacency.proofs.Behind.{front_length, array_length, front_is, front-laid, only-behind}
use native.Mathlib.Omega.{arith}
use Rattle.adjacency.proofs.a_check.Goals as goal

-- the bytes of an edge list, at most
abbrev ends : ℕ
ends = 2 * (a_size - 1)

pub returns-in_err-a_sizes : goal.returns-in_err-a_sizes
returns-in_err-a_sizes c = exits _ c.from_residual.ensures.1 c.in_err-a_sizes.ensures

pub overflow_sub-edges : goal.overflow_sub-edges
overflow_sub-edges c = let known : Clear (a_front a_size c.args.n c.args.x) = clear_of c.in_ok-a_sizes.ensures in
    at_least (known)

pub overflow_mul-edges : goal.overflow_mul-edges
overflow_mul-edges c = let known : Clear (a_front a_size c.args.n c.args.x) = clear_of c.in_ok-a_sizes.ensures in
    let short : 2 * (c.args.n - 1) ≤ ends = omega (arith, at_most (known)) in
    omega (arith, short)

pub slice_bounds-edges-end : goal.slice_bounds-edges-end
slice_bounds-edges-end c = let known : Clear (a_front a_size c.args.n c.args.x) = clear_of c.in_ok-a_sizes.ensures in
    let short : 2 * (c.args.n - 1) ≤ ends = omega (arith, at_most (known)) in
    short

pub slice_bounds-a_edges-end : goal.slice_bounds-a_edges-end
slice_bounds-a_edges-end c = let known : Clear (a_front a_size c.args.n c.args.x) = clear_of c.in_ok-a_sizes.ensures in
    let short : 2 * (c.args.n - 1) ≤ ends = omega (arith, at_most (known)) in
    front_length ends _ (short)

pub a_edges-requires : goal.a_edges-requires
a_edges-requires c = let known : Clear (a_front a_size c.args.n c.args.x) = clear_of c.in_ok-a_sizes.ensures in
    let short : 2 * (c.args.n - 1) ≤ ends = omega (arith, at_most (known)) in
    let k = known in
    let a = c.args in
    let e = front_length ends (2 * (a.n - 1)) (short) in
    let l = a_long a_size a.n a.x k in
    (at_least k, at_most k, omega arith)

pub overflow_sub-edges-2 : goal.overflow_sub-edges-2
overflow_sub-edges-2 c = let known : Clear (a_front a_size c.args.n c.args.x) = clear_of c.in_ok-a_sizes.ensures in
    at_least (known)

pub overflow_mul-edges-2 : goal.overflow_mul-edges-2
overflow_mul-edges-2 c = let known : Clear (a_front a_size c.args.n c.args.x) = clear_of c.in_ok-a_sizes.ensures in
    let short : 2 * (c.args.n - 1) ≤ ends = omega (arith, at_most (known)) in
    omega (arith, short)

pub slice_bounds-edges-end-2 : goal.slice_bounds-edges-end-2
slice_bounds-edges-end-2 c = let known : Clear (a_front a_size c.args.n c.args.x) = clear_of c.in_ok-a_sizes.ensures in
    let short : 2 * (c.args.n - 1) ≤ ends = omega (arith, at_most (known)) in
    let written : c.a_edges.new.out ≡ a_edges_lem c.args.n c.args.x = let a = c.args in
    front-laid ends (2 * (a.n - 1)) _ (a_edges_lem a.n a.x) (short) (a_long a_size a.n a.x (known)) c.a_edges.ensures in
    let long : length c.a_edges.new.out ≡ 2 * (c.args.n - 1) = let a = c.args in ap length (written) ∙ a_long a_size a.n a.x (known) in
    array_length ends _ c.a_edges.new.out (short) (long)

pub slice_bounds-check-end : goal.slice_bounds-check-end
slice_bounds-check-end c = let known : Clear (a_front a_size c.args.n c.args.x) = clear_of c.in_ok-a_sizes.ensures in
    let short : 2 * (c.args.n - 1) ≤ ends = omega (arith, at_most (known)) in
    let written : c.a_edges.new.out ≡ a_edges_lem c.args.n c.args.x = let a = c.args in
    front-laid ends (2 * (a.n - 1)) _ (a_edges_lem a.n a.x) (short) (a_long a_size a.n a.x (known)) c.a_edges.ensures in
    let long : length c.a_edges.new.out ≡ 2 * (c.args.n - 1) = let a = c.args in ap length (written) ∙ a_long a_size a.n a.x (known) in
    sym (ap length (front_is ends _ c.a_edges.new.out (long)) ∙ long)

pub returns : goal.returns
returns c = let known : Clear (a_front a_size c.args.n c.args.x) = clear_of c.in_ok-a_sizes.ensures in
    let short : 2 * (c.args.n - 1) ≤ ends = omega (arith, at_most (known)) in
    let written : c.a_edges.new.out ≡ a_edges_lem c.args.n c.args.x = let a = c.args in
    front-laid ends (2 * (a.n - 1)) _ (a_edges_lem a.n a.x) (short) (a_long a_size a.n a.x (known)) c.a_edges.ensures in
    let long : length c.a_edges.new.out ≡ 2 * (c.args.n - 1) = let a = c.args in ap length (written) ∙ a_long a_size a.n a.x (known) in
    let a = c.args in
    let e = front_is ends (2 * (a.n - 1)) c.a_edges.new.out (long) ∙ written in
    let k = known in
    behind c.in_ok-a_sizes.ensures
    (only-behind (edge_front a_size a.n (a_edges_lem a.n a.x)) (made_rows a.limit (a_edges_lem a.n a.x)) (a-front a_size a.n a.x k) (rw e at c.check.ensures))
