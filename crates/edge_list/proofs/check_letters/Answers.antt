-- `edge_list::check_letters` meets its contract: a check that refuses answers for the whole table, and behind one that passes the rest does. Assumes nothing.
use Rattle.refusal.proofs.Laws.{clear_of, behind, exits}
use mathlib.Core.Path.{refl}
use mathlib.Core.List.{List, [], ◌∷◌}
use Prim.Native.Nat.{ℕ, ◌≤◌}
use native.Mathlib.Omega.{arith}
use lib.ListN.{length}
use Rattle.limits.specs.document.Limits.{size}
use Rattle.refusal.specs.document.Table.{Clear, row3}
use Rattle.refusal.specs.Laws.{clear_left, others, never, at_most}
use Rattle.letters.specs.document.Letters.{row21-letters}
use Rattle.letters.specs.Lettered.{so_many}
use Rattle.edge_list.specs.document.Edges.{row5_edges, row7, row8, row9}
use Rattle.edge_list.proofs.check_letters.Goals as goal

-- letters that are as many as the vertices are at most 64
few : {most n : ℕ} (E s : List ℕ) → most ≤ size → Clear (row3 most n ∷ row5_edges n E ∷ []) → Clear (row21-letters n s ∷ []) → length s ≤ size
few {most} {n} E s h c d = omega (arith, so_many n s (never d), at_most c)

pub returns-in_err-known : goal.returns-in_err-known
returns-in_err-known c = exits _ c.from_residual.ensures.1 c.in_err-known.ensures

pub returns-in_err-sizes : goal.returns-in_err-sizes
returns-in_err-sizes c = behind c.in_ok-known.ensures (exits _ c.from_residual-in_err-sizes.ensures.1 c.in_err-sizes.ensures)

pub returns-in_err-as_many : goal.returns-in_err-as_many
returns-in_err-as_many c = behind c.in_ok-known.ensures
    (behind c.in_ok-sizes.ensures (exits _ c.from_residual-in_err-as_many.ensures.1 c.in_err-as_many.ensures))

pub returns-in_err-joins : goal.returns-in_err-joins
returns-in_err-joins c = behind c.in_ok-known.ensures
    (behind c.in_ok-sizes.ensures
    (behind c.in_ok-as_many.ensures (exits _ c.from_residual-in_err-joins.ensures.1 c.in_err-joins.ensures)))

pub allow-requires : goal.allow-requires
allow-requires c = (few c.args.edges.now c.args.letters.now c.requires.0 (clear_of c.in_ok-sizes.ensures) (clear_of c.in_ok-as_many.ensures), refl)

pub degrees-requires : goal.degrees-requires
degrees-requires c = let s = c.args in
    let k = clear_of c.in_ok-joins.ensures in record { room_len = c.allow.ensures.long; clear = clear_left (row7 s.edges.now ∷ []) (row8 s.edges.now ∷ row9 s.limit s.edges.now ∷ []) (others k) }

pub returns : goal.returns
returns c = behind c.in_ok-known.ensures
    (behind c.in_ok-sizes.ensures
    (behind c.in_ok-as_many.ensures
    (behind c.in_ok-joins.ensures (c.degrees.ensures _ c.allow.ensures))))
