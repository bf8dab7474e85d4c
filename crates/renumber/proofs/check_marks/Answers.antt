-- `renumber::check_marks` meets its contract: a check that refuses answers for the whole table, and behind one that passes the rest does. Assumes nothing.
use Rattle.std.specs.Prelude.{ℕ, List, [], ◌∷◌}
use Rattle.std.proofs.Common.{sym, subst}
use Rattle.refusal.specs.document.Table.{Clear}
use Rattle.refusal.proofs.Laws.{clear_of, behind, exits}
use Rattle.skeleton.specs.document.Atom.{Atom}
use Rattle.letters.specs.Named.{Named}
use Rattle.renumber.specs.document.Map.{row5_map}
use Rattle.renumber.specs.Exactly.{map_sizes}
use Rattle.renumber.specs.Handing.{sent}
use Rattle.renumber.proofs.check_marks.Goals as goal

-- what is named of as many vertices as the second list has is so of as many as the first has
carried : {n m : ℕ} (map : List ℕ) (k : ℕ → Atom) {atoms : List ℕ} → Clear (row5_map n m map ∷ []) → Named m k atoms → Named n k atoms
carried {n} {m} map k {atoms} c y = subst (λ i. Named i k atoms) (sym (map_sizes n m map c).0) y

pub returns-in_err-sizes : goal.returns-in_err-sizes
returns-in_err-sizes c l k x y = exits _ c.from_residual.ensures.1 c.in_err-sizes.ensures

pub entries-requires : goal.entries-requires
entries-requires c = (c.requires.few, (map_sizes _ _ _ (clear_of c.in_ok-sizes.ensures)).1)

pub returns-in_err-entries : goal.returns-in_err-entries
returns-in_err-entries c l k x y =
    behind c.in_ok-sizes.ensures (exits _ c.from_residual-in_err-entries.ensures.1 (c.in_err-entries.ensures l k x (carried c.args.map.now k (clear_of c.in_ok-sizes.ensures) y)))

pub edges-requires : goal.edges-requires
edges-requires c = sent c.requires.tree c.args.map.now (map_sizes _ _ _ (clear_of c.in_ok-sizes.ensures)).1

pub returns : goal.returns
returns c l k x y =
    behind c.in_ok-sizes.ensures (behind (c.in_ok-entries.ensures l k x (carried c.args.map.now k (clear_of c.in_ok-sizes.ensures) y)) c.edges.ensures)
