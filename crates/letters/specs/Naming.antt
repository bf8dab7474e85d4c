-- Atoms as they are written from the start of the table, one for each of a list. Assumes nothing.
use Rattle.std.specs.Prelude.{◌≡◌, List, map, ℕ, ◌-◌, ◌≤◌, length, get_or, drop}
use Rattle.std.proofs.Common.{ap, ◌∙◌, arith}
use Rattle.std.proofs.lemmas.List.{length-map}
use Rattle.std.proofs.Math.ListN.{get_or-append}
use Rattle.laws.specs.document.Laid.{laid_over}
use Rattle.laws.specs.Laid.{laid_length}
use Rattle.limits.specs.document.Limits.{size}
use Rattle.skeleton.specs.document.Atom.{Atom, rank}
use Rattle.skeleton.specs.Numbered.{get_or-map_in}
use Rattle.letters.specs.Named.{Named}

-- g tells the atom of each of s, and f its rank
pub named-laid :
    (f : ℕ → ℕ) (g : ℕ → Atom) → ((x : ℕ) → f x ≡ rank (g x)) → (s old : List ℕ) {a : List ℕ} → length old ≡ size → length s ≤ size
    → a ≡ laid_over (map f s) old → Named (length s) (λ v. g (get_or s (v - 1) 0)) a
unfolding laid_over
named-laid f g e s old l h q =
    let n : length (map f s) ≡ length s = length-map s f in
    record {
      long = ap length q ∙ laid_length (map f s) old (omega arith) ∙ l;
      ranks = λ v i j.
          ap (λ x. get_or x (v - 1) 0) q
          ∙ get_or-append (map f s) (drop (length (map f s)) old) 0 (v - 1) (omega arith)
          ∙ get_or-map_in f s (v - 1) 0 0 (omega arith)
          ∙ e (get_or s (v - 1) 0);
    }
