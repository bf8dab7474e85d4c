-- A rooted code is the code of some tree at some vertex. Assumes nothing.
use Rattle.std.specs.Prelude.{◌≡◌, List, ℕ, ◌≤◌}
use Rattle.skeleton.specs.document.Skeleton.{IsTree, rooted}

-- c is the rooted code of some tree
pub record IsRooted (c : List ℕ) : Type 0 where
  pub number : ℕ
  pub edges : List ℕ
  pub root : ℕ
  pub tree : IsTree number edges
  pub inside : (1 ≤ root) × (root ≤ number)
  pub is : c ≡ rooted number edges root
