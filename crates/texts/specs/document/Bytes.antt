-- Bytes of a text: one that none of them is, and a text cut at the first of a kind. Assumes nothing.
use Rattle.std.specs.Prelude.{◌≡◌, List, ◌∷◌, ◌++◌, ℕ}
use Rattle.laws.specs.document.Each.{Each}

-- a is not k
abbrev pub Other : ℕ → ℕ → Type 0
Other k a = a ≡ k → ⊥

-- no byte of t is k
abbrev pub Free : ℕ → List ℕ → Type 0
Free k t = Each (Other k) t

-- t is cut at its first k: b stands before it, rest behind it
pub record Cut (k : ℕ) (t b rest : List ℕ) : Type 0 where
  pub parts : t ≡ b ++ (k ∷ rest)
  pub free : Free k b
