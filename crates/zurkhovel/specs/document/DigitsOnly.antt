-- Whole lines before a place of a text. Assumes nothing.
use Rattle.std.specs.Prelude.{◌≡◌, ◌⊎◌, List, [], ◌∷◌, ◌++◌, ℕ}

-- v is whole lines: it is empty, or its last byte is a line feed
abbrev pub WholeLines : List ℕ → Type 0
WholeLines v = (v ≡ []) ⊎ ((w : List ℕ) × (v ≡ w ++ (10 ∷ [])))
