-- Lists of which none stands after the one before it in the dictionary. Assumes nothing.
use Rattle.std.specs.Prelude.{List, [], ◌∷◌, ℕ}
use Rattle.laws.specs.document.Order.{◌≽◌}

-- none stands after the one before it
abbrev pub Falling : List (List ℕ) → Type 0
Falling [] = Unit {0}
Falling (c ∷ []) = Unit {0}
Falling (c ∷ d ∷ ds) = (c ≽ d) × Falling (d ∷ ds)
