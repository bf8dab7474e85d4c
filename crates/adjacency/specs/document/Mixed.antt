-- Document 01, 0A and A0: "begin with 0, and for each i multiply by .. and add ..": a number in a mixed base, and its digits. What the
-- bases are stands in `Adjacency`, and that the digits give the number back in the crate's `Mixed`. Assumes nothing.
use Rattle.std.specs.Prelude.{List, [], ◌∷◌, ℕ, ◌+◌, ◌*◌, ◌/◌, ◌%◌}

-- begin with v, and for each base multiply by it and add the digit
unfoldable pub mixed : ℕ → List ℕ → List ℕ → ℕ
mixed v [] ds = v
mixed v (b ∷ bs) [] = v
mixed v (b ∷ bs) (d ∷ ds) = mixed (v * b + d) bs ds

-- what is left of v when its digits for the bases are taken off, the last one first
unfoldable pub quotient : List ℕ → ℕ → ℕ
quotient [] v = v
quotient (b ∷ bs) v = quotient bs v / b

-- the digits of v
unfoldable pub mixed_digits : List ℕ → ℕ → List ℕ
mixed_digits [] v = []
mixed_digits (b ∷ bs) v = quotient bs v % b ∷ mixed_digits bs v
