-- Document 01, "a path" and its vertices: lists in which nothing stands twice. Laws are in the crate's `Once`. Assumes nothing.
use mathlib.Core.List.{List, [], ◌∷◌, Memᴰ}

-- nothing stands twice in it
abbrev pub Once : {A : Type 0} → List A → Type 0
Once [] = Unit {0}
Once (a ∷ l) = (Memᴰ a l → ⊥) × Once l
