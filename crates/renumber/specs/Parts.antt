-- What the parts of the code promise each other. No call that a partner makes cites this file.
--
-- In order: a map long enough; a list of vertices, and what is written at each; the answer to two skeletons of one size, and the pairs
-- looked at for both. Assumes nothing.
use Rattle.std.specs.Prelude.{◌≡◌, ℕ, ◌+◌, ◌≤◌, ◌<◌, length, get_or, drop}
use mathlib.Core.List.{List, Memᴰ}
use Rattle.refusal.specs.document.Table.{Outcome, gives, refuses, Writes}
use Rattle.skeleton.specs.document.Atom.{Atom}
use Rattle.skeleton.specs.document.AtomMarks.{atoms}
use Rattle.numbering.specs.Numbers.{pairsₗ}
use Rattle.form.specs.document.Form.{IsCentred}
use Rattle.form.specs.document.Labelled.{IsCentredₗ}
use Rattle.form_coder.specs.document.Pairs.{OverMiddles, CentredPairs}
use Rattle.renumber.specs.document.Map.{Entry, image, HandedOut}
use Rattle.renumber.specs.document.Kept.{HandedKept}

-- the map has an entry for each end of E
pub record Sent (E w : List ℕ) : Type 0 where
  pub within : (v : ℕ) → Memᴰ v E → Entry w v

-- the first n of o are among 1 to n, each once
pub record Listed (n : ℕ) (o : List ℕ) : Type 0 where
  pub within : (i : ℕ) → i < n → (1 ≤ get_or o i 0) × (get_or o i 0 ≤ n)
  pub apart : (i j : ℕ) → i < n → j < n → get_or o i 0 ≡ get_or o j 0 → i ≡ j

-- the first i of p stand where the first i of o say, and nothing behind the first n has changed
pub record Placed (n : ℕ) (o p old new : List ℕ) (i : ℕ) : Type 0 where
  pub upto : i ≤ n
  pub long : length new ≡ length old
  pub is : (j : ℕ) → j < i → image new (get_or o j 0) ≡ get_or p j 0
  pub behind : drop n new ≡ drop n old

-- of two skeletons of N vertices, what was found: the map is written; there is one, and it does not fit; there is none. `Handed` says what the map is,
-- `One` and `Other` what the codes of the two are
pub data FoundBy (Handed One Other : List ℕ → Type 0) (N : ℕ) (old new : List ℕ) : Outcome ℕ → Type 0 where
  hands : N ≤ length old → Writes Handed old N new → FoundBy Handed One Other N old new (gives N)
  lacks : {w : List ℕ} → Handed w → length old < N → new ≡ old → FoundBy Handed One Other N old new (refuses 15 N)
  differs : ((c : List ℕ) → One c → Other c → ⊥) → new ≡ old → FoundBy Handed One Other N old new (gives 0)

-- so many pairs are looked at for the codes of both
pub data LookedBy (One Other : ℕ → Type 0) : ℕ → Type 0 where
  both : {n m : ℕ} → One n → Other m → LookedBy One Other (n + m)

-- of plain lists
abbrev pub Found : ℕ → List ℕ → List ℕ → List ℕ → List ℕ → Outcome ℕ → Type 0
Found N E F old new o = FoundBy (HandedOut N E N F) (IsCentred N E) (IsCentred N F) N old new o

abbrev pub LookedAt : ℕ → List ℕ → List ℕ → ℕ → Type 0
LookedAt N E F n = LookedBy (CentredPairs N E) (CentredPairs N F) n

-- of lists whose vertices have the atoms l and k
abbrev pub FoundKept : (ℕ → Atom) → (ℕ → Atom) → ℕ → List ℕ → List ℕ → List ℕ → List ℕ → Outcome ℕ → Type 0
FoundKept l k N E F old new o = FoundBy (HandedKept atoms l k N E N F) (IsCentredₗ atoms N E l) (IsCentredₗ atoms N F k) N old new o

abbrev pub LookedKept : (ℕ → Atom) → (ℕ → Atom) → ℕ → List ℕ → List ℕ → ℕ → Type 0
LookedKept l k N E F n = LookedBy (OverMiddles N E (pairsₗ atoms l N E)) (OverMiddles N F (pairsₗ atoms k N F)) n
