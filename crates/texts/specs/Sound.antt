-- All that is asked of a line format for the theorems on its texts: reading undoes writing, and no two lines that are written stand close to each
-- other. Assumes nothing.
use Rattle.std.specs.Prelude.{◌≡◌, List, [], ◌++◌, ℕ, ◌≤◌, length}
use Rattle.refusal.specs.document.Table.{Clear}
use Rattle.texts.specs.document.Bytes.{Free}
use Rattle.texts.specs.document.Text.{Format}
use Rattle.texts.specs.Judging.{judged}
use Rattle.texts.specs.Damage.{Accept}
use Rattle.texts.specs.Edits.{Edit}

-- a text has the form in one way
abbrev pub Once : {F : Type 0} → (List ℕ → F → Type 0) → Type 0
Once {F} Formed = (b : List ℕ) (p q : F) → Formed b p → Formed b q → p ≡ q

-- nothing is refused of every line, and reading undoes writing
pub record Reads {A F : Type 0} (format : Format A F) : Type 0 where
  pub first_clear : Clear format.first
  pub once : Once format.Formed
  pub read :
      (b : List ℕ) (q : F) → format.Formed b q → Clear (judged format.rows q)
      → (b ≡ format.body (format.carries q)) × (q ≡ format.parts (format.carries q))
  pub back : (c : A) → format.carries (format.parts c) ≡ c

-- And of the lines that are written, without their line feeds: they hold none, and are not empty; no change of one byte leads from one to one;
-- none begins another; none ends another.
pub record Sound {A F : Type 0} (format : Format A F) : Type 0 where
  pub reads : Reads format
  pub free : (c : A) → Accept format c → Free 10 (format.body c)
  pub some : (c : A) → Accept format c → 1 ≤ length (format.body c)
  pub apart : (c d : A) → Accept format c → Accept format d → Edit (format.body c) (format.body d) → ⊥
  pub starts : (c d : A) (z : List ℕ) → Accept format c → Accept format d → format.body c ++ z ≡ format.body d → z ≡ []
  pub ends : (c d : A) (x : List ℕ) → Accept format c → Accept format d → x ++ format.body c ≡ format.body d → x ≡ []
