-- What the private functions of the public calls know: of an edge list that is judged, its rooted code or its edges by code; of digits that
-- a bit form was read to, and of a CAM, the edges. No promise cites it. Assumes nothing.
use Rattle.std.specs.Prelude.{◌≡◌, List, [], ℕ, ◌≤◌, length, take, Ok, Err, Result}
use Rattle.refusal.specs.declared.Refusal.{Refusal}
use Rattle.refusal.specs.document.Table.{Row, Clear, FirstRefusal, Outcome, Gives}
use Rattle.refusal.specs.document.Outcome.{told}
use Rattle.limits.specs.document.Limits.{size}
use Rattle.digit_code.specs.document.Code.{decode}
use Rattle.digit_code.specs.Ends.{Ends}
use Rattle.skeleton.specs.document.Skeleton.{rooted}
use Rattle.form_coder.specs.Numbered.{ByPlace}
use Rattle.form_coder.specs.document.Pairs.{CentredPairs}
use Rattle.adjacency.specs.document.Adjacency.{cam_edges_lem}
use Rattle.zurkhovel.specs.document.Reported.{ReportedAtRoot}
use Rattle.zurkhovel.specs.document.InEdition.{edge_table}

-- what is Known of the pairs looked at where none of rs applies, or the refusal of rs
pub data Judged (rs : List Row) (Known : ℕ → Type 0) : Result ℕ Refusal → Type 0 where
  coded : {n : ℕ} → Known n → Judged rs Known (Ok n)
  refused : {r : Refusal} → FirstRefusal rs r.row r.place → Judged rs Known (Err r)

-- no row applies, and the code stands at the start of code; n pairs were looked at
pub record Rooted (e most N : ℕ) (E : List ℕ) (r : ℕ) (code : List ℕ) (n : ℕ) : Type 0 where
  pub clear : Clear (edge_table e most N E r)
  pub digits : take N code ≡ rooted N E r
  pub long : length code ≡ size
  pub count : ReportedAtRoot N E r n

abbrev pub Rooting : ℕ → ℕ → ℕ → List ℕ → ℕ → List ℕ → Result ℕ Refusal → Type 0
Rooting e most N E r code a = Judged (edge_table e most N E r) (Rooted e most N E r code) a

-- no row applies, and the edges by code, as many as E, stand at the start of ends; n pairs were looked at
pub record ListedByCode (e most N : ℕ) (E ends : List ℕ) (n : ℕ) : Type 0 where
  pub clear : Clear (edge_table e most N E 1)
  pub renumbered : ByPlace N E (take (length E) ends)
  pub within : length E ≤ length ends
  pub count : CentredPairs N E n

abbrev pub ListingByCode : ℕ → ℕ → ℕ → List ℕ → List ℕ → Result ℕ Refusal → Type 0
ListingByCode e most N E ends a = Judged (edge_table e most N E 1) (ListedByCode e most N E ends) a

-- digits that end as a code does, and are not too many
abbrev pub EndsWhole : List ℕ → Type 0
EndsWhole c = Ends 1 c × (length c ≤ size)

-- their edges, with row 15 alone
abbrev pub LaysEdges : List ℕ → List ℕ → List ℕ → Outcome ℕ → Type 0
LaysEdges c old new o = Gives [] (λ E. E ≡ decode c) old new o

-- the digits that were read are such, if the form was not refused
abbrev pub Readable : List ℕ → Result ℕ Refusal → Type 0
Readable digits (Ok n) = EndsWhole (take n digits) × (n ≤ length digits)
Readable digits (Err e) = Unit {0}

-- their edges; a refusal stays, and nothing is written
abbrev pub EdgesOf : List ℕ → List ℕ → List ℕ → Result ℕ Refusal → Result ℕ Refusal → Type 0
EdgesOf digits old new (Ok n) r = LaysEdges (take n digits) old new (told r)
EdgesOf digits old new (Err e) r = (r ≡ Err e) × (new ≡ old)

-- the edges of a CAM, with row 15 alone
abbrev pub LaysCam : List ℕ → List ℕ → List ℕ → Outcome ℕ → Type 0
LaysCam c old new o = Gives [] (λ E. E ≡ cam_edges_lem c) old new o
