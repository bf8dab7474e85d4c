-- The promises of the calls on CAM, 0A and A0, as in `Codes`: which rows of document 01's table each judges, and what it gives where
-- none applies.
--
-- In order: a form read into edges; a form in the caller's numbering; a form by code. e: the edition; T: the table of an edge list, which is `edge_table e` in the edition e; N stands beside every form. c: a CAM; x: a 0A or
-- an A0; E: an edge list; old, new: the lent output before and after; o: the answer. Assumes nothing.
use Rattle.std.specs.Prelude.{◌≡◌, List, ℕ}
use Rattle.refusal.specs.document.Table.{Outcome, Answered, Gives}
use Rattle.limits.specs.document.Limits.{size, zero_size, a_size}
use Rattle.digit_code.specs.document.Code.{decode}
use Rattle.zurkhovel.specs.document.InEdition.{EdgeTable, physical_table, cam_table, zero_table, a_table}
use Rattle.form.specs.document.Form.{IsCentred}
use Rattle.adjacency.specs.document.Adjacency.{cam, cam_edges_lem, zero_a_lem, zero_cam_lem, a_zero_lem, a_edges_lem}

-- ---- a form read into edges

-- the edges of a CAM
abbrev pub DecodeCam : ℕ → ℕ → List ℕ → List ℕ → List ℕ → Outcome ℕ → Type 0
DecodeCam e N c old new o = Gives (cam_table e N c) (λ E. E ≡ cam_edges_lem c) old new o

-- of a 0A
abbrev pub DecodeZeroA : ℕ → ℕ → ℕ → List ℕ → List ℕ → Outcome ℕ → Type 0
DecodeZeroA e N x old new o = Gives (zero_table e N x) (λ E. E ≡ cam_edges_lem (zero_cam_lem N x)) old new o

-- of an A0
abbrev pub DecodeAZero : ℕ → ℕ → ℕ → List ℕ → List ℕ → Outcome ℕ → Type 0
DecodeAZero e N x old new o = Gives (a_table e N x) (λ E. E ≡ a_edges_lem N x) old new o

-- ---- in the caller's numbering

-- the CAM
abbrev pub Cam : EdgeTable → ℕ → List ℕ → List ℕ → List ℕ → Outcome ℕ → Type 0
Cam T N E old new o = Gives (physical_table T size N E) (λ c. c ≡ cam N E) old new o

-- the 0A
abbrev pub ZeroA : EdgeTable → ℕ → List ℕ → Outcome ℕ → Type 0
ZeroA T N E o = Answered (physical_table T zero_size N E) (λ x. x ≡ zero_a_lem (cam N E)) o

-- the A0, of any numbering
abbrev pub AZero : EdgeTable → ℕ → List ℕ → Outcome ℕ → Type 0
AZero T N E o = Answered (T a_size N E 1) (λ x. x ≡ a_zero_lem N E) o

-- ---- by code

-- F: the edges E of N vertices in the numbering by code, the centred code's
pub record NumberedByCode (N : ℕ) (E F : List ℕ) : Type 0 where
  pub code : List ℕ
  pub right : IsCentred N E code
  pub edges : F ≡ decode code

-- a: what `of` is of those edges
pub record ByCode {A : Type 0} (of : List ℕ → A) (N : ℕ) (E : List ℕ) (a : A) : Type 0 where
  pub edges : List ℕ
  pub numbering : NumberedByCode N E edges
  pub is : a ≡ of edges

-- the CAM
abbrev pub CamByCode : EdgeTable → ℕ → List ℕ → List ℕ → List ℕ → Outcome ℕ → Type 0
CamByCode T N E old new o = Gives (T size N E 1) (ByCode (cam N) N E) old new o

-- the 0A
abbrev pub ZeroAByCode : EdgeTable → ℕ → List ℕ → Outcome ℕ → Type 0
ZeroAByCode T N E o = Answered (T zero_size N E 1) (ByCode (λ F. zero_a_lem (cam N F)) N E) o

-- the A0
abbrev pub AZeroByCode : EdgeTable → ℕ → List ℕ → Outcome ℕ → Type 0
AZeroByCode T N E o = Answered (T a_size N E 1) (ByCode (a_zero_lem N) N E) o
