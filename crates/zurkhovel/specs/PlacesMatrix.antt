-- What every public call on CAM, 0A and A0 tells fits into bytes, as in `Places`.
--
-- In order: a form read into edges; a form in the caller's numbering; a form by code. Assumes nothing.
use Rattle.std.proofs.Common.{ap, arith}
use Rattle.std.specs.Prelude.{List, [], ◌∷◌, ℕ, length}
use Rattle.refusal.specs.document.Table.{Outcome}
use Rattle.refusal.specs.document.Small.{SmallAnswer, SmallRefusal}
use Rattle.refusal.specs.Laws.{others, clear_left, at_most}
use Rattle.refusal.specs.Bounded.{small-value}
use Rattle.refusal.proofs.Bounded.{small-written}
use Rattle.limits.specs.document.Limits.{size, a_size}
use Rattle.adjacency.specs.document.Adjacency.{row14_physical, zero_cam_lem, a_edges_lem, made_rows}
use Rattle.adjacency.specs.Made.{made_length, long}
use Rattle.adjacency.specs.Zero.{zero_length}
use Rattle.adjacency.specs.Coded.{cam_length}
use Rattle.adjacency.specs.Accepted.{a_front, a_long}
use Rattle.zurkhovel.specs.document.Matrix.{DecodeCam, DecodeZeroA, DecodeAZero, Cam, ZeroA, AZero, CamByCode, ZeroAByCode, AZeroByCode}
use Rattle.zurkhovel.specs.Bounds.{cam_bounded, zero_bounded, a_bounded}
use Rattle.zurkhovel.specs.document.Tabled.{Tabled}
use Rattle.zurkhovel.specs.Tabled.{physical_bounded}
use Rattle.zurkhovel.specs.document.InEdition.{EdgeTable}
use Rattle.edition.specs.document.Edition.{neighbours_in}

module _ (e : ℕ) where
  -- ---- a form read into edges

  pub places-decode-cam : (N : ℕ) (c old new : List ℕ) (o : Outcome ℕ) → DecodeCam e N c old new o → SmallAnswer o
  places-decode-cam N c old new o g =
      small-written (cam_bounded e N c) (λ k E e. omega (arith, ap length e, made_length 1 c, long N c (others k), at_most (others k))) g

  pub places-decode_zero_a : (N x : ℕ) (old new : List ℕ) (o : Outcome ℕ) → DecodeZeroA e N x old new o → SmallAnswer o
  places-decode_zero_a N x old new o g =
      small-written (zero_bounded e N x) (λ k E e. omega (arith, ap length e, made_length 1 (zero_cam_lem N x), zero_length N x, at_most (others k))) g

  pub places-decode_a_zero : (N x : ℕ) (old new : List ℕ) (o : Outcome ℕ) → DecodeAZero e N x old new o → SmallAnswer o
  places-decode_a_zero N x old new o g =
      small-written (a_bounded e N x)
      (λ k E q. omega (arith, ap length q, a_long a_size N x (clear_left (a_front a_size N x) (made_rows (neighbours_in e) (a_edges_lem N x)) (others k)), at_most (others k))) g

module _ {T : EdgeTable} {R : ℕ} (t : Tabled T R) where
  -- ---- in the caller's numbering

  pub places-cam : (N : ℕ) (E old new : List ℕ) (o : Outcome ℕ) → Cam T N E old new o → SmallAnswer o
  places-cam N E old new o g = small-written (physical_bounded t (omega arith) N E) (λ k c e. omega (arith, ap length e, cam_length N E, (t.skeleton N E 1 (clear_left (T size N E 1) (row14_physical N E ∷ []) k)).few)) g

  pub places_zero_a : (N : ℕ) (E : List ℕ) (o : Outcome ℕ) → ZeroA T N E o → SmallRefusal o
  places_zero_a N E o g = small-value (physical_bounded t (omega arith) N E) g

  pub places_a_zero : (N : ℕ) (E : List ℕ) (o : Outcome ℕ) → AZero T N E o → SmallRefusal o
  places_a_zero N E o g = small-value (t.bounded (omega arith) N E 1) g

  -- ---- by code

  pub places-cam_by_code : (N : ℕ) (E old new : List ℕ) (o : Outcome ℕ) → CamByCode T N E old new o → SmallAnswer o
  places-cam_by_code N E old new o g =
      small-written (t.bounded (omega arith) N E 1) (λ k c b. omega (arith, ap length b.is, cam_length N b.edges, (t.skeleton N E 1 k).few)) g

  pub places_zero_a_by_code : (N : ℕ) (E : List ℕ) (o : Outcome ℕ) → ZeroAByCode T N E o → SmallRefusal o
  places_zero_a_by_code N E o g = small-value (t.bounded (omega arith) N E 1) g

  pub places_a_zero_by_code : (N : ℕ) (E : List ℕ) (o : Outcome ℕ) → AZeroByCode T N E o → SmallRefusal o
  places_a_zero_by_code N E o g = small-value (t.bounded (omega arith) N E 1) g
