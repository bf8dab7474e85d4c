-- Demand 2, said of the public calls on CAM, 0A and A0. "Only coding in the caller's numbering gives a decoded CAM, 0A or A0 back, and for these
-- three that is the form demand 2 means." There a skeleton that is coded and decoded keeps its numbers: it has the same arcs. By code it is
-- the same skeleton under other numbers.
--
-- In order: a physical numbering; each form decoded and coded; coded and decoded; coded by code and decoded. Assumes nothing.
use Rattle.std.specs.Prelude.{◌≡◌, refl, ◌↔◌, ℕ, ◌≤◌, length, take}
use Rattle.std.proofs.Common.{sym, ap, subst, ◌∙◌, arith}
use mathlib.Core.List.{List, [], ◌∷◌, Permᴰ}
use Rattle.std.proofs.Math.Decide.{ℕ_discrete}
use Rattle.refusal.specs.document.Table.{Row, Clear, Outcome, gives, Gives}
use Rattle.refusal.specs.Laws.{clear_one, clear_both, clear_left, clear_right, never, others}
use Rattle.refusal.specs.Giving.{gave, gave_value}
use Rattle.refusal.proofs.Giving.{must_give, must_answer}
use Rattle.refusal.specs.document.Given.{Given}
use Rattle.limits.specs.document.Limits.{size, zero_size, a_size}
use Rattle.digit_code.specs.Right.{RightCode}
use Rattle.skeleton.specs.document.Skeleton.{arcs, IsTree, IsSkeleton, Renumbering}
use Rattle.form.specs.document.Form.{IsCentred}
use Rattle.form.specs.Forms.{centred-form, form-size, form-decoded}
use Rattle.form.specs.Accepted.{right_decoded, form_passes, form_exactly}
use Rattle.adjacency.specs.document.Adjacency.{OneLower, lower, Physical, row14_physical, cam, cam_edges_lem, zero_a_lem, zero_cam_lem, a_zero_lem}
use Rattle.adjacency.specs.Theorems.{cam-decode, cam-read, zero_decode, zero_read, cam-code, zero_code, a_decode, a_read, a_code}
use Rattle.adjacency.specs.ByCode.{code-physical}
use Rattle.zurkhovel.specs.Accepted.{skeleton_of, plain_rows}
use Rattle.zurkhovel.specs.document.Matrix.{DecodeCam, DecodeZeroA, DecodeAZero, Cam, ZeroA, AZero, NumberedByCode, CamByCode, ZeroAByCode, AZeroByCode}
use Rattle.zurkhovel.specs.Round.{edges-given}
use Rattle.zurkhovel.specs.document.Round.{Renumbered, Kept}
use Rattle.edition.specs.document.Edition.{IsEdition, neighbours_in}
use Rattle.edition.specs.Laws.{edition_clear, clear_edition}
use Rattle.zurkhovel.specs.document.InEdition.{edge_table, physical_table}

-- a reader that gives edges with the arcs of E
same-arcs :
    {N : ℕ} {E F : List ℕ} {rs : List Row} {old new : List ℕ} {o : Outcome ℕ} → IsTree N E → IsTree N F → Permᴰ (arcs E) (arcs F) → Clear rs
    → length E ≤ length old → Gives rs (λ G. G ≡ F) old new o → Kept E new o
same-arcs {E = E} t u π k h g = let (a, b) = edges-given t u k refl (λ G z. z) h g in (a, subst (λ G. Permᴰ (arcs E) (arcs G)) (sym b) π)

-- ---- by code

module _ {most R N : ℕ} {E F : List ℕ} (s : IsSkeleton most R N E) (x : NumberedByCode N E F) where
  sized : length x.code ≡ N
  sized = form-size IsCentred centred-form N E x.code s.tree x.right

  right : RightCode most R x.code
  right = ((form_passes IsCentred centred-form most R x.code).0 ((form_exactly IsCentred centred-form most R x.code).1 (N, E, s, x.right))).0

  -- the numbering by code is the skeleton under other numbers, and physical
  pub by_code-skeleton : IsSkeleton most R N F
  by_code-skeleton = rw (x.edges, ← sized) (right_decoded most R x.code right)

  pub by_code-physical : Physical N F
  by_code-physical = rw (x.edges, ← sized) (code-physical x.code right.ends)

  by_code-numbers : Renumbering N E F
  by_code-numbers = rw x.edges (form-decoded IsCentred centred-form N E x.code s.tree x.right)

  pub by_code_length : length F ≡ length E
  by_code_length = omega (arith, s.tree.edges, by_code-skeleton.tree.edges)

  -- so what has its arcs is the skeleton under other numbers
  by_code-kept : (new : List ℕ) (o : Outcome ℕ) → Kept F new o → Renumbered N E new o
  by_code-kept new o (a, π) =
      let ρ = by_code-numbers in
      let z : Permᴰ (arcs F) (arcs (take (length E) new)) = rw by_code_length at π in (
        a ∙ ap gives by_code_length,
        record {
          to = ρ.to;
          from = ρ.from;
          to_in = ρ.to_in;
          from_in = ρ.from_in;
          from_to = ρ.from_to;
          to_from = ρ.to_from;
          carries = mathlib.Core.List.Permᴰ.trans ρ.carries z;
        },
      )

  -- and so is what is decoded into room for its edges
  by_code-back : (new : List ℕ) (o : Outcome ℕ) (m : ℕ) → length E ≤ m → (length F ≤ m → IsSkeleton most R N F → Physical N F → Kept F new o) → Renumbered N E new o
  by_code-back new o m h from = by_code-kept new o (from (omega (arith, by_code_length)) by_code-skeleton by_code-physical)

-- ---- in the edition e

module _ (e : ℕ) where
  -- ---- a physical numbering

  -- what no row of a CAM or a 0A refuses
  pub physical_exactly : (most N : ℕ) (E : List ℕ) → Clear (physical_table (edge_table e) most N E) ↔ (IsEdition e × IsSkeleton most (neighbours_in e) N E × Physical N E)
  physical_exactly most N E = (
    λ k.
        let n = never (clear_right (edge_table e most N E 1) (row14_physical N E ∷ []) k) in
        let l = clear_left (edge_table e most N E 1) (row14_physical N E ∷ []) k in
        (clear_edition l, skeleton_of l, record { only = λ v a b. step v (λ m. n v (a, b, m)) (ℕ_discrete (length (lower E v)) 1) }),
    λ (i, s, p). clear_both (plain_rows i s) (clear_one {r = row14_physical N E} (λ v (a, b, n). n (p.only v a b))),
  )
    where
      step : (v : ℕ) → ((OneLower E v → ⊥) → ⊥) → Dec (OneLower E v) → OneLower E v
      step v n (yes q) = q
      step v n (no m) = absurd (n m)

  -- ---- decoded and coded

  pub cam_again :
      (N : ℕ) (c old new : List ℕ) (m : ℕ) (old' new' : List ℕ) (o : Outcome ℕ) → DecodeCam e N c old new (gives m) → length c ≤ length old'
      → Cam (edge_table e) N (take m new) old' new' o → Given c old' new' o
  cam_again N c old new m old' new' o d h g =
      let (k, q, _) = gave d in
      let (s, p, z) = cam-code size (neighbours_in e) N c (others k) in
      must_give ((physical_exactly size N (cam_edges_lem c)).1 (clear_edition k, s, p)) c (sym z) (λ b x. x ∙ z) h (subst (λ F. Cam (edge_table e) N F old' new' o) q g)

  pub zero_a_again : (N x : ℕ) (old new : List ℕ) (m : ℕ) (o : Outcome ℕ) → DecodeZeroA e N x old new (gives m) → ZeroA (edge_table e) N (take m new) o → o ≡ gives x
  zero_a_again N x old new m o d g =
      let (k, q, _) = gave d in
      let (s, p, z) = zero_code zero_size (neighbours_in e) N x (others k) in
      must_answer ((physical_exactly zero_size N (cam_edges_lem (zero_cam_lem N x))).1 (clear_edition k, s, p)) x (sym z) (λ b y. y ∙ z) (subst (λ F. ZeroA (edge_table e) N F o) q g)

  pub a_zero_again : (N x : ℕ) (old new : List ℕ) (m : ℕ) (o : Outcome ℕ) → DecodeAZero e N x old new (gives m) → AZero (edge_table e) N (take m new) o → o ≡ gives x
  a_zero_again N x old new m o d g =
      let (k, q, _) = gave d in
      let (s, z) = a_code a_size (neighbours_in e) N x (others k) in
      must_answer (plain_rows (clear_edition k) s) x (sym z) (λ b y. y ∙ z) (subst (λ F. AZero (edge_table e) N F o) q g)

  -- ---- coded and decoded

  -- what is read of a skeleton's CAM, 0A and A0
  module _ (i : IsEdition e) (N : ℕ) (E : List ℕ) {old new : List ℕ} {o : Outcome ℕ} (h : length E ≤ length old) where
    from-cam : IsSkeleton size (neighbours_in e) N E → Physical N E → DecodeCam e N (cam N E) old new o → Kept E new o
    from-cam s p g =
        let k = cam-read size (neighbours_in e) N E s p in
        same-arcs s.tree (cam-code size (neighbours_in e) N (cam N E) k).0.tree (cam-decode size (neighbours_in e) N E s p) (clear_both (edition_clear i) k) h g

    from_zero : IsSkeleton zero_size (neighbours_in e) N E → Physical N E → DecodeZeroA e N (zero_a_lem (cam N E)) old new o → Kept E new o
    from_zero s p g =
        let k = zero_read zero_size (neighbours_in e) N E s p in
        same-arcs s.tree (zero_code zero_size (neighbours_in e) N (zero_a_lem (cam N E)) k).0.tree
        (rw (zero_decode zero_size (neighbours_in e) N E s p) (cam-decode zero_size (neighbours_in e) N E s p)) (clear_both (edition_clear i) k) h g

    from_a : IsSkeleton a_size (neighbours_in e) N E → DecodeAZero e N (a_zero_lem N E) old new o → Kept E new o
    from_a s g =
        let k = a_read a_size (neighbours_in e) N E s in
        same-arcs s.tree (a_code a_size (neighbours_in e) N (a_zero_lem N E) k).0.tree (a_decode a_size (neighbours_in e) N E s) (clear_both (edition_clear i) k) h g

  pub cam-back :
      (N : ℕ) (E old new : List ℕ) (n : ℕ) (old' new' : List ℕ) (o : Outcome ℕ) → Cam (edge_table e) N E old new (gives n) → length E ≤ length old'
      → DecodeCam e N (take n new) old' new' o → Kept E new' o
  cam-back N E old new n old' new' o c h g =
      let (k, q, _) = gave c in
      let (i, s, p) = (physical_exactly size N E).0 k in
      from-cam i N E h s p (subst (λ d. DecodeCam e N d old' new' o) q g)

  pub zero_a-back :
      (N : ℕ) (E : List ℕ) (x : ℕ) (old new : List ℕ) (o : Outcome ℕ) → ZeroA (edge_table e) N E (gives x) → length E ≤ length old → DecodeZeroA e N x old new o
      → Kept E new o
  zero_a-back N E x old new o c h g =
      let (k, q) = gave_value c in
      let (i, s, p) = (physical_exactly zero_size N E).0 k in
      from_zero i N E h s p (subst (λ y. DecodeZeroA e N y old new o) q g)

  pub a_zero-back :
      (N : ℕ) (E : List ℕ) (x : ℕ) (old new : List ℕ) (o : Outcome ℕ) → AZero (edge_table e) N E (gives x) → length E ≤ length old → DecodeAZero e N x old new o
      → Kept E new o
  a_zero-back N E x old new o c h g =
      let (k, q) = gave_value c in from_a (clear_edition k) N E h (skeleton_of k) (subst (λ y. DecodeAZero e N y old new o) q g)

  -- ---- coded by code and decoded

  pub cam_by_code-back :
      (N : ℕ) (E old new : List ℕ) (n : ℕ) (old' new' : List ℕ) (o : Outcome ℕ) → CamByCode (edge_table e) N E old new (gives n) → length E ≤ length old'
      → DecodeCam e N (take n new) old' new' o → Renumbered N E new' o
  cam_by_code-back N E old new n old' new' o c h g =
      let (k, b, _) = gave c in
      by_code-back (skeleton_of k) b.numbering new' o (length old') h (λ l s p. from-cam (clear_edition k) N b.edges l s p (subst (λ d. DecodeCam e N d old' new' o) b.is g))

  pub zero_a_by_code-back :
      (N : ℕ) (E : List ℕ) (v : ℕ) (old new : List ℕ) (o : Outcome ℕ) → ZeroAByCode (edge_table e) N E (gives v) → length E ≤ length old → DecodeZeroA e N v old new o
      → Renumbered N E new o
  zero_a_by_code-back N E v old new o c h g =
      let (k, b) = gave_value c in
      by_code-back (skeleton_of k) b.numbering new o (length old) h (λ l s p. from_zero (clear_edition k) N b.edges l s p (subst (λ y. DecodeZeroA e N y old new o) b.is g))

  pub a_zero_by_code-back :
      (N : ℕ) (E : List ℕ) (v : ℕ) (old new : List ℕ) (o : Outcome ℕ) → AZeroByCode (edge_table e) N E (gives v) → length E ≤ length old → DecodeAZero e N v old new o
      → Renumbered N E new o
  a_zero_by_code-back N E v old new o c h g =
      let (k, b) = gave_value c in
      by_code-back (skeleton_of k) b.numbering new o (length old) h (λ l s p. from_a (clear_edition k) N b.edges l s (subst (λ y. DecodeAZero e N y old new o) b.is g))
