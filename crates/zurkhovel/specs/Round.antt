-- Demand 2, said of the public calls: "Decoding an accepted code and coding again in the same form gives that code; coding and decoding
-- gives the same skeleton under other numbers." What a call gave is the n bytes at the start of its lent output; where the next call's
-- output has room, it gives what is said here and nothing else.
--
-- In order: a right code decoded, and edges read back; rooted codes; N-tuple and centred codes, once for both. The bit-tuple's forms are in
-- `RoundBits`, CAM, 0A and A0 in `RoundMatrix`, lines in `RoundText`. Assumes nothing.
use Rattle.std.specs.Prelude.{◌≡◌, refl, List, ℕ, ◌≤◌, length, take}
use Rattle.std.proofs.Common.{sym, ap, subst, ◌∙◌, arith}
use Rattle.laws.specs.Laying.{laid-front}
use Rattle.refusal.specs.document.Table.{Row, Clear, Outcome, gives, Gives}
use Rattle.refusal.specs.Giving.{gave}
use Rattle.refusal.proofs.Giving.{must_give}
use Rattle.refusal.specs.document.Given.{Given}
use Rattle.limits.specs.document.Limits.{size}
use Rattle.digit_code.specs.document.Code.{code_rows, decode}
use Rattle.digit_code.specs.Right.{clear_right, right_clear}
use Rattle.skeleton.specs.document.Skeleton.{IsTree, IsSkeleton, Renumbering, rooted}
use Rattle.skeleton.specs.Theorems as Tree
use Rattle.refusal.specs.Laws.{others}
use Rattle.skeleton.specs.Accepted.{code_passes}
use Rattle.edge_list.specs.Theorems.{accepted}
use Rattle.form.specs.document.Form.{IsNTuple, IsCentred}
use Rattle.form.specs.Forms.{IsForm, form-decoded, form_ends, form-size, n_tuple-form, centred-form}
use Rattle.form.specs.Accepted.{right_decoded, form_accepted, form_passes}
use Rattle.zurkhovel.specs.document.Codes.{DecodeCode, RootedCode, FormCode, DecodeForm}
use Rattle.zurkhovel.specs.document.Round.{Renumbered}
use Rattle.edition.specs.document.Edition.{neighbours_in}
use Rattle.zurkhovel.specs.Accepted.{same_edition}
use Rattle.zurkhovel.specs.document.InEdition.{code_table, edge_table}

-- ---- edges read back

-- the rooted code at a vertex of a skeleton is right, and decodes to the skeleton under other numbers
module _ {most R N : ℕ} {E : List ℕ} (s : IsSkeleton most R N E) {r : ℕ} (a : 1 ≤ r) (b : r ≤ N) where
  pub code_clear : Clear (code_rows most R (rooted N E r))
  code_clear =
      (code_passes most R (rooted N E r)).1
      (record { number = N; edges = E; root = r; tree = s.tree; inside = (a, b); is = refl }, s)

  pub code_tree : IsTree N (decode (rooted N E r))
  code_tree =
      subst (λ n. IsTree n (decode (rooted N E r))) (Tree.code_length N E r s.tree a b)
      (Tree.decoded_tree (rooted N E r) ((Tree.decode-code (rooted N E r)).0 (Tree.right N E r s.tree a b)).0)

  pub code-numbers : Renumbering N E (decode (rooted N E r))
  code-numbers = (Tree.code-decode N E r s.tree a b).0

-- a reader that no row stops, and for which the edges F alone are right, gives them; they are as many as those of another tree of N vertices
pub edges-given :
    {N : ℕ} {E F : List ℕ} {rs : List Row} {Right : List ℕ → Type 0} {old new : List ℕ} {o : Outcome ℕ} → IsTree N E → IsTree N F → Clear rs
    → Right F → ((G : List ℕ) → Right G → G ≡ F) → length E ≤ length old → Gives rs Right old new o → (o ≡ gives (length E)) × (take (length E) new ≡ F)
edges-given {E = E} {F} {old = old} {new} t u k r one h g =
    let l : length F ≡ length E = omega (arith, t.edges, u.edges) in
    let (a, b) = must_give k F r one (omega arith) g in
    (a ∙ ap gives l, laid-front F old new (length E) b l)

-- where these are the same skeleton under other numbers, so is what is given
pub edges-back :
    {N : ℕ} {E F : List ℕ} {rs : List Row} {Right : List ℕ → Type 0} {old new : List ℕ} {o : Outcome ℕ} → IsTree N E → IsTree N F
    → Renumbering N E F → Clear rs → Right F → ((G : List ℕ) → Right G → G ≡ F) → length E ≤ length old → Gives rs Right old new o
    → Renumbered N E new o
edges-back {N} {E} t u ρ k r one h g = let (a, b) = edges-given t u k r one h g in (a, subst (Renumbering N E) (sym b) ρ)

-- ---- in the edition e

module _ (e : ℕ) where
  -- ---- a right code decoded

  -- a right rooted code makes a skeleton that no row refuses, whose code at vertex 1 it is
  module _ (c : List ℕ) (k : Clear (code_table e c)) where
    pub its_skeleton : IsSkeleton size (neighbours_in e) (length c) (decode c)
    its_skeleton = right_decoded size (neighbours_in e) c (clear_right size (neighbours_in e) c (others k))

    pub its_rows : (most : ℕ) → length c ≤ most → Clear (edge_table e most (length c) (decode c) 1)
    its_rows most h =
        let s = its_skeleton in
        same_edition k
        ((accepted most (neighbours_in e) (length c) (decode c) 1).1
        (record { tree = s.tree; few = h; degrees = s.degrees }, (omega arith, (clear_right size (neighbours_in e) c (others k)).some)))

    pub its_code : rooted (length c) (decode c) 1 ≡ c
    its_code = ((Tree.decode-code c).0 ((code_passes size (neighbours_in e) c).0 (others k)).0).1

  -- ---- rooted codes

  -- decoded and coded at vertex 1, an accepted code is itself
  pub rooted_again :
      (c old new : List ℕ) (m : ℕ) (old' new' : List ℕ) (o : Outcome ℕ) → DecodeCode e c old new (gives m) → length c ≤ length old'
      → RootedCode e (length c) (take m new) 1 old' new' o → Given c old' new' o
  rooted_again c old new m old' new' o d h g =
      let (k, q, _) = gave d in
      must_give (its_rows c k size (clear_right size (neighbours_in e) c (others k)).few) c (sym (its_code c k)) (λ b x. x ∙ its_code c k) h
      (subst (λ F. RootedCode e (length c) F 1 old' new' o) q g)

  -- coded at a vertex and decoded, a skeleton is the same under other numbers
  pub rooted-back :
      (N : ℕ) (E : List ℕ) (r : ℕ) (old new : List ℕ) (n : ℕ) (old' new' : List ℕ) (o : Outcome ℕ) → RootedCode e N E r old new (gives n)
      → length E ≤ length old' → DecodeCode e (take n new) old' new' o → Renumbered N E new' o
  rooted-back N E r old new n old' new' o c h g =
      let (k, q, _) = gave c in
      let (s, (a, b)) = (accepted size (neighbours_in e) N E r).0 (others k) in
      edges-back s.tree (code_tree s a b) (code-numbers s a b) (same_edition k (code_clear s a b)) refl (λ F z. z) h (subst (λ d. DecodeCode e d old' new' o) q g)

  -- ---- N-tuple and centred codes

  module _ (form : ℕ → List ℕ → List ℕ → Type 0) (f : IsForm form) where
    form_again :
        (c old new : List ℕ) (m : ℕ) (old' new' : List ℕ) (o : Outcome ℕ) → DecodeForm e form c old new (gives m) → length c ≤ length old'
        → FormCode e form (length c) (take m new) old' new' o → Given c old' new' o
    form_again c old new m old' new' o d h g =
        let (k, q, _) = gave d in
        let (r, x) = (form_passes form f size (neighbours_in e) c).0 (others k) in
        let l = same_edition k (right_clear size (neighbours_in e) c r) in
        must_give (its_rows c l size r.few) c x (λ b y. f.one (its_skeleton c l).tree y x) h
        (subst (λ F. FormCode e form (length c) F old' new' o) q g)

    form-back :
        (N : ℕ) (E old new : List ℕ) (n : ℕ) (old' new' : List ℕ) (o : Outcome ℕ) → FormCode e form N E old new (gives n) → length E ≤ length old'
        → DecodeForm e form (take n new) old' new' o → Renumbered N E new' o
    form-back N E old new n old' new' o c h g =
        let (k, x, _) = gave c in
        let (s, i) = (accepted size (neighbours_in e) N E 1).0 (others k) in
        let d = take n new in
        let a = same_edition k (form_accepted form f size (neighbours_in e) d N E s x) in
        let u = subst (λ m. IsTree m (decode d)) (form-size form f N E d s.tree x) (Tree.decoded_tree d (form_ends form f N E d s.tree x)) in
        edges-back s.tree u (form-decoded form f N E d s.tree x) a refl (λ F z. z) h g

  pub n_tuple_again :
      (c old new : List ℕ) (m : ℕ) (old' new' : List ℕ) (o : Outcome ℕ) → DecodeForm e IsNTuple c old new (gives m) → length c ≤ length old'
      → FormCode e IsNTuple (length c) (take m new) old' new' o → Given c old' new' o
  n_tuple_again = form_again IsNTuple n_tuple-form

  pub n_tuple-back :
      (N : ℕ) (E old new : List ℕ) (n : ℕ) (old' new' : List ℕ) (o : Outcome ℕ) → FormCode e IsNTuple N E old new (gives n) → length E ≤ length old'
      → DecodeForm e IsNTuple (take n new) old' new' o → Renumbered N E new' o
  n_tuple-back = form-back IsNTuple n_tuple-form

  pub centred_again :
      (c old new : List ℕ) (m : ℕ) (old' new' : List ℕ) (o : Outcome ℕ) → DecodeForm e IsCentred c old new (gives m) → length c ≤ length old'
      → FormCode e IsCentred (length c) (take m new) old' new' o → Given c old' new' o
  centred_again = form_again IsCentred centred-form

  pub centred-back :
      (N : ℕ) (E old new : List ℕ) (n : ℕ) (old' new' : List ℕ) (o : Outcome ℕ) → FormCode e IsCentred N E old new (gives n) → length E ≤ length old'
      → DecodeForm e IsCentred (take n new) old' new' o → Renumbered N E new' o
  centred-back = form-back IsCentred centred-form
