-- The code at a branch's root against the code at the root, and against a child, piece by piece as the code does it. Assumes nothing.
use Rattle.std.specs.Prelude.{◌≡◌, Bool, true, false, length, get_or}
use Rattle.std.proofs.Math.Path.{refl, ap, subst}
use Rattle.std.proofs.Common.{sym, ◌∙◌, subst₂, add-one, length-drop, drop-cons}
use mathlib.Core.List.{List, ◌∷◌, ◌++◌, append_assoc}
use Prim.Native.Nat.{ℕ, suc, ◌+◌, ◌-◌, ◌≤◌, ◌<◌}
use native.Mathlib.Omega.{arith}
use Rattle.std.proofs.Math.ListN.{drop}
use Rattle.laws.specs.document.Order.{◌≽◌}
use Rattle.laws.specs.Tells.{Tells}
use Rattle.laws.specs.Part.{part, part_cons, part_length, part_join}
use Rattle.digit_code.specs.declared.Order.TheVariants.{Less, Equal, Greater}
use Rattle.digit_code.specs.document.Code.{codes}
use Rattle.digit_code.specs.Compare.{lex}
use Rattle.skeleton.specs.document.Label.{Marks}
use Rattle.skeleton.specs.Label.{more, fewer}
use Rattle.centred_check.specs.Middle.{rest, turned, branch}
use Rattle.centred_check.specs.Skip.{codes_few, Skips, skips_length, skips_on}
use Rattle.centred_check.specs.Pieces.{part-rest, head-rises, head-falls, heads_same, piece-rises, piece-falls, pieces_same}
use Rattle.centred_check.specs.Spot.{Spot}

-- two codes one behind the other
module _ (c : List ℕ) (a b e : ℕ) (g : a < b) (h : b < e) (l : e ≤ length c) where
  first : part a b c ≡ get_or c a 0 ∷ part (a + 1) b c
  first = rw add-one (part_cons a b c 0 g (omega arith))

  second : part b e c ≡ get_or c b 0 ∷ part (b + 1) e c
  second = rw add-one (part_cons b e c 0 h (omega arith))

  pub beside_so : get_or c b 0 < get_or c a 0 → Tells (part a b c ≽ part b e c) true
  beside_so n = subst₂ (λ (u w : List ℕ). Tells (u ≽ w) true) (sym first) (sym second) (head-falls (get_or c a 0) (get_or c b 0) (part (a + 1) b c) (part (b + 1) e c) n)

  pub beside_not : get_or c a 0 < get_or c b 0 → Tells (part a b c ≽ part b e c) false
  beside_not n = subst₂ (λ (u w : List ℕ). Tells (u ≽ w) false) (sym first) (sym second) (head-rises (get_or c a 0) (get_or c b 0) (part (a + 1) b c) (part (b + 1) e c) n)

  pub beside_by : {r : Bool} → get_or c a 0 ≡ get_or c b 0 → Tells (part (a + 1) b c ≽ part (b + 1) e c) r → Tells (part a b c ≽ part b e c) r
  beside_by {r} q f = subst₂ (λ (u w : List ℕ). Tells (u ≽ w) r) (sym first) (sym second) (heads_same (get_or c a 0) (get_or c b 0) (part (a + 1) b c) (part (b + 1) e c) q f)

-- what is left against the child from y to z
module _ (M : Marks) (c : List ℕ) (x e y z : ℕ) (g : y < z) (h : y < length c) where
  child : part y z c ≡ get_or c y 0 ∷ part (y + 1) z c
  child = rw add-one (part_cons y z c 0 g h)

  pub covers_not : fewer M (get_or c 0 0) < get_or c y 0 → Tells (rest M c x e ≽ part y z c) false
  unfolding rest
  covers_not l = rw child (head-rises (fewer M (get_or c 0 0)) (get_or c y 0) (part 1 x c ++ drop e c) (part (y + 1) z c) l)

  pub covers_so : get_or c y 0 < fewer M (get_or c 0 0) → Tells (rest M c x e ≽ part y z c) true
  unfolding rest
  covers_so l = rw child (head-falls (fewer M (get_or c 0 0)) (get_or c y 0) (part 1 x c ++ drop e c) (part (y + 1) z c) l)

  -- where the first marks are equal, what is behind them decides
  pub covers_by : {r : Bool} → fewer M (get_or c 0 0) ≡ get_or c y 0 → Tells ((part 1 x c ++ part e (length c) c) ≽ part (y + 1) z c) r → Tells (rest M c x e ≽ part y z c) r
  unfolding rest
  covers_by {r} q f =
      let d : Tells ((part 1 x c ++ drop e c) ≽ part (y + 1) z c) r = subst (λ (l : List ℕ). Tells ((part 1 x c ++ l) ≽ part (y + 1) z c) r) (part-rest e c) f in
      rw child (heads_same (fewer M (get_or c 0 0)) (get_or c y 0) (part 1 x c ++ drop e c) (part (y + 1) z c) q d)

module _ (M : Marks) (c : List ℕ) (x y e : ℕ) (h : 1 ≤ x) (g : x < y) (k : y ≤ e) (l : e ≤ length c) where
  -- the marks from y - x on
  from_here : drop (y - x) c ≡ get_or c (y - x) 0 ∷ drop (suc (y - x)) c
  from_here = drop-cons c (y - x) 0 (omega arith)

  left : rest M c x e ++ part y e c ≡ fewer M (get_or c 0 0) ∷ (part 1 x c ++ (drop e c ++ part y e c))
  unfolding rest
  left = ap (λ (t : List ℕ). fewer M (get_or c 0 0) ∷ t) (append_assoc (part 1 x c) (drop e c) (part y e c))

  pub rest_not : get_or c (y - x) 0 < fewer M (get_or c 0 0) → Tells (drop (y - x) c ≽ (rest M c x e ++ part y e c)) false
  rest_not n = rw (from_here, left) (head-rises (get_or c (y - x) 0) (fewer M (get_or c 0 0)) (drop (suc (y - x)) c) (part 1 x c ++ (drop e c ++ part y e c)) n)

  pub rest_so : fewer M (get_or c 0 0) < get_or c (y - x) 0 → Tells (drop (y - x) c ≽ (rest M c x e ++ part y e c)) true
  rest_so n = rw (from_here, left) (head-falls (get_or c (y - x) 0) (fewer M (get_or c 0 0)) (drop (suc (y - x)) c) (part 1 x c ++ (drop e c ++ part y e c)) n)

  pub rest_by : {r : Bool} → get_or c (y - x) 0 ≡ fewer M (get_or c 0 0) → Tells (part (y - x + 1) (length c) c ≽ (part 1 x c ++ (part e (length c) c ++ part y e c))) r
      → Tells (drop (y - x) c ≽ (rest M c x e ++ part y e c)) r
  rest_by {r} q f =
      let n : part (y - x + 1) (length c) c ≡ drop (suc (y - x)) c = part-rest (y - x + 1) c ∙ ap (λ (a : ℕ). drop a c) (add-one (y - x)) in
      let d : Tells (drop (suc (y - x)) c ≽ (part 1 x c ++ (drop e c ++ part y e c))) r =
      subst (λ (t : List ℕ). Tells (t ≽ (part 1 x c ++ (drop e c ++ part y e c))) r) n (subst (λ (t : List ℕ). Tells (part (y - x + 1) (length c) c ≽ (part 1 x c ++ (t ++ part y e c))) r) (part-rest e c) f) in
      rw (from_here, left) (heads_same (get_or c (y - x) 0) (fewer M (get_or c 0 0)) (drop (suc (y - x)) c) (part 1 x c ++ (drop e c ++ part y e c)) q d)

  -- the marks behind the root
  whole : drop 1 c ≡ part 1 (y - x) c ++ drop (y - x) c
  whole =
      sym (part-rest 1 c) ∙ sym (part_join 1 (y - x) (length c) c (omega arith) (omega arith)) ∙ ap (λ (t : List ℕ). part 1 (y - x) c ++ t) (part-rest (y - x) c)

  equally_long : length (part 1 (y - x) c) ≡ length (part (x + 1) y c)
  equally_long = part_length 1 (y - x) c (omega arith) ∙ (let n : y - x - 1 ≡ y - (x + 1) = omega arith in n) ∙ sym (part_length (x + 1) y c (omega arith))

  module _ (w : List ℕ) where
    pub over_not : {n : ℕ} → lex (part 1 (y - x) c) (part (x + 1) y c) ≡ Less n → Tells (drop 1 c ≽ (part (suc x) y c ++ w)) false
    over_not o = rw (whole, ← add-one x) (piece-rises (part 1 (y - x) c) (part (x + 1) y c) (drop (y - x) c) w equally_long o)

    pub over_so : {n : ℕ} → lex (part 1 (y - x) c) (part (x + 1) y c) ≡ Greater n → Tells (drop 1 c ≽ (part (suc x) y c ++ w)) true
    over_so o = rw (whole, ← add-one x) (piece-falls (part 1 (y - x) c) (part (x + 1) y c) (drop (y - x) c) w equally_long o)

    pub over_by : {n : ℕ} {r : Bool} → lex (part 1 (y - x) c) (part (x + 1) y c) ≡ Equal n → Tells (drop (y - x) c ≽ w) r → Tells (drop 1 c ≽ (part (suc x) y c ++ w)) r
    over_by o f = rw (whole, ← add-one x) (pieces_same (part 1 (y - x) c) (part (x + 1) y c) (drop (y - x) c) w equally_long o f)

-- the code at the root of branch p, which begins at x
module _ (M : Marks) (c : List ℕ) (p x : ℕ) (s : Skips M.arity c 1 p x) where
  begins : branch M c p ≡ x
  unfolding branch
  begins = omega (arith, skips_length s)

  module _ (t : p < length (codes M.arity (drop 1 c))) where
    pub branch_some : 1 ≤ length (codes M.arity (drop x c))
    branch_some = omega (arith, ap length s.rest ∙ length-drop p (codes M.arity (drop 1 c)))

    pub branch_inside : x < length c
    branch_inside = omega (arith, branch_some, codes_few M.arity (drop x c), length-drop x c)

  module _ (t : 1 ≤ length c) where
    root : c ≡ get_or c 0 0 ∷ drop 1 c
    root = drop-cons c 0 0 t

    abbrev At : Bool → Type 0
    At r = Tells (c ≽ turned M c (branch M c p) (branch M c (suc p))) r

    -- by the pieces of the code there
    there : {e : ℕ} {r : Bool} → branch M c (suc p) ≡ e → Tells ((get_or c 0 0 ∷ drop 1 c) ≽ turned M c x e) r → At r
    there {e} {r} n f =
        subst (λ (d : List ℕ). Tells (d ≽ turned M c (branch M c p) (branch M c (suc p))) r) (sym root)
        (subst₂ (λ (i j : ℕ). Tells ((get_or c 0 0 ∷ drop 1 c) ≽ turned M c i j) r) (sym begins) (sym n) f)

    pub above_not : get_or c 0 0 < more M (get_or c x 0) → At false
    unfolding turned
    above_not n = there refl (head-rises (get_or c 0 0) (more M (get_or c x 0)) (drop 1 c) (drop 1 (turned M c x (branch M c (suc p)))) n)

    pub above_so : more M (get_or c x 0) < get_or c 0 0 → At true
    unfolding turned
    above_so n = there refl (head-falls (get_or c 0 0) (more M (get_or c x 0)) (drop 1 c) (drop 1 (turned M c x (branch M c (suc p)))) n)

    pub above_by : {e y : ℕ} {r : Bool} → get_or c 0 0 ≡ more M (get_or c x 0) → Skips M.arity c x 1 e → Spot M c x e y
        → Tells (drop 1 c ≽ (part (suc x) y c ++ (rest M c x e ++ part y e c))) r → At r
    unfolding turned branch
    above_by {e} {y} {r} q b o f =
        let n : branch M c (suc p) ≡ e = (let i = skips_on s b in let j : suc p ≡ p + 1 = omega arith in omega (arith, skips_length i, ap (λ (a : ℕ). branch M c a) j)) in
        there n (heads_same (get_or c 0 0) (more M (get_or c x 0)) (drop 1 c) (drop 1 (turned M c x e)) q (subst (λ (d : List ℕ). Tells (drop 1 c ≽ d) r) (sym o.pieces) f))
