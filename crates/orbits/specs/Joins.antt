-- The rooted codes at the two ends of an edge u - v, as lists of codes alone. D: the codes of v's other branches, G: those of u's. Where a is
-- u's label and b is v's, the code at u is then `joinₗ a (joinₗ b D ∷ G)`, that at v `joinₗ b (joinₗ a G ∷ D)`.
--
-- In order: codes one behind the other are told apart; putting a code among others loses nothing; lists that are joined to one code; what one
-- end's code and one side tell of the other. Assumes nothing.
use Rattle.std.specs.Prelude.{◌≡◌, ◌↔◌, ◌⊎◌}
use Rattle.std.proofs.Math.Path.{refl, ap, ap₂, sym, subst}
use Rattle.std.proofs.Common.{◌∙◌, inl, inr, zero-add, suc-add, length-append}
use Rattle.std.proofs.Math.Logic.{ite}
use mathlib.Core.List.Memᴰ
use mathlib.Core.List.Permᴰ
use mathlib.Core.List.{List, [], ◌∷◌, ◌++◌, map, flatten, map-append, head-eq_of_cons-eq, tail-eq_of_cons-eq, Memᴰ, Permᴰ}
use Prim.Native.Nat.{ℕ, zero, suc, ◌+◌, ◌≤◌, ◌<◌}
use native.Mathlib.Omega.{arith}
use Rattle.std.proofs.Math.ListN.{length}
use Rattle.laws.specs.document.Order.{◌≽◌, dec≽, insert, sort}
use Rattle.laws.specs.Sorting.{refl≽, insert_self, sort_self}
use Rattle.laws.specs.Perms.{perm_in, perm_length}
use Rattle.digit_code.specs.Ends.{Ends}
use Rattle.skeleton.specs.document.Label.{Marks, joinₗ, digits}

-- ---- codes one behind the other

module _ (M : Marks) where
  -- each is one whole code
  abbrev pub Ones : List (List ℕ) → Type 0
  Ones l = (c : List ℕ) → Memᴰ c l → Ends 1 (digits M c)

  pub ones_perm : {l m : List (List ℕ)} → Permᴰ l m → Ones l → Ones m
  ones_perm π o c h = o c (perm_in (Permᴰ.symm π) h)

  pub ones_more : {a : List ℕ} {l : List (List ℕ)} → Ends 1 (digits M a) → Ones l → Ones (a ∷ l)
  ones_more w o c (Memᴰ.head e) = rw e w
  ones_more w o c (Memᴰ.tail h) = o c h

ends_on : (a x : List ℕ) (w n : ℕ) → Ends w a → Ends n x → Ends (w + n) (a ++ x)
ends_on [] x zero n w h = rw zero-add h
ends_on [] x (suc w) n e h = absurd e
ends_on (k ∷ a) x zero n e h = absurd e
ends_on (k ∷ a) x (suc w) n e h = let q : k + w + n ≡ k + (w + n) = omega arith in rw suc-add (subst (λ m. Ends m (a ++ x)) q (ends_on a x (k + w) n e h))

module _ (M : Marks) where
  ends_flat : (l : List (List ℕ)) → Ones M l → Ends (length l) (digits M (flatten l))
  unfolding flatten digits
  ends_flat [] o = tt
  ends_flat (a ∷ l) o =
      let q : 1 + length l ≡ suc (length l) = omega arith in
      rw (← q, map-append M.arity a (flatten l)) (ends_on (map M.arity a) (map M.arity (flatten l)) 1 (length l) (o a (Memᴰ.head refl)) (ends_flat l (λ c h. o c (Memᴰ.tail h))))

  -- codes that are joined are one code
  pub join_ends : (a : M.Label) {l : List (List ℕ)} → Ones M l → Ends 1 (digits M (joinₗ M a l))
  unfolding joinₗ digits
  join_ends a {l} o =
      let n : length (sort l) ≡ M.arity (M.mark (length l) a) + 0 = omega (arith, perm_length (sort_self l), M.arity_mark (length l) a) in
      subst (λ k. Ends k (map M.arity (flatten (sort l)))) n (ends_flat (sort l) (ones_perm M (sort_self l) o))

  -- of equal marks, two beginnings that end are the same
  cut_same : (a b x y : List ℕ) (w : ℕ) → Ends w (digits M a) → Ends w (digits M b) → a ++ x ≡ b ++ y → (a ≡ b) × (x ≡ y)
  unfolding digits
  cut_same [] [] x y w h g e = (refl, e)
  cut_same [] (k ∷ b) x y zero h g e = absurd g
  cut_same [] (k ∷ b) x y (suc w) h g e = absurd h
  cut_same (k ∷ a) [] x y zero h g e = absurd h
  cut_same (k ∷ a) [] x y (suc w) h g e = absurd g
  cut_same (k ∷ a) (m ∷ b) x y zero h g e = absurd h
  cut_same (k ∷ a) (m ∷ b) x y (suc w) h g e =
      let q : k ≡ m = head-eq_of_cons-eq e in
      let (i, j) = cut_same a b x y (M.arity k + w) h (rw (← q) at g) (tail-eq_of_cons-eq e) in
      (ap₂ ◌∷◌ q i, j)

  flatten_same : (l m : List (List ℕ)) → Ones M l → Ones M m → length l ≡ length m → flatten l ≡ flatten m → l ≡ m
  unfolding flatten
  flatten_same [] [] o p n e = refl
  flatten_same [] (b ∷ m) o p n e = let z : ⊥ = omega arith in absurd z
  flatten_same (a ∷ l) [] o p n e = let z : ⊥ = omega arith in absurd z
  flatten_same (a ∷ l) (b ∷ m) o p n e =
      let (i, j) = cut_same a b (flatten l) (flatten m) 1 (o a (Memᴰ.head refl)) (p b (Memᴰ.head refl)) e in
      ap₂ ◌∷◌ i (flatten_same l m (λ c h. o c (Memᴰ.tail h)) (λ c h. p c (Memᴰ.tail h)) (omega arith) j)

-- ---- a code put among others

insert_length : (a : List ℕ) (l : List (List ℕ)) → length (insert a l) ≡ suc (length l)
insert_length a l = sym (perm_length (insert_self a l))

-- the same put into two lists: the lists are the same
insert-one : (a : List ℕ) (l m : List (List ℕ)) → insert a l ≡ insert a m → l ≡ m
unfolding insert
insert-one a [] [] e = refl
insert-one a [] (y ∷ m) e = let z : ⊥ = omega (arith, ap length e, insert_length a [], insert_length a (y ∷ m)) in absurd z
insert-one a (x ∷ l) [] e = let z : ⊥ = omega (arith, ap length e, insert_length a [], insert_length a (x ∷ l)) in absurd z
insert-one a (x ∷ l) (y ∷ m) e = step (dec≽ a x) (dec≽ a y) (insert-one a l m) e
  where
    step : (s : Dec (a ≽ x)) (t : Dec (a ≽ y)) → (insert a l ≡ insert a m → l ≡ m)
        → ite s (a ∷ x ∷ l) (x ∷ insert a l) ≡ ite t (a ∷ y ∷ m) (y ∷ insert a m) → ◌≡◌ {A = List (List ℕ)} (x ∷ l) (y ∷ m)
    step (yes h) (yes k) r e = tail-eq_of_cons-eq e
    step (yes h) (no k) r e = let q : a ≡ y = head-eq_of_cons-eq e in absurd (k (rw q (refl≽ y)))
    step (no h) (yes k) r e = let q : x ≡ a = head-eq_of_cons-eq e in absurd (h (rw q (refl≽ a)))
    step (no h) (no k) r e = ap₂ ◌∷◌ (head-eq_of_cons-eq e) (r (tail-eq_of_cons-eq e))

insert-front : (b x : List ℕ) (l : List (List ℕ)) → insert b l ≡ x ∷ l → b ≡ x
unfolding insert
insert-front b x [] e = head-eq_of_cons-eq e
insert-front b x (y ∷ l) e = step (dec≽ b y) (insert-front b y l) e
  where
    step : (s : Dec (b ≽ y)) → (insert b l ≡ y ∷ l → b ≡ y) → ite s (b ∷ y ∷ l) (y ∷ insert b l) ≡ x ∷ y ∷ l → b ≡ x
    step (yes h) r e = head-eq_of_cons-eq e
    step (no h) r e = r (tail-eq_of_cons-eq e) ∙ head-eq_of_cons-eq e

-- two put into one list: the two are the same
insert_what : (a b : List ℕ) (l : List (List ℕ)) → insert a l ≡ insert b l → a ≡ b
unfolding insert
insert_what a b [] e = head-eq_of_cons-eq e
insert_what a b (x ∷ l) e = step (dec≽ a x) (dec≽ b x) (insert_what a b l) e
  where
    step : (s : Dec (a ≽ x)) (t : Dec (b ≽ x)) → (insert a l ≡ insert b l → a ≡ b)
        → ite s (a ∷ x ∷ l) (x ∷ insert a l) ≡ ite t (b ∷ x ∷ l) (x ∷ insert b l) → a ≡ b
    step (yes h) (yes k) r e = head-eq_of_cons-eq e
    step (yes h) (no k) r e = head-eq_of_cons-eq e ∙ sym (insert-front b x l (sym (tail-eq_of_cons-eq e)))
    step (no h) (yes k) r e = insert-front a x l (tail-eq_of_cons-eq e) ∙ head-eq_of_cons-eq e
    step (no h) (no k) r e = r (tail-eq_of_cons-eq e)

-- ---- lists that are joined to one code

-- the same codes, in whatever order
abbrev pub Same : List (List ℕ) → List (List ℕ) → Type 0
Same l m = sort l ≡ sort m

pub same_length : (l m : List (List ℕ)) → Same l m → length l ≡ length m
same_length l m e = perm_length (sort_self l) ∙ ap length e ∙ sym (perm_length (sort_self m))

pub same_more : (a : List ℕ) (l m : List (List ℕ)) → Same l m → Same (a ∷ l) (a ∷ m)
unfolding sort
same_more a l m e = ap (insert a) e

pub same-less : (a : List ℕ) (l m : List (List ℕ)) → Same (a ∷ l) (a ∷ m) → Same l m
unfolding sort
same-less a l m e = insert-one a (sort l) (sort m) e

same-one : (a b : List ℕ) (l m : List (List ℕ)) → Same l m → Same (a ∷ l) (b ∷ m) → a ≡ b
unfolding sort
same-one a b l m s e = insert_what a b (sort l) (e ∙ ap (insert b) (sym s))

same_in : {a : List ℕ} (l m : List (List ℕ)) → Same l m → Memᴰ a l → Memᴰ a m
same_in {a} l m e h = let i : Memᴰ a (sort m) = rw e at (perm_in (sort_self l) h) in perm_in (Permᴰ.symm (sort_self m)) i

-- ---- the two ends of an edge

-- a code is no longer than those that it stands among
within : (a : List ℕ) (m : List (List ℕ)) → Memᴰ a m → length a ≤ length (flatten m)
unfolding flatten
within a [] h = absurd (Memᴰ.not-nil h)
within a (b ∷ m) (Memᴰ.head e) = omega (arith, ap length e, length-append b (flatten m))
within a (b ∷ m) (Memᴰ.tail h) = omega (arith, within a m h, length-append b (flatten m))

module _ (M : Marks) where
  -- and shorter than what it is joined into
  shorter : (a : List ℕ) (l : List (List ℕ)) (b : M.Label) → Memᴰ a l → length a < length (joinₗ M b l)
  unfolding joinₗ
  shorter a l b h = omega (arith, within a (sort l) (perm_in (sort_self l) h))

  pub same-join : (a : M.Label) (l m : List (List ℕ)) → Same l m → joinₗ M a l ≡ joinₗ M a m
  unfolding joinₗ
  same-join a l m e = ap₂ (λ n x. M.mark n a ∷ flatten x) (same_length l m e) e

  -- equal codes have equal labels at their roots, and the same codes below
  pub join-same : (a b : M.Label) {l m : List (List ℕ)} → Ones M l → Ones M m → joinₗ M a l ≡ joinₗ M b m → (a ≡ b) × Same l m
  unfolding joinₗ
  join-same a b {l} {m} o p e =
      let q : M.mark (length l) a ≡ M.mark (length m) b = head-eq_of_cons-eq e in
      let n : length l ≡ length m = sym (M.arity_mark (length l) a) ∙ ap M.arity q ∙ M.arity_mark (length m) b in (
        sym (M.atom_mark (length l) a) ∙ ap M.atom q ∙ M.atom_mark (length m) b,
        flatten_same M (sort l) (sort m) (ones_perm M (sort_self l) o) (ones_perm M (sort_self m) p)
            (sym (perm_length (sort_self l)) ∙ n ∙ perm_length (sort_self m)) (tail-eq_of_cons-eq e),
      )

  -- where the edge's ends have the labels a and b, and another's the labels a' and b'
  module _ {D G D' G' : List (List ℕ)} (d : Ones M D) (g : Ones M G) (d' : Ones M D') (g' : Ones M G') (a b a' b' : M.Label) where
    uppers : joinₗ M a (joinₗ M b D ∷ G) ≡ joinₗ M a' (joinₗ M b' D' ∷ G') → (a ≡ a') × Same (joinₗ M b D ∷ G) (joinₗ M b' D' ∷ G')
    uppers = join-same a a' (ones_more M (join_ends M b d) g) (ones_more M (join_ends M b' d') g')

    -- equal codes at one end, and beyond the edge from there: equal codes at the other end
    pub far_end : joinₗ M a (joinₗ M b D ∷ G) ≡ joinₗ M a' (joinₗ M b' D' ∷ G') → joinₗ M b D ≡ joinₗ M b' D' → joinₗ M b (joinₗ M a G ∷ D) ≡ joinₗ M b' (joinₗ M a' G' ∷ D')
    far_end e f =
        let (p, s) = uppers e in
        let (q, t) = join-same b b' d d' f in
        let h : Same (joinₗ M b D ∷ G) (joinₗ M b D ∷ G') = rw (← f) at s in
        let k : joinₗ M a G ≡ joinₗ M a' G' = same-join a G G' (same-less (joinₗ M b D) G G' h) ∙ ap (λ x. joinₗ M x G') p in
        ap (λ x. joinₗ M x (joinₗ M a G ∷ D)) q ∙ ap (λ x. joinₗ M b' (x ∷ D)) k ∙ same-join b' (joinₗ M a' G' ∷ D) (joinₗ M a' G' ∷ D') (same_more (joinₗ M a' G') D D' t)

    -- equal codes at both ends: equal codes beyond the edge
    pub near_side : joinₗ M a (joinₗ M b D ∷ G) ≡ joinₗ M a' (joinₗ M b' D' ∷ G') → joinₗ M b (joinₗ M a G ∷ D) ≡ joinₗ M b' (joinₗ M a' G' ∷ D') → joinₗ M b D ≡ joinₗ M b' D'
    near_side e f =
        let low : Same (joinₗ M a G ∷ D) (joinₗ M a' G' ∷ D') = (join-same b b' (ones_more M (join_ends M a g) d) (ones_more M (join_ends M a' g') d') f).1 in
        step (Memᴰ.cases_cons (same_in (joinₗ M b D ∷ G) (joinₗ M b' D' ∷ G') (uppers e).1 (Memᴰ.head refl)))
        (Memᴰ.cases_cons (same_in (joinₗ M a' G' ∷ D') (joinₗ M a G ∷ D) (sym low) (Memᴰ.head refl)))
      where
        step : (joinₗ M b D ≡ joinₗ M b' D') ⊎ Memᴰ (joinₗ M b D) G' → (joinₗ M a' G' ≡ joinₗ M a G) ⊎ Memᴰ (joinₗ M a' G') D → joinₗ M b D ≡ joinₗ M b' D'
        step (inl q) i = q
        step (inr h) (inl q) = same-one (joinₗ M b D) (joinₗ M b' D') G G' (join-same a a' g g' (sym q)).1 (uppers e).1
        step (inr h) (inr k) = let z : ⊥ = omega (arith, shorter (joinₗ M b D) G' a' h, shorter (joinₗ M a' G') D b k) in absurd z

  -- an edge turned round: its ends have equal codes exactly when its sides have
  pub two-sides : {D G : List (List ℕ)} → Ones M D → Ones M G → (a b : M.Label)
      → (joinₗ M a (joinₗ M b D ∷ G) ≡ joinₗ M b (joinₗ M a G ∷ D)) ↔ (joinₗ M b D ≡ joinₗ M a G)
  two-sides {D} {G} d g a b = (
    λ e. near_side d g g d a b b a e (sym e),
    λ e.
        let (q, t) = join-same b a d g e in
        ap (λ x. joinₗ M a (x ∷ G)) e ∙ ap (λ x. joinₗ M x (joinₗ M a G ∷ G)) (sym q) ∙ same-join b (joinₗ M a G ∷ G) (joinₗ M a G ∷ D) (same_more (joinₗ M a G) G D (sym t)),
  )
