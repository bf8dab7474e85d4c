-- What is left of a code where a child of the root is cut off with all that hangs on it: the code of the other half (`others-rest`).
--
-- In order: that part of the marks; the root's children's codes in the code; the theorem. Assumes nothing.
use Rattle.std.specs.Prelude.{◌≡◌, take, drop}
use Rattle.std.proofs.Math.Path.{ap, ap₂, sym, subst}
use Rattle.std.proofs.Common.{◌∙◌, ⊎_elim, add-zero, arith, length-append, take_at, drop_at, take_all}
use mathlib.Core.List.{List, [], ◌∷◌, ◌++◌, map, flatten, append_assoc, head-eq_of_cons-eq, tail-eq_of_cons-eq, Memᴰ, Permᴰ}
use Prim.Native.Nat.{ℕ, ◌+◌, ◌-◌, ◌≤◌}
use Rattle.std.proofs.Math.ListN.{length}
use Rattle.laws.specs.Falling.{Falling}
use Rattle.laws.specs.Perms.{perm_length}
use Rattle.laws.specs.Sorting.{trans≽, sort_perm, sort_stays}
use Rattle.digit_code.specs.document.Code.{digit, codes, child_codes, decode}
use Rattle.digit_code.specs.Ends.{Ends}
use Rattle.digit_code.specs.Parts.{flatten_append, flatten_codes, codes-count}
use Rattle.skeleton.specs.document.Skeleton.{arcs}
use Rattle.skeleton.specs.document.Label.{Marks, joinₗ, codeₗ, digits, labels}
use Rattle.skeleton.specs.Label.{fewer, IsRootedₗ}
use Rattle.skeleton.specs.Decoding.{number}
use Rattle.skeleton.specs.Ordered.{down-branches, code_orderedₗ}
use Rattle.skeleton.specs.Right.{read-code}
use Rattle.skeleton.specs.General.{decode-code}
use Rattle.skeleton.specs.Walks.{turn}
use Rattle.numbering.specs.document.Decoded.{starts, begins, parent}
use Rattle.numbering.proofs.Decoded.{begins-marks, marks-decoded}
use Rattle.numbering.specs.Standing.{Known, at-root, marked-codes, marked-down}
use Rattle.orbits.specs.Joins.{Ones, ones_perm, ones_more, join_ends, Same, same-join, join-same, same-less}
use Rattle.orbits.specs.Sides.{branches_ones, Edge}
use Rattle.orbits.specs.Parents.{subtreeₗ, root-parent, falling, parent_arc, arc_down}

-- what is left of the code where the root's child v is cut off
abbrev pub restₗ : Marks → List ℕ → ℕ → List ℕ
restₗ M c v = fewer M (digit c 1) ∷ (take (v - 2) (drop 1 c) ++ drop (v - 1 + length (subtreeₗ M c v)) c)

-- a part s that is cut out of marks
cut_out : (c : List ℕ) (k v : ℕ) (p s q : List ℕ) → c ≡ k ∷ (p ++ (s ++ q)) → v ≡ 2 + length p → take (v - 2) (drop 1 c) ++ drop (v - 1 + length s) c ≡ p ++ q
cut_out c k v p s q e f =
    let n : length p ≡ v - 2 = omega arith in
    let m : length (k ∷ (p ++ s)) ≡ v - 1 + length s = omega (arith, length-append p s) in
    let whole : c ≡ (k ∷ (p ++ s)) ++ q = e ∙ ap (λ l. k ∷ l) (sym (append_assoc p s q)) in
    ap₂ ◌++◌ (ap (λ l. take (v - 2) (drop 1 l)) e ∙ take_at p (s ++ q) (v - 2) n) (ap (drop (v - 1 + length s)) whole ∙ drop_at (k ∷ (p ++ s)) q (v - 1 + length s) m)

-- codes that go down go down without one of them
falling_less : (x : List ℕ) (b e : List (List ℕ)) → Falling (b ++ (x ∷ e)) → Falling (b ++ e)
falling_less x [] [] f = tt
falling_less x [] (y ∷ e) f = f.1
falling_less x (a ∷ []) [] f = tt
falling_less x (a ∷ []) (y ∷ e) f = (trans≽ a x y f.0 f.1.0, f.1.1)
falling_less x (a ∷ d ∷ b) e f = (f.0, falling_less x (d ∷ b) e f.1)

-- the codes before and behind the one that begins at v, where g gives the code that begins at a place
split : (g : ℕ → List ℕ) (v j : ℕ) (cs : List (List ℕ)) → map g (starts j cs) ≡ cs → Memᴰ v (starts j cs)
    → (b : List (List ℕ)) × (e : List (List ℕ)) × (cs ≡ b ++ (g v ∷ e)) × (v ≡ j + length (flatten b))
unfolding starts flatten
split g v j [] h m = absurd (mathlib.Core.List.Memᴰ.not-nil m)
split g v j (x ∷ cs) h (mathlib.Core.List.Memᴰ.head q) = ([], cs, ap (λ a. a ∷ cs) (sym (ap g q ∙ head-eq_of_cons-eq h)), omega arith)
split g v j (x ∷ cs) h (mathlib.Core.List.Memᴰ.tail m) =
    let (b, e, p, q) = split g v (j + length x) cs (tail-eq_of_cons-eq h) m in
    (x ∷ b, e, ap (λ l. x ∷ l) p, omega (arith, length-append x (flatten b)))

-- a code is its first mark, then the codes of the root's children
whole : (M : Marks) (c : List ℕ) → Ends 1 (digits M c) → (length (child_codes M.arity c 1) ≡ M.arity (digit c 1)) × (c ≡ digit c 1 ∷ flatten (child_codes M.arity c 1))
unfolding child_codes digits
whole M [] w = absurd w
whole M (m ∷ ms) w =
    let k : ℕ = M.arity m in
    let n : length (codes M.arity ms) ≡ k = codes-count M.arity (k + 0) ms w ∙ add-zero k in
    let all : take k (codes M.arity ms) ≡ codes M.arity ms = take_all k (codes M.arity ms) (omega arith) in
    (ap length all ∙ n, ap (λ l. m ∷ l) (sym (ap flatten all ∙ flatten_codes M.arity ms)))

module _ (M : Marks) (c : List ℕ) (x : IsRootedₗ M c) where
  abbrev N : ℕ
  N = length c

  abbrev ds : List ℕ
  ds = digits M c

  abbrev E : List ℕ
  E = decode ds

  abbrev l : ℕ → M.Label
  l = labels M c

  -- the codes of the root's children
  abbrev X : List (List ℕ)
  X = child_codes M.arity c 1

  children_ones : Ones M X
  children_ones =
      let (w, o) = (code_orderedₗ M c).0 x in
      let (f, e) = read-code ds w in
      let k : Known ds 0 1 = at-root ds f e in
      subst (Ones M) (down-branches M l (number 2 k.below) (marked-down M c k o) ∙ sym (marked-codes M c k)) (branches_ones M l (number 2 k.below))

  module _ (v : ℕ) (a : 2 ≤ v) (h : v ≤ N) (p : parent ds v ≡ 1) where
    root_child : Memᴰ v (begins ds 1)
    root_child =
        let m : Memᴰ (v, 1) (arcs E) = rw p at (parent_arc M c x v a h) in
        ⊎_elim (λ e. let z : ⊥ = omega (arith, root-parent ds) in absurd z) (λ i. i) (arc_down M c x 1 v (turn E m))

    module _ (e : Edge M l N E 1 v) (s : joinₗ M (l v) e.D ≡ subtreeₗ M c v) where
      -- v's code stands among the root's children's, with b before it and d behind
      cut_off : (b d : List (List ℕ)) → X ≡ b ++ (subtreeₗ M c v ∷ d) → v ≡ 2 + length (flatten b) → joinₗ M (l 1) e.G ≡ restₗ M c v
      unfolding joinₗ flatten labels
      cut_off b d y j =
          let u : List ℕ = subtreeₗ M c v in
          let (n, q) = whole M c ((code_orderedₗ M c).0 x).0 in
          let down : Falling X = falling M c x 1 (omega arith) (omega arith) in
          let π : Permᴰ X (u ∷ (b ++ d)) = subst (λ m. Permᴰ m (u ∷ (b ++ d))) (sym y) (mathlib.Core.List.Permᴰ.middle u b d) in
          let as_one : joinₗ M (l 1) X ≡ c = ap₂ (λ k m. M.mark k (l 1) ∷ flatten m) n (sort_stays X down) ∙ ap (λ m. m ∷ flatten X) (M.mark_of (digit c 1)) ∙ sym q in
          let top : joinₗ M (l 1) (u ∷ e.G) ≡ c = ap (λ m. joinₗ M (l 1) (m ∷ e.G)) (sym s) ∙ sym e.upper ∙ ((decode-code M c).0 x).1 in
          let less : Same e.G (b ++ d) = same-less u e.G (b ++ d)
          (join-same M (l 1) (l 1) (ones_more M (subst (λ m. Ends 1 (digits M m)) s (join_ends M (l v) e.ones)) e.others) (ones_perm M π children_ones)
          (top ∙ sym as_one ∙ same-join M (l 1) X (u ∷ (b ++ d)) (sort_perm π))).1 in
          let still : Falling (b ++ d) = falling_less u b d (subst Falling y down) in
          let count : length (b ++ d) ≡ M.arity (digit c 1) - 1 = omega (arith, n, perm_length π) in
          let marks : c ≡ digit c 1 ∷ (flatten b ++ (u ++ flatten d)) = q ∙ ap (λ m. digit c 1 ∷ m) (ap flatten y ∙ flatten_append b (u ∷ d)) in
          same-join M (l 1) e.G (b ++ d) less
          ∙ ap₂ (λ k m. M.mark k (l 1) ∷ flatten m) count (sort_stays (b ++ d) still)
          ∙ ap (λ m. fewer M (digit c 1) ∷ m) (flatten_append b d ∙ sym (cut_out c (digit c 1) v (flatten b) u (flatten d) marks j))

      -- the code of the half without v
      pub others-rest : joinₗ M (l 1) e.G ≡ restₗ M c v
      unfolding begins
      others-rest =
          let starts-at : starts 2 X ≡ begins ds 1 = sym (begins-marks M c 1 (omega arith) (omega arith)) in
          let (b, d, i, j) = split (codeₗ M l N (arcs E) 1) v 2 X (ap (map (codeₗ M l N (arcs E) 1)) starts-at ∙ (marks-decoded M c x 1 (omega arith) (omega arith)).coded) (subst (λ m. Memᴰ v m) (sym starts-at) root_child) in
          let g : codeₗ M l N (arcs E) 1 v ≡ subtreeₗ M c v = e.side N (omega arith) ∙ s in
          cut_off b d (i ∙ ap (λ m. b ++ (m ∷ d)) g) j
