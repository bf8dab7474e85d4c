-- The dictionary's order of codes that are put together from pieces: piece is compared with piece. Assumes nothing.
use Rattle.std.specs.Prelude.{◌≡◌, refl, Bool, true, false, List, [], ◌∷◌, ◌++◌, ℕ, ◌+◌, ◌-◌, ◌≤◌, ◌<◌, length, take, drop, ltb}
use Rattle.std.proofs.Common.{sym, ap, ◌∙◌, subst, inl, inr, ⊎_elim, arith, length-drop, take_all, length-take-le}
use Rattle.laws.specs.document.Order.{◌≽◌}
use Rattle.laws.specs.Tells.{Tells, holds, denies, was_held}
use Rattle.laws.specs.Part.{part, part_length}
use Rattle.digit_code.specs.declared.Order.{Order}
use Rattle.digit_code.specs.declared.Order.TheVariants.{Less, Equal, Greater}
use Rattle.digit_code.specs.Compare.{pick, further, lex, pairs_of, looked_few, Compares, less, greater, lex-says, told_same, told-pairs}
use Rattle.digit_code.specs.Comparing.{further-none, further-more}

-- the second answer where the first is that both are equal
abbrev and_then : Order → Order → Order
and_then (Less n) o = Less n
and_then (Equal n) o = further n o
and_then (Greater n) o = Greater n

then_further : (o p : Order) → and_then (further 1 o) p ≡ further 1 (and_then o p)
then_further (Less n) p = refl
then_further (Equal n) p = sym (further-more 1 n p)
then_further (Greater n) p = refl

then_pick : (a b : Bool) (o p : Order) → and_then (pick a (Less 1) (pick b (Greater 1) (further 1 o))) p ≡ pick a (Less 1) (pick b (Greater 1) (further 1 (and_then o p)))
then_pick true b o p = refl
then_pick false true o p = refl
then_pick false false o p = then_further o p

-- u against a and w behind it
lex-behind : (u a w : List ℕ) → length a ≤ length u → lex u (a ++ w) ≡ and_then (lex (take (length a) u) a) (lex (drop (length a) u) w)
unfolding lex
lex-behind u [] w h = further-none (lex u w)
lex-behind [] (y ∷ a) w h = let z : ⊥ = omega arith in absurd z
lex-behind (x ∷ u) (y ∷ a) w h =
    ap (λ o. pick (ltb x y) (Less 1) (pick (ltb y x) (Greater 1) (further 1 o))) (lex-behind u a w (omega arith))
    ∙ sym (then_pick (ltb x y) (ltb y x) (lex (take (length a) u) a) (lex (drop (length a) u) w))

-- where u is over first, w is not looked at
pub lex-short : (u a w : List ℕ) → length u < length a → lex u (a ++ w) ≡ lex u a
unfolding lex
lex-short u [] w h = let z : ⊥ = omega arith in absurd z
lex-short [] (y ∷ a) w h = refl
lex-short (x ∷ u) (y ∷ a) w h = ap (λ o. pick (ltb x y) (Less 1) (pick (ltb y x) (Greater 1) (further 1 o))) (lex-short u a w (omega arith))

-- a part up to the end
pub part-rest : (n : ℕ) (l : List ℕ) → part n (length l) l ≡ drop n l
part-rest n l = take_all (length l - n) (drop n l) (omega (arith, length-drop n l))

-- u against a and w behind it, by the answer about a
module _ (u a w : List ℕ) (h : length a ≤ length u) where
  by_first : {o : Order} → lex (take (length a) u) a ≡ o → and_then o (lex (drop (length a) u) w) ≡ lex u (a ++ w)
  by_first e = ap (λ o. and_then o (lex (drop (length a) u) w)) (sym e) ∙ sym (lex-behind u a w h)

  pub two-less : {n : ℕ} → lex (take (length a) u) a ≡ Less n → Less n ≡ lex u (a ++ w)
  two-less e = by_first e

  pub two_greater : {n : ℕ} → lex (take (length a) u) a ≡ Greater n → Greater n ≡ lex u (a ++ w)
  two_greater e = by_first e

  module _ {n : ℕ} {o : Order} (e : lex (take (length a) u) a ≡ Equal n) (f : o ≡ lex (part (length a) (length u) u) w) where
    pub two-equal : further n o ≡ lex u (a ++ w)
    two-equal = ap (further n) (f ∙ ap (λ (l : List ℕ). lex l w) (part-rest (length a) u)) ∙ by_first e

    -- no more pairs than u has
    pub two_few : n + pairs_of o ≤ length u
    two_few =
        let d = part (length a) (length u) u in
        omega (arith, told-pairs (take (length a) u) a e, looked_few (take (length a) u) a, length-take-le (length a) u h, told-pairs d w (sym f), looked_few d w, part_length (length a) (length u) u (omega arith))

-- by the first digit
module _ (x y : ℕ) (xs ys : List ℕ) where
  pub head-rises : x < y → Tells ((x ∷ xs) ≽ (y ∷ ys)) false
  head-rises h = denies (λ g. ⊎_elim (λ l. let z : ⊥ = omega arith in z) (λ e. let z : ⊥ = omega (arith, e.0) in z) g)

  pub head-falls : y < x → Tells ((x ∷ xs) ≽ (y ∷ ys)) true
  head-falls h = holds (inl h)

  pub heads_same : {r : Bool} → x ≡ y → Tells (xs ≽ ys) r → Tells ((x ∷ xs) ≽ (y ∷ ys)) r
  heads_same e (holds g) = holds (inr (e, g))
  heads_same e (denies n) = denies (λ g. ⊎_elim (λ l. let z : ⊥ = omega arith in z) (λ h. n h.1) g)

-- by the first piece, where the two first pieces are equally long
module _ (a b u w : List ℕ) (l : length a ≡ length b) where
  pub piece-rises : {n : ℕ} → lex a b ≡ Less n → Tells ((a ++ u) ≽ (b ++ w)) false
  piece-rises e = fit a b l (subst (Compares a b) e (lex-says a b))
    where
      under : (a b : List ℕ) → length a ≡ length b → (a ++ u) ≽ (b ++ w) → a ≽ b
      under a [] l g = tt
      under [] (y ∷ b) l g = let z : ⊥ = omega arith in absurd z
      under (x ∷ a) (y ∷ b) l (inl h) = inl h
      under (x ∷ a) (y ∷ b) l (inr (h, g)) = inr (h, under a b (omega arith) g)

      fit : (a b : List ℕ) {n : ℕ} → length a ≡ length b → Compares a b (Less n) → Tells ((a ++ u) ≽ (b ++ w)) false
      fit a b l (less n) = denies (λ g. n (under a b l g))

  pub piece-falls : {n : ℕ} → lex a b ≡ Greater n → Tells ((a ++ u) ≽ (b ++ w)) true
  piece-falls e = fit a b l (subst (Compares a b) e (lex-says a b))
    where
      over : (a b : List ℕ) → length a ≡ length b → a ≽ b → (b ≽ a → ⊥) → (a ++ u) ≽ (b ++ w)
      over a [] l g n = absurd (none a l n)
        where
          none : (a : List ℕ) → length a ≡ 0 → ([] ≽ a → ⊥) → ⊥
          none [] l n = n tt
          none (x ∷ a) l n = let z : ⊥ = omega arith in z
      over [] (y ∷ b) l g n = absurd g
      over (x ∷ a) (y ∷ b) l (inl h) n = inl h
      over (x ∷ a) (y ∷ b) l (inr (h, g)) n = inr (h, over a b (omega arith) g (λ k. n (inr (sym h, k))))

      fit : (a b : List ℕ) {n : ℕ} → length a ≡ length b → Compares a b (Greater n) → Tells ((a ++ u) ≽ (b ++ w)) true
      fit a b l (greater g n) = holds (over a b l g n)

  pub pieces_same : {n : ℕ} {r : Bool} → lex a b ≡ Equal n → Tells (u ≽ w) r → Tells ((a ++ u) ≽ (b ++ w)) r
  pieces_same {r = r} e f = subst (λ (x : List ℕ). Tells ((a ++ u) ≽ (x ++ w)) r) (was_held (told_same a b e) refl) (fit a f)
    where
      fit : (a : List ℕ) → Tells (u ≽ w) r → Tells ((a ++ u) ≽ (a ++ w)) r
      fit [] f = f
      fit (x ∷ a) f = heads_same x x (a ++ u) (a ++ w) refl (fit a f)
