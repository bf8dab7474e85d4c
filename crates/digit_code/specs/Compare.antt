-- Document 01, "Codes": "a child's code is compared where it stands". The comparison of two codes, pair of digits by pair of digits: which
-- of three answers it gives, after how many pairs; and that this is the order by which children are sorted.
--
-- In order: the comparison; the pairs that it looks at; what each answer says of the dictionary. Assumes nothing.
use Rattle.std.specs.Prelude.{◌≡◌, refl, Bool, true, false, List, [], ◌∷◌, map, ℕ, ◌+◌, ◌≤◌, ◌<◌, length, ltb}
use Rattle.std.proofs.Common.{sym, ap₂, subst, inl, inr, arith, lt-ltb, le-ltb}
use Rattle.std.proofs.Math.Path.{ap}
use Rattle.std.proofs.Math.Decide.{dec_lt}
use Rattle.laws.specs.document.Order.{◌≽◌}
use Rattle.laws.specs.Sorting.{refl≽, below≽}
use Rattle.laws.specs.Rising.{Rising}
use Rattle.laws.specs.Tells.{Tells, holds, denies}
use Rattle.digit_code.specs.declared.Order.{Order}
use Rattle.digit_code.specs.declared.Order.TheVariants.{Less, Equal, Greater}

abbrev pub pick : Bool → Order → Order → Order
pick true a b = a
pick false a b = b

-- the same answer, n pairs later
abbrev pub further : ℕ → Order → Order
further n (Less k) = Less (n + k)
further n (Equal k) = Equal (n + k)
further n (Greater k) = Greater (n + k)

-- the first difference decides; a proper prefix stands before
unfoldable pub lex : List ℕ → List ℕ → Order
lex [] [] = Equal 0
lex [] (y ∷ ys) = Less 0
lex (x ∷ xs) [] = Greater 0
lex (x ∷ xs) (y ∷ ys) = pick (ltb x y) (Less 1) (pick (ltb y x) (Greater 1) (further 1 (lex xs ys)))

abbrev pub pairs_of : Order → ℕ
pairs_of (Less n) = n
pairs_of (Equal n) = n
pairs_of (Greater n) = n

-- how many pairs are looked at when two lists are compared: up to and including the first difference, or to the end of the shorter
unfoldable pub looked : List ℕ → List ℕ → ℕ
looked a b = pairs_of (lex a b)

-- no more than there are
pub looked_few : (a b : List ℕ) → looked a b ≤ length a
unfolding looked lex
looked_few [] [] = omega arith
looked_few [] (y ∷ ys) = omega arith
looked_few (x ∷ xs) [] = omega arith
looked_few (x ∷ xs) (y ∷ ys) = step (ltb x y) (ltb y x) (lex xs ys) (looked_few xs ys)
  where
    step : (s t : Bool) (o : Order) → pairs_of o ≤ length xs → pairs_of (pick s (Less 1) (pick t (Greater 1) (further 1 o))) ≤ length (x ∷ xs)
    step true t o h = omega arith
    step false true o h = omega arith
    step false false (Less n) h = omega arith
    step false false (Equal n) h = omega arith
    step false false (Greater n) h = omega arith

-- numbers written by others in the same order are compared alike
pub lex_risen : (φ : ℕ → ℕ) → Rising φ → (a b : List ℕ) → lex (map φ a) (map φ b) ≡ lex a b
unfolding lex
lex_risen φ up [] [] = refl
lex_risen φ up [] (y ∷ ys) = refl
lex_risen φ up (x ∷ xs) [] = refl
lex_risen φ up (x ∷ xs) (y ∷ ys) = step (dec_lt x y) (dec_lt y x) (lex_risen φ up xs ys)
  where
    step : Dec (x < y) → Dec (y < x) → lex (map φ xs) (map φ ys) ≡ lex xs ys
        → pick (ltb (φ x) (φ y)) (Less 1) (pick (ltb (φ y) (φ x)) (Greater 1) (further 1 (lex (map φ xs) (map φ ys)))) ≡ pick (ltb x y) (Less 1) (pick (ltb y x) (Greater 1) (further 1 (lex xs ys)))
    step (yes l) d e = rw (lt-ltb x y l, lt-ltb (φ x) (φ y) (up x y l))
    step (no l) (yes g) e = let u : φ y < φ x = up y x g in rw (le-ltb x y (omega arith), lt-ltb y x g, le-ltb (φ x) (φ y) (omega arith), lt-ltb (φ y) (φ x) u)
    step (no l) (no g) e =
        let q : φ x ≡ φ y = (let p : x ≡ y = omega arith in ap φ p) in
        rw (le-ltb x y (omega arith), le-ltb y x (omega arith), le-ltb (φ x) (φ y) (omega arith), le-ltb (φ y) (φ x) (omega arith)) (ap (further 1) e)

pub looked_risen : (φ : ℕ → ℕ) → Rising φ → (a b : List ℕ) → looked (map φ a) (map φ b) ≡ looked a b
unfolding looked
looked_risen φ up a b = ap pairs_of (lex_risen φ up a b)

-- what each answer says of the dictionary: a stands before b, is b, or stands after b
pub data Compares (a b : List ℕ) : Order → Type 0 where
  less : {n : ℕ} → (a ≽ b → ⊥) → Compares a b (Less n)
  equal : {n : ℕ} → a ≡ b → Compares a b (Equal n)
  greater : {n : ℕ} → a ≽ b → (b ≽ a → ⊥) → Compares a b (Greater n)

head-less : (x y : ℕ) (xs ys : List ℕ) → x < y → Compares (x ∷ xs) (y ∷ ys) (Less 1)
head-less x y xs ys h = less (λ g. elim g [ inl l ↦ omega arith | inr e ↦ omega (arith, e.0) ])

head_more : (x y : ℕ) (xs ys : List ℕ) → y < x → Compares (x ∷ xs) (y ∷ ys) (Greater 1)
head_more x y xs ys h = greater (inl h) (λ g. elim g [ inl l ↦ omega arith | inr e ↦ omega (arith, e.0) ])

heads_same : (x y : ℕ) (xs ys : List ℕ) {o : Order} → x ≡ y → Compares xs ys o → Compares (x ∷ xs) (y ∷ ys) (further 1 o)
heads_same x y xs ys e (less n) = less (λ g. elim g [ inl l ↦ omega arith | inr h ↦ n h.1 ])
heads_same x y xs ys e (equal h) = equal (ap₂ ◌∷◌ e h)
heads_same x y xs ys e (greater g n) = greater (inr (e, g)) (λ f. elim f [ inl l ↦ omega arith | inr h ↦ n h.1 ])

-- the answer is the dictionary's
pub lex-says : (a b : List ℕ) → Compares a b (lex a b)
unfolding lex
lex-says [] [] = equal refl
lex-says [] (y ∷ ys) = less (λ h. h)
lex-says (x ∷ xs) [] = greater tt (λ h. h)
lex-says (x ∷ xs) (y ∷ ys) = step (dec_lt x y) (dec_lt y x) (lex-says xs ys)
  where
    step : Dec (x < y) → Dec (y < x) → Compares xs ys (lex xs ys) → Compares (x ∷ xs) (y ∷ ys) (pick (ltb x y) (Less 1) (pick (ltb y x) (Greater 1) (further 1 (lex xs ys))))
    step (yes l) d r = rw (lt-ltb x y l) (head-less x y xs ys l)
    step (no l) (yes g) r = rw (le-ltb x y (omega arith), lt-ltb y x g) (head_more x y xs ys g)
    step (no l) (no g) r = rw (le-ltb x y (omega arith), le-ltb y x (omega arith)) (heads_same x y xs ys (omega arith) r)

-- whether a stands at or after b, whether b stands at or after a, and whether they are equal, by the answer
abbrev pub falls? : Order → Bool
falls? (Less n) = false
falls? (Equal n) = true
falls? (Greater n) = true

abbrev pub rises? : Order → Bool
rises? (Less n) = true
rises? (Equal n) = true
rises? (Greater n) = false

abbrev pub same? : Order → Bool
same? (Less n) = false
same? (Equal n) = true
same? (Greater n) = false

module _ {a b : List ℕ} where
  equal-falls : a ≡ b → a ≽ b
  equal-falls e = subst (λ (x : List ℕ). a ≽ x) e (refl≽ a)

  equal-rises : a ≡ b → b ≽ a
  equal-rises e = subst (λ (x : List ℕ). x ≽ a) e (refl≽ a)

  fall_by : {o : Order} → Compares a b o → Tells (a ≽ b) (falls? o)
  fall_by (less n) = denies n
  fall_by (equal e) = holds (equal-falls e)
  fall_by (greater g n) = holds g

  rise_by : {o : Order} → Compares a b o → Tells (b ≽ a) (rises? o)
  rise_by (less n) = holds (below≽ a b n)
  rise_by (equal e) = holds (equal-rises e)
  rise_by (greater g n) = denies n

  same_by : {o : Order} → Compares a b o → Tells (a ≡ b) (same? o)
  same_by (less n) = denies (λ e. n (equal-falls e))
  same_by (equal e) = holds e
  same_by (greater g n) = denies (λ e. n (equal-rises e))

-- as a caller of the comparer learns it
module _ (a b : List ℕ) {o : Order} (e : lex a b ≡ o) where
  pub told-falls : Tells (a ≽ b) (falls? o)
  told-falls = fall_by (subst (Compares a b) e (lex-says a b))

  pub told-rises : Tells (b ≽ a) (rises? o)
  told-rises = rise_by (subst (Compares a b) e (lex-says a b))

  pub told_same : Tells (a ≡ b) (same? o)
  told_same = same_by (subst (Compares a b) e (lex-says a b))

  pub told-pairs : pairs_of o ≡ looked a b
  unfolding looked
  told-pairs = ap pairs_of (sym e)
