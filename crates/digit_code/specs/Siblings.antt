-- Row 13 by places: the children of a mark compared one with the next. Places count from 0 here, marks from 1.
-- Assumes nothing.
use Rattle.std.specs.Prelude.{◌≡◌, ℕ, suc, ◌+◌, ◌-◌, ◌≤◌, ◌<◌, length, get_or, take, drop}
use Rattle.std.proofs.Common.{sym, ap, ◌∙◌, subst, subst₂, arith, length-append, take-take, get_or-take, length-take-le, take-add}
use mathlib.Core.List.{List, [], flatten}
use Rattle.std.proofs.Math.Decide.{dec_lt}
use Rattle.laws.specs.document.Order.{◌≽◌}
use Rattle.laws.specs.Part.{part}
use Rattle.digit_code.specs.document.Code.{codes, child_codes, LargerOf}
use Rattle.digit_code.specs.Digits.{digits}
use Rattle.digit_code.specs.Ends.{Ends}
use Rattle.digit_code.specs.Parts.{Ending, Passing, child_is, pass_one, enough, flatten_append}

pub child-codes : (arity : ℕ → ℕ) (c : List ℕ) (i : ℕ) → child_codes arity c (suc i) ≡ take (arity (get_or c i 0)) (codes arity (drop (suc i) c))
unfolding child_codes
child-codes arity c i = ap (λ (n : ℕ). take (arity (get_or c n 0)) (codes arity (drop (suc i) c))) (omega arith)

flatten_grows : (l : List (List ℕ)) (m n : ℕ) → m ≤ n → length (flatten (take m l)) ≤ length (flatten (take n l))
flatten_grows l m n h =
    let e : n ≡ m + (n - m) = omega arith in
    let f = ap (λ (i : ℕ). flatten (take i l)) e ∙ ap flatten (take-add m (n - m) l) ∙ flatten_append (take m l) (take (n - m) (drop m l)) in
    omega (arith, ap length f, length-append (flatten (take m l)) (flatten (take (n - m) (drop m l))))

-- none of the first m children of mark i is larger than the one before it
abbrev pub Fall : (ℕ → ℕ) → List ℕ → ℕ → ℕ → Type 0
Fall arity c i m = (j : ℕ) → suc j < m → get_or (codes arity (drop (suc i) c)) j [] ≽ get_or (codes arity (drop (suc i) c)) (suc j) []

module _ (arity : ℕ → ℕ) (c : List ℕ) (whole : Ends 1 (digits arity c)) (i : ℕ) (inside : i < length c) where
  -- the codes behind mark i
  abbrev D : List (List ℕ)
  D = codes arity (drop (suc i) c)

  abbrev k : ℕ
  k = arity (get_or c i 0)

  -- what a larger child is, by the codes behind the mark
  record Here (p : ℕ) : Type 0 where
    before : ℕ
    siblings : suc before < k
    larger : get_or D before [] ≽ get_or D (suc before) [] → ⊥
    begins : p ≡ suc i + 1 + length (flatten (take (suc before) D))

  count : length (child_codes arity c (suc i)) ≡ k
  count = ap length (child-codes arity c i) ∙ length-take-le k D (enough arity c whole i inside)

  here : {p : ℕ} → LargerOf arity c (suc i) p → Here p
  here {p} h =
      let e = child-codes arity c i in
      let s : suc h.before < k = omega (arith, h.siblings, count) in
      record {
        before = h.before;
        siblings = s;
        larger =
            let one = ap (λ (l : List (List ℕ)). get_or l h.before []) e ∙ get_or-take k D h.before [] (omega arith) in
            let two = ap (λ (l : List (List ℕ)). get_or l (suc h.before) []) e ∙ get_or-take k D (suc h.before) [] s in
            subst₂ (λ (x y : List ℕ). x ≽ y → ⊥) one two h.larger;
        begins = h.begins ∙ ap (λ (l : List (List ℕ)). suc i + 1 + length (flatten l)) (ap (take (suc h.before)) e ∙ take-take (suc h.before) k D (omega arith));
      }

  there : {p : ℕ} → Here p → LargerOf arity c (suc i) p
  there {p} h =
      let e = child-codes arity c i in
      record {
        before = h.before;
        siblings = omega (arith, h.siblings, count);
        larger =
            let one = ap (λ (l : List (List ℕ)). get_or l h.before []) e ∙ get_or-take k D h.before [] (omega (arith, h.siblings)) in
            let two = ap (λ (l : List (List ℕ)). get_or l (suc h.before) []) e ∙ get_or-take k D (suc h.before) [] h.siblings in
            subst₂ (λ (x y : List ℕ). x ≽ y → ⊥) (sym one) (sym two) h.larger;
        begins = h.begins ∙ sym (ap (λ (l : List (List ℕ)). suc i + 1 + length (flatten l)) (ap (take (suc h.before)) e ∙ take-take (suc h.before) k D (omega (arith, h.siblings))));
      }

  -- where all fall, none is larger
  pub none-larger : Fall arity c i k → (p : ℕ) → LargerOf arity c (suc i) p → ⊥
  none-larger f p h = let g = here h in g.larger (f g.before g.siblings)

  module _ {m a b e : ℕ} (f : Fall arity c i (suc m)) (l : suc m < k) (p : Passing arity c i m a) (q : Ending arity c a b) (r : Ending arity c b e) where
    next : Passing arity c i (suc m) b
    next = pass_one c i p q

    -- one more falls
    pub falls_on : part a b c ≽ part b e c → Fall arity c i (suc (suc m))
    falls_on g j h = last (dec_lt (suc j) (suc m))
      where
        last : Dec (suc j < suc m) → get_or D j [] ≽ get_or D (suc j) []
        last (yes s) = f j s
        last (no n) =
            let z : m ≡ j = omega arith in
            subst (λ (x : ℕ). get_or D x [] ≽ get_or D (suc x) []) z (subst₂ (λ (x y : List ℕ). x ≽ y) (sym (child_is c i p q)) (sym (child_is c i next r)) g)

    -- the first that does not fall, and its place
    pub larger_here : (part a b c ≽ part b e c → ⊥) → LargerOf arity c (suc i) (b + 1)
    larger_here n =
        there (record {
          before = m;
          siblings = l;
          larger = subst₂ (λ (x y : List ℕ). x ≽ y → ⊥) (sym (child_is c i p q)) (sym (child_is c i next r)) n;
          begins = omega (arith, next.begins);
        })

    pub no_earlier : (x : ℕ) → LargerOf arity c (suc i) x → b + 1 ≤ x
    no_earlier x h =
        let g = here h in
        let late : suc g.before < suc m → ⊥ = λ s. g.larger (f g.before s) in
        omega (arith, next.begins, g.begins, flatten_grows D (suc m) (suc g.before) (omega arith))
