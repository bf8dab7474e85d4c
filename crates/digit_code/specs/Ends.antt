-- Where a code ends, by open places: the form that recursion on the digits wants, and that it is document 01's. Then the laws of
-- digits that end: their sum, and that none is a proper prefix of another. Assumes nothing.
use Rattle.std.specs.Prelude.{◌≡◌, refl, ◌↔◌, List, [], ◌∷◌, ◌++◌, ℕ, zero, suc, ◌+◌, ◌≤◌, ◌<◌, length, take}
use Rattle.std.proofs.Common.{sym, subst, map-id, arith}
use Rattle.std.proofs.Math.Seq.{take-length}
use Rattle.digit_code.specs.document.Code.{plain, sum, EndsAt}
use Rattle.digit_code.specs.Digits.{digits}

-- w places are open: digit k fills one and opens k more, and the last digit fills the last
abbrev pub Ends : ℕ → List ℕ → Type 0
Ends zero [] = Unit {0}
Ends zero (k ∷ ds) = ⊥
Ends (suc w) [] = ⊥
Ends (suc w) (k ∷ ds) = Ends (k + w) ds

-- a plain code's digits are its own
pub digits-plain : (c : List ℕ) → digits plain c ≡ c
digits-plain c = map-id c

pub plain_ends : (w : ℕ) (c : List ℕ) → Ends w c → Ends w (digits plain c)
plain_ends w c h = subst (Ends w) (sym (digits-plain c)) h

pub ends_sum : (w : ℕ) (ds : List ℕ) → Ends w ds → sum ds + w ≡ length ds
unfolding sum
ends_sum zero [] h = refl
ends_sum (suc w) (k ∷ ds) h = omega (arith, ends_sum (k + w) ds h)
-- what ends is not begun by a shorter one that ends
ends_sum zero (k ∷ ds) h = elim h [ ]
ends_sum (suc w) [] h = elim h [ ]

pub prefix_free : (w : ℕ) (c r : List ℕ) → Ends w c → Ends w (c ++ r) → r ≡ []
prefix_free zero [] [] h g = refl
prefix_free (suc w) (k ∷ c) r h g = prefix_free (k + w) c r h g
-- before its last digit a place is open
prefix_free zero [] (_ ∷ _) h g = elim g [ ]
prefix_free zero (k ∷ c) r h g = elim h [ ]
prefix_free (suc w) [] r h g = elim h [ ]

pub ends_open : (w : ℕ) (c : List ℕ) → Ends w c → (i : ℕ) → i < length c → i < sum (take i c) + w
unfolding sum
ends_open zero [] h i l = omega arith
ends_open (suc w) (k ∷ ds) h zero l = omega arith
ends_open (suc w) (k ∷ ds) h (suc i) l = omega (arith, ends_open (k + w) ds h i (omega arith))
ends_open zero (k ∷ ds) h i l = elim h [ ]
ends_open (suc w) [] h i l = elim h [ ]

ends_from : (w : ℕ) (c : List ℕ) → sum c + w ≤ length c → ((i : ℕ) → i < length c → i < sum (take i c) + w) → Ends w c
unfolding sum
ends_from zero [] t o = tt
ends_from zero (k ∷ ds) t o = let z : ⊥ = omega (arith, o 0 (omega arith)) in z
ends_from (suc w) [] t o = let z : ⊥ = omega arith in z
ends_from (suc w) (k ∷ ds) t o =
    ends_from (k + w) ds (omega arith) (λ i l. let n : suc i < (k + sum (take i ds)) + suc w = o (suc i) (omega arith) in omega arith)

-- the digits end in document 01's words exactly when one open place is filled by the last of them
pub ends_iff : (c : List ℕ) → Ends 1 c ↔ EndsAt c (length c)
ends_iff c = (
  λ h. record {
    within = omega arith;
    less = rw take-length (omega (arith, ends_sum 1 c h));
    not_before = λ i l. omega (arith, ends_open 1 c h i l);
  },
  λ e. let s : sum c < length c = rw take-length at e.less in ends_from 1 c (omega arith) (λ i l. omega (arith, e.not_before i l)),
)
