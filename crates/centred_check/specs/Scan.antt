-- One pass over the marks from the last to the first: the trees behind a mark with their heights, and that nothing is wrong so far. At the
-- root it tells whether the marks are a right rooted code. Assumes nothing.
use Rattle.std.specs.Prelude.{◌≡◌, refl, true, false, Option, MatchOption, List, ◌∷◌, ℕ, zero, suc, ◌+◌, ◌-◌, ◌≤◌, ◌<◌, length, get_or, set, take, drop}
use Rattle.std.proofs.Common.{sym, ap, ◌∙◌, subst, arith, drop-cons}
use Rattle.std.proofs.Math.Decide.{ℕ_discrete}
use Rattle.std.proofs.Math.Seq.{drop-length}
use Rattle.laws.specs.Falling.{Falling}
use Rattle.limits.specs.document.Limits.{size}
use Rattle.digit_code.specs.document.Code.{codes, digit, cap}
use Rattle.digit_code.specs.Digits.{digits}
use Rattle.digit_code.specs.Ends.{Ends}
use Rattle.digit_code.specs.Ordered.{Ordered, by_places}
use Rattle.digit_code.specs.Parts.{enough}
use Rattle.digit_code.specs.Right.{Rightₗ}
use Rattle.skeleton.specs.document.Label.{Marks}
use Rattle.centred_check.specs.Skip.{root-codes}
use Rattle.centred_check.specs.Stack.{Stacked, Branches, stack_start, stack-room, stack-next}
use Rattle.centred_check.specs.Placed.{Placed, Joined, placed_start, placed_first, placed_next}
use Rattle.laws.specs.Tells.{Tells, holds, denies}

-- mark i and those behind it are read
pub record Scan (M : Marks) (limit : ℕ → ℕ) (c hs st : List ℕ) (i at : ℕ) : Type 0 where
  pub stacked : Stacked M.arity c hs i at
  pub laid : Placed M.arity c st i at
  pub ends : Ends (size - at) (digits M.arity (drop i c))
  pub ordered : Ordered M.arity (drop i c)
  pub small : (j : ℕ) → i ≤ j → j < length c → M.arity (get_or c j 0) + 1 ≤ limit (get_or c j 0)

-- where the heights of the root's branches stand; none where the marks are no right code
abbrev pub Scanned : Marks → (ℕ → ℕ) → List ℕ → List ℕ → Option ℕ → Type 0
Scanned M limit c hs o = MatchOption o (Rightₗ M.arity limit size c → ⊥) (λ r. Rightₗ M.arity limit size c × Branches M c hs r)

pub scan_start : (M : Marks) (limit : ℕ → ℕ) (c hs st : List ℕ) → 1 ≤ length c → length hs ≡ size → length st ≡ suc size → Scan M limit c hs (set st size (length c)) (length c) size
scan_start M limit c hs st h k l = record {
  stacked = stack_start h k;
  laid = placed_start M.arity c st l;
  ends = rw drop-length tt;
  ordered = rw drop-length tt;
  small = λ j a b. let z : ⊥ = omega arith in absurd z;
}

-- every mark's digit but the root's is at most one less than the root's may be
cap-low : {R : ℕ} → 1 ≤ R → (i : ℕ) → 1 < i → cap R i + 1 ≡ R
cap-low g zero h = let z : ⊥ = omega arith in absurd z
cap-low g (suc zero) h = let z : ⊥ = omega arith in absurd z
cap-low g (suc (suc i)) h = omega arith

-- the trees by their first mark, as the code hands them on
module _ {M : Marks} {limit : ℕ → ℕ} {c hs st : List ℕ} {i at : ℕ} (s : Scan M limit c hs st i at) where
  pub from_first : Placed M.arity c st (get_or st at 0) at
  from_first = subst (λ (a : ℕ). Placed M.arity c st a at) (sym (placed_first s.laid)) s.laid

  pub to_first : {end r : ℕ} → Joined M.arity c hs (get_or st at 0) at end r → Joined M.arity c hs i at end r
  to_first {end} {r} = subst (λ (a : ℕ). Joined M.arity c hs a at end r) (placed_first s.laid)

  pub to_none : (end : ℕ) → (Falling (take (end - at) (codes M.arity (drop (get_or st at 0) c))) → ⊥) → Falling (take (end - at) (codes M.arity (drop i c))) → ⊥
  to_none end = subst (λ (a : ℕ). Falling (take (end - at) (codes M.arity (drop a c))) → ⊥) (placed_first s.laid)

module _ {M : Marks} {limit : ℕ → ℕ} {c hs st : List ℕ} {i at : ℕ} (s : Scan M limit c hs st i at) (few : length c ≤ size) (l : 1 < i) where
  abbrev k : ℕ
  k = M.arity (get_or c (i - 1) 0)

  back : suc (i - 1) ≡ i
  back = omega arith

  inside : i ≤ length c
  inside = s.stacked.within

  pub scan-room : 1 ≤ at
  scan-room = stack-room s.stacked few l

  first : drop (i - 1) c ≡ get_or c (i - 1) 0 ∷ drop i c
  first = drop-cons c (i - 1) 0 (omega (arith, inside)) ∙ ap (λ (a : ℕ). get_or c (i - 1) 0 ∷ drop a c) back

  children : (end : ℕ) → end ≡ at + k → take (end - at) (codes M.arity (drop i c)) ≡ take k (codes M.arity (drop i c))
  children end e = let n : end - at ≡ k = omega arith in ap (λ (a : ℕ). take a (codes M.arity (drop i c))) n

  next_here : {h : ℕ} → M.arity (get_or c (i - 1) 0) < limit (get_or c (i - 1) 0) → at + M.arity (get_or c (i - 1) 0) ≤ size → Joined M.arity c hs i at (at + M.arity (get_or c (i - 1) 0)) h
      → Scan M limit c (set hs (at + M.arity (get_or c (i - 1) 0) - 1) h) (set st (at + M.arity (get_or c (i - 1) 0) - 1) (i - 1)) (i - 1) (at + M.arity (get_or c (i - 1) 0) - 1)
  next_here {h} low fit j =
      let n : size - (at + k - 1) ≡ suc (size - (at + k)) = omega (arith, scan-room) in
      let m : size - at ≡ k + (size - (at + k)) = omega arith in
      let o : Ends (k + (size - (at + k))) (digits M.arity (drop i c)) = subst (λ (a : ℕ). Ends a (digits M.arity (drop i c))) m s.ends in
      record {
        stacked = stack-next s.stacked few l fit j.tall;
        laid = placed_next s.laid (omega arith) inside scan-room fit;
        ends = rw (n, first) o;
        ordered = rw first (subst Falling (children (at + k) refl) j.fall, s.ordered);
        small = λ j a b. look j a b (ℕ_discrete (i - 1) j);
      }
    where
      look : (j : ℕ) → i - 1 ≤ j → j < length c → Dec (i - 1 ≡ j) → M.arity (get_or c j 0) + 1 ≤ limit (get_or c j 0)
      look j a b (yes e) = subst (λ (x : ℕ). M.arity (get_or c x 0) + 1 ≤ limit (get_or c x 0)) e (omega arith)
      look j a b (no n) = s.small j (omega arith) b

  -- one mark more, of n children
  pub scan-next : {h n : ℕ} → n ≡ M.arity (get_or c (i - 1) 0) → n < limit (get_or c (i - 1) 0) → at + n ≤ size → Joined M.arity c hs i at (at + n) h
      → Scan M limit c (set hs (at + n - 1) h) (set st (at + n - 1) (i - 1)) (i - 1) (at + n - 1)
  scan-next {h} {n} e =
      subst (λ (n : ℕ). n < limit (get_or c (i - 1) 0) → at + n ≤ size → Joined M.arity c hs i at (at + n) h → Scan M limit c (set hs (at + n - 1) h) (set st (at + n - 1) (i - 1)) (i - 1) (at + n - 1))
      (sym e) next_here

  -- or the marks are no right code
  pub not_small : 1 ≤ limit (get_or c (i - 1) 0) → limit (get_or c (i - 1) 0) ≤ M.arity (get_or c (i - 1) 0) → Rightₗ M.arity limit size c → ⊥
  not_small g h r = let z : ⊥ = omega (arith, r.small i (omega arith) inside, cap-low g i l) in z

  served : Rightₗ M.arity limit size c → k ≤ length (codes M.arity (drop i c))
  served r = subst (λ (a : ℕ). k ≤ length (codes M.arity (drop a c))) back (enough M.arity c r.ends (i - 1) (omega (arith, inside)))

  pub not_served : size < at + M.arity (get_or c (i - 1) 0) → Rightₗ M.arity limit size c → ⊥
  not_served h r = let z : ⊥ = omega (arith, served r, s.laid.count, s.laid.inside) in z

  pub not_falling : {n : ℕ} → n ≡ M.arity (get_or c (i - 1) 0) → (Falling (take (at + n - at) (codes M.arity (drop i c))) → ⊥) → Rightₗ M.arity limit size c → ⊥
  not_falling q l r =
      let j = subst (λ (n : ℕ). Falling (take (at + n - at) (codes M.arity (drop i c))) → ⊥) q l in
      let f : Falling (take k (codes M.arity (drop (suc (i - 1)) c))) = (by_places M.arity c).0 r.ordered (i - 1) (omega (arith, inside)) in
      j (subst Falling (sym (children (at + k) refl)) (subst (λ (a : ℕ). Falling (take k (codes M.arity (drop a c)))) back f))

-- the root
module _ {M : Marks} {limit : ℕ → ℕ} {c hs st : List ℕ} {at : ℕ} (s : Scan M limit c hs st 1 at) (few : length c ≤ size) where
  abbrev root : ℕ
  root = M.arity (get_or c 0 0)

  whole : c ≡ get_or c 0 0 ∷ drop 1 c
  whole = drop-cons c 0 0 s.stacked.within

  pub root_big : limit (get_or c 0 0) < M.arity (get_or c 0 0) → Tells (Rightₗ M.arity limit size c) false
  root_big h = denies (λ r. let z : ⊥ = omega (arith, r.small 1 (omega arith) s.stacked.within) in z)

  filled : Rightₗ M.arity limit size c → length (codes M.arity (drop 1 c)) ≡ root
  filled r = root-codes M.arity c r.ends

  pub root_open : (at + M.arity (get_or c 0 0) ≡ size → ⊥) → Tells (Rightₗ M.arity limit size c) false
  root_open n = denies (λ r. n (omega (arith, filled r, s.laid.count, s.laid.inside)))

  module _ (full : at + M.arity (get_or c 0 0) ≡ size) where
    children-root : take (size - at) (codes M.arity (drop 1 c)) ≡ take root (codes M.arity (drop 1 c))
    children-root = let n : size - at ≡ root = omega arith in ap (λ (a : ℕ). take a (codes M.arity (drop 1 c))) n

    pub root_rising : (Falling (take (size - at) (codes M.arity (drop 1 c))) → ⊥) → Tells (Rightₗ M.arity limit size c) false
    root_rising n = denies (λ r. n (subst Falling (sym children-root) ((by_places M.arity c).0 r.ordered 0 s.stacked.within)))

    pub root_right : {h : ℕ} → Joined M.arity c hs 1 at size h → M.arity (get_or c 0 0) ≤ limit (get_or c 0 0) → Tells (Rightₗ M.arity limit size c) true
    root_right j low =
        let n : size - at ≡ root + 0 = omega arith in
        let o : Ends 1 (digits M.arity (get_or c 0 0 ∷ drop 1 c)) = subst (λ (a : ℕ). Ends a (digits M.arity (drop 1 c))) n s.ends in
        let p : Ordered M.arity (get_or c 0 0 ∷ drop 1 c) = (subst Falling children-root j.fall, s.ordered) in
        holds (record {
          some = s.stacked.within;
          few = few;
          small = λ p a b. low_enough p a b;
          ends = subst (λ (d : List ℕ). Ends 1 (digits M.arity d)) (sym whole) o;
          ordered = subst (Ordered M.arity) (sym whole) p;
        })
      where
        low_enough : (p : ℕ) → 1 ≤ p → p ≤ length c → M.arity (digit c p) ≤ cap (limit (digit c p)) p
        low_enough zero a b = let z : ⊥ = omega arith in absurd z
        low_enough (suc zero) a b = low
        low_enough (suc (suc p)) a b = let n : suc p ≡ suc (suc p) - 1 = omega arith in subst (λ (x : ℕ). M.arity (get_or c x 0) ≤ limit (get_or c x 0) - 1) n (omega (arith, s.small (suc p) (omega arith) (omega arith)))
