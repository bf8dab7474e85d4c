-- What the answers to two lists mean, by any tables and any codes: where equal codes are what makes two accepted lists the same (S), the verdict says so, a map is handed out just then, and one that is judged
-- is accepted just where it is right (R). Plain lists and lists with named atoms are cases of it. Assumes nothing.
use Rattle.std.specs.Prelude.{◌≡◌, refl, ◌↔◌, true, false, List, [], ◌∷◌, ℕ, ◌≤◌, length, take}
use Rattle.std.proofs.Common.{sym, ◌∙◌, subst, inl, inr, arith}
use Rattle.refusal.specs.document.Table.{Row, Clear, Answered, gives, kept, short}
use Rattle.refusal.specs.document.Lists.{lists_rows, maps_rows, HandsMap, HandsOut}
use Rattle.refusal.specs.Giving.{written}
use Rattle.refusal.proofs.Laws.{one_result}
use Rattle.refusal.specs.Lists.{lists_clear, maps_clear}
use Rattle.zurkhovel.specs.document.Same.{OneCode}
use Rattle.zurkhovel.specs.document.Maps.{MapOutcome}

-- each of two accepted lists has a code, and these are equal just where the lists are the same
pub record Means (Z A B : List Row) (C D : List ℕ → Type 0) (S : Type 0) : Type 0 where
  pub some : Clear Z → Clear A → (c : List ℕ) × C c
  pub other : Clear Z → Clear B → (d : List ℕ) × D d
  pub same : Clear Z → Clear A → Clear B → (c d : List ℕ) → C c → D d → (c ≡ d) ↔ S

-- ---- a map that is judged

module _ {Z A B M : List Row} {R : Type 0} (exact : Clear Z → Clear A → Clear B → Clear M ↔ R) where
  pub map_means : Answered (maps_rows Z A B M) (λ (n : ℕ). n ≡ 0) (gives 0) ↔ (Clear Z × Clear A × Clear B × R)
  map_means = (forth, back)
    where
      forth : Answered (maps_rows Z A B M) (λ (n : ℕ). n ≡ 0) (gives 0) → Clear Z × Clear A × Clear B × R
      forth (kept c e) = let (z, k, l, m) = (maps_clear Z A B M).0 c in (z, k, l, (exact z k l).0 m)

      back : Clear Z × Clear A × Clear B × R → Answered (maps_rows Z A B M) (λ (n : ℕ). n ≡ 0) (gives 0)
      back (z, k, l, r) = kept {a = 0} ((maps_clear Z A B M).1 (z, k, l, (exact z k l).1 r)) refl

  -- nothing else is answered to a right one
  pub right_accepted : Clear Z → Clear A → Clear B → R → (o : MapOutcome) → Answered (maps_rows Z A B M) (λ (n : ℕ). n ≡ 0) o → o ≡ gives 0
  right_accepted z k l r o g = (one_result (λ a b e f. (e ∙ sym f, refl)) g (map_means.1 (z, k, l, r))).0

-- ---- where codes tell

module _ {Z A B : List Row} {C D : List ℕ → Type 0} {S : Type 0} (means : Means Z A B C D S) where
  -- ---- the codes

  module _ (z : Clear Z) (k : Clear A) (l : Clear B) where
    pub equal_means : OneCode C D true ↔ S
    equal_means = (
      (λ (c, x, y). (means.same z k l c c x y).0 refl),
      (λ s.
          let (c, x) = means.some z k in
          let (d, y) = means.other z l in
          (c, x, subst D (sym ((means.same z k l c d x y).1 s)) y)),
    )

    pub other_means : OneCode C D false ↔ (S → ⊥)
    other_means = ((λ n s. let (c, x, y) = equal_means.1 s in n c x y), (λ n c x y. n ((means.same z k l c c x y).0 refl)))

  -- ---- the verdict

  pub same_means : Answered (lists_rows Z A B) (OneCode C D) (gives true) ↔ (Clear Z × Clear A × Clear B × S)
  same_means = (forth, back)
    where
      forth : Answered (lists_rows Z A B) (OneCode C D) (gives true) → Clear Z × Clear A × Clear B × S
      forth (kept c x) = let (z, k, l) = (lists_clear Z A B).0 c in (z, k, l, (equal_means z k l).0 x)

      back : Clear Z × Clear A × Clear B × S → Answered (lists_rows Z A B) (OneCode C D) (gives true)
      back (z, k, l, s) = kept {a = true} ((lists_clear Z A B).1 (z, k, l)) ((equal_means z k l).1 s)

  pub not_same_means : Answered (lists_rows Z A B) (OneCode C D) (gives false) ↔ (Clear Z × Clear A × Clear B × (S → ⊥))
  not_same_means = (forth, back)
    where
      forth : Answered (lists_rows Z A B) (OneCode C D) (gives false) → Clear Z × Clear A × Clear B × (S → ⊥)
      forth (kept c x) = let (z, k, l) = (lists_clear Z A B).0 c in (z, k, l, (other_means z k l).0 x)

      back : Clear Z × Clear A × Clear B × (S → ⊥) → Answered (lists_rows Z A B) (OneCode C D) (gives false)
      back (z, k, l, n) = kept {a = false} ((lists_clear Z A B).1 (z, k, l)) ((other_means z k l).1 n)

  -- ---- a map that is handed out

  module _ {Handed R : List ℕ → Type 0} (right : (w : List ℕ) → Handed w → R w) (shows : (w : List ℕ) → R w → S) (old new : List ℕ) where
    abbrev Hands : ℕ → Type 0
    Hands n = HandsOut Z A B Handed (OneCode C D false) old new (gives n)

    lists : Clear (maps_rows Z A B (short Handed (length old) ∷ [])) → Clear Z × Clear A × Clear B
    lists c = let (z, k, l, m) = (maps_clear Z A B (short Handed (length old) ∷ [])).0 c in (z, k, l)

    -- nothing is written just where the lists are not the same
    pub none_means : ((w : List ℕ) → Clear A → Handed w → 1 ≤ length w) → (n : ℕ) → Hands n → (n ≡ 0) ↔ (S → ⊥)
    none_means long n (kept c h) = by_cases h
      where
        by_cases : HandsMap Handed (OneCode C D false) old n new → (n ≡ 0) ↔ (S → ⊥)
        by_cases (inl w) =
            let (z, k, l) = lists c in (
              (λ e. absurd (let y : ⊥ = omega (arith, w.count, long w.result k w.right) in y)),
              (λ q. absurd (q (shows w.result (right w.result w.right)))),
            )
        by_cases (inr (e, f, x)) = let (z, k, l) = lists c in ((λ y. (other_means z k l).0 x), (λ y. e))

    -- what is written is right just where they are
    pub some_means : (n : ℕ) → Hands n → S ↔ R (take n new)
    some_means n (kept c h) = (there h, shows (take n new))
      where
        there : HandsMap Handed (OneCode C D false) old n new → S → R (take n new)
        there (inl w) s = rw (written w) (right w.result w.right)
        there (inr (e, f, x)) s = let (z, k, l) = lists c in absurd ((other_means z k l).0 x s)

    -- and a map that is handed out is accepted, M being what is refused of one
    pub handed_means :
        (M : List ℕ → List Row) → ((w : List ℕ) → Clear Z → Clear A → Clear B → Clear (M w) ↔ R w) → (n : ℕ) → 1 ≤ n → Hands n → (o : MapOutcome)
        → Answered (maps_rows Z A B (M (take n new))) (λ (n : ℕ). n ≡ 0) o → o ≡ gives 0
    handed_means M exact n h (kept c (inl w)) o g = let (z, k, l) = lists c in right_accepted (exact (take n new)) z k l (rw (written w) (right w.result w.right)) o g
    handed_means M exact n h (kept c (inr (e, f, x))) o g = absurd (let z : ⊥ = omega arith in z)
