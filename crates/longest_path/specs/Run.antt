-- Peeling on a list of vertices comes to its end; so every tree has a longest path, and all its longest paths have the same middles.
--
-- In order: searching and sifting a list; the rounds; the theorems that follow. Assumes nothing.
use Rattle.std.specs.Prelude.{◌≡◌, refl, ◌⊎◌, ℕ, zero, suc, ◌+◌, ◌*◌, ◌≤◌}
use Rattle.std.proofs.Common.{sym, inl, inr, ⊎_elim, arith}
use Rattle.std.proofs.Math.Logic.{Dec.and as dec_and, Dec.not as dec_not}
use mathlib.Core.List.Memᴰ
use mathlib.Core.List.{List, [], ◌∷◌, Memᴰ}
use Rattle.std.proofs.Math.Decide.{ℕ_discrete}
use Rattle.laws.specs.Perms.{dec_in}
use Rattle.laws.specs.Once.{up_to, in_up_to, up_to_in}
use Rattle.skeleton.specs.document.Skeleton.{Arc, arcs, IsTree}
use Rattle.longest_path.specs.document.Path.{IsLongest, IsCentre}
use Rattle.longest_path.specs.Middles.{Middles, SameMiddles}
use Rattle.longest_path.specs.Peel.{Two, Peels, Left, start, round, rounds, inmost}
use Rattle.longest_path.specs.Centre.{done, all_alike}

module _ {X : Type 0} {P : X → Type 0} (d : (x : X) → Dec (P x)) where
  -- one of a list with P, if there is one
  unfoldable pub seek : (l : List X) → Dec ((x : X) × Memᴰ x l × P x)
  seek [] = no (λ s. Memᴰ.not-nil s.1)
  seek (x ∷ l) = step (d x) (seek l)
    where
      step : Dec (P x) → Dec ((y : X) × Memᴰ y l × P y) → Dec ((y : X) × Memᴰ y (x ∷ l) × P y)
      step (yes h) r = yes (x, Memᴰ.head refl, h)
      step (no n) (yes s) = yes (s.0, Memᴰ.tail s.1, s.2)
      step (no n) (no m) = no (λ s. ⊎_elim (λ e. n (rw (← e) s.2)) (λ i. m (s.0, i, s.2)) (Memᴰ.cases_cons s.1))

  -- those of a list with P
  pub record Sifted (l : List X) : Type 0 where
    pub kept : List X
    pub old : (x : X) → Memᴰ x kept → Memᴰ x l
    pub has : (x : X) → Memᴰ x kept → P x
    pub all : (x : X) → Memᴰ x l → P x → Memᴰ x kept

  unfoldable pub sift : (l : List X) → Sifted l
  sift [] = record { kept = []; old = λ x m. m; has = λ x m. absurd (Memᴰ.not-nil m); all = λ x m h. m }
  sift (y ∷ l) = step (d y) (sift l)
    where
      step : Dec (P y) → Sifted l → Sifted (y ∷ l)
      step (yes h) s = record {
        kept = y ∷ s.kept;
        old = λ x m. ⊎_elim Memᴰ.head (λ i. Memᴰ.tail (s.old x i)) (Memᴰ.cases_cons m);
        has = λ x m. ⊎_elim (λ e. rw e h) (s.has x) (Memᴰ.cases_cons m);
        all = λ x m g. ⊎_elim Memᴰ.head (λ i. Memᴰ.tail (s.all x i g)) (Memᴰ.cases_cons m);
      }
      step (no n) s = record {
        kept = s.kept;
        old = λ x m. Memᴰ.tail (s.old x m);
        has = s.has;
        all = λ x m g. ⊎_elim (λ e. absurd (n (rw (← e) g))) (λ i. s.all x i g) (Memᴰ.cases_cons m);
      }

-- the vertices of a list, as a predicate
abbrev pub In : List ℕ → ℕ → Type 0
In l v = Memᴰ v l

-- an arc from v to one of l
abbrev Leads : List ℕ → ℕ → Arc → Type 0
Leads l v e = (e.0 ≡ v) × In l e.1

unfoldable pub dec_two : (E l : List ℕ) (v : ℕ) → Dec (Two E (In l) v)
dec_two E l v = step (seek (λ e. dec_and (leads e) (seek (λ f. dec_and (leads f) (dec_not (ℕ_discrete e.1 f.1))) (arcs E))) (arcs E))
  where
    leads : (e : Arc) → Dec (Leads l v e)
    leads e = dec_and (ℕ_discrete e.0 v) (dec_in e.1 l)

    Other : Arc → Type 0
    Other e = (f : Arc) × Memᴰ f (arcs E) × (Leads l v f × (e.1 ≡ f.1 → ⊥))

    step : Dec ((e : Arc) × Memᴰ e (arcs E) × (Leads l v e × Other e)) → Dec (Two E (In l) v)
    step (yes s) =
        let (e, m, x) = s in
        let (f, n, y) = x.1 in
        yes (record {
          one = e.1;
          other = f.1;
          differ = y.1;
          one_in = x.0.1;
          other_in = y.0.1;
          to_one = Memᴰ.cast (λ i. (sym x.0.0 i, e.1)) m;
          to_other = Memᴰ.cast (λ i. (sym y.0.0 i, f.1)) n;
        })
    step (no n) = no (λ d. n ((v, d.one), d.to_one, ((refl, d.one_in), ((v, d.other), d.to_other, ((refl, d.other_in), d.differ)))))

-- the vertices that a round leaves of l
unfoldable pub peel : List ℕ → List ℕ → List ℕ
peel E l = (sift (dec_two E l) l).kept

pub peel_is : (E l : List ℕ) → Peels E (In l) (In (peel E l))
unfolding peel
peel_is E l = let s : Sifted (dec_two E l) l = sift (dec_two E l) l in record { old = s.old; two = s.has; all = s.all }

data Size (l : List ℕ) : Type 0 where
  few : (u v : ℕ) → In l u → In l v → ((w : ℕ) → In l w → (w ≡ u) ⊎ (w ≡ v)) → Size l
  many : (u v w : ℕ) → In l u → In l v → In l w → (u ≡ v → ⊥) → (u ≡ w → ⊥) → (v ≡ w → ⊥) → Size l

size : (l : List ℕ) (u : ℕ) → In l u → Size l
size l u i = step (seek (λ w. dec_not (ℕ_discrete u w)) l)
  where
    -- w is no other vertex than u and v
    which : (v w : ℕ) → ((u ≡ w → ⊥) → (v ≡ w → ⊥) → ⊥) → Dec (u ≡ w) → Dec (v ≡ w) → (w ≡ u) ⊎ (w ≡ v)
    which v w n (yes e) d = inl (sym e)
    which v w n (no e) (yes f) = inr (sym f)
    which v w n (no e) (no f) = absurd (n e f)

    third : (v : ℕ) → In l v → (u ≡ v → ⊥) → Dec ((w : ℕ) × In l w × ((u ≡ w → ⊥) × (v ≡ w → ⊥))) → Size l
    third v j d (yes s) = let (w, m, e) = s in many u v w i j m d e.0 e.1
    third v j d (no n) = few u v i j (λ w m. which v w (λ e f. n (w, m, (e, f))) (ℕ_discrete u w) (ℕ_discrete v w))

    step : Dec ((w : ℕ) × In l w × (u ≡ w → ⊥)) → Size l
    step (yes s) = let (v, j, d) = s in third v j d (seek (λ w. dec_and (dec_not (ℕ_discrete u w)) (dec_not (ℕ_discrete v w))) l)
    step (no n) = few u u i i (λ w m. which u w (λ e f. n (w, m, e)) (ℕ_discrete u w) (ℕ_discrete u w))

-- the centre, known of every longest path
record Found (N : ℕ) (E : List ℕ) : Type 0 where
  first : ℕ
  second : ℕ
  centre : IsCentre N E first second
  every : (q : List ℕ) → IsLongest N E q → Middles q first second

module _ (N : ℕ) (E : List ℕ) (t : IsTree N E) where
  run : (n k : ℕ) (l : List ℕ) → Left N E (In l) k → (v : ℕ) → In l v → N ≤ n + 2 * k → Found N E
  run zero k l f v i h = let z : ⊥ = omega (arith, rounds N E t (In l) k f v i) in absurd z
  run (suc n) k l f v i h = step (size l v i) (run n (k + 1))
    where
      step : Size l → ((m : List ℕ) → Left N E (In m) (k + 1) → (w : ℕ) → In m w → N ≤ n + 2 * (k + 1) → Found N E) → Found N E
      step (few u w a b o) r = record {
        first = u;
        second = w;
        centre = done N E t (In l) k f u w a b o;
        every = all_alike N E t (In l) k f u w a b o;
      }
      step (many u w x a b c d e g) r =
          let (y, j, two) = inmost N E t (In l) k f u w x a b c d e g in
          r (peel E l) (round N E t (In l) (In (peel E l)) k f (peel_is E l)) y ((peel_is E l).all y j two) (omega arith)

  found : Found N E
  found = run N 0 (up_to N) (start N E (In (up_to N)) (in_up_to N) (up_to_in N)) 1 (up_to_in N 1 (omega arith) (omega (arith, t.edges))) (omega arith)

  -- every tree has a longest path
  pub some_longest : (p : List ℕ) × IsLongest N E p
  some_longest = (found.centre.path, found.centre.longest)

  -- all longest paths have the same middles
  pub middles-same : (p q : List ℕ) → IsLongest N E p → IsLongest N E q → SameMiddles p q
  middles-same p q h i = step (found.every p h) (found.every q i)
    where
      step : Middles p found.first found.second → Middles q found.first found.second → SameMiddles p q
      step (inl a) (inl b) = inl (cc, cc)
      step (inl a) (inr b) = inr (cc, cc)
      step (inr a) (inl b) = inr (cc, cc)
      step (inr a) (inr b) = inl (cc, cc)

  every_longest : (u v : ℕ) → IsCentre N E u v → (q : List ℕ) → IsLongest N E q → Middles q u v
  every_longest u v c q h = rw (c.first, c.second) at (middles-same c.path q c.longest h)

  -- the centre is one vertex, or two, and no others
  pub centre-same : (u v x y : ℕ) → IsCentre N E u v → IsCentre N E x y → ((x ≡ u) × (y ≡ v)) ⊎ ((x ≡ v) × (y ≡ u))
  centre-same u v x y c d = rw (d.first, d.second) at (every_longest u v c d.path d.longest)
