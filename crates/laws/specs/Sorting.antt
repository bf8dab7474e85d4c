-- Laws of the dictionary's order and of sorting by it, largest first: the order is linear, a rearranged list sorts to the same, and
-- the sorted list is the rearrangement that goes down. The definitions are in `Order`. Assumes nothing.
use Rattle.std.specs.Prelude.{◌≡◌, refl, ◌↔◌, ◌⊎◌, ℕ, zero, suc, ◌<◌, length, get_or}
use Rattle.std.proofs.Common.{ap, ap₂, sym, ◌∙◌, inl, inr, ⊎_elim, arith}
use Rattle.std.proofs.Math.Logic.{ite, if_pos, if_neg}
use mathlib.Core.List.Permᴰ
use mathlib.Core.List.{List, [], ◌∷◌, Permᴰ}
use Rattle.std.proofs.Math.Decide.{dec_lt}
use Rattle.laws.specs.document.Order.{◌≽◌, dec≽, insert, sort}
use Rattle.laws.specs.Falling.{Falling}

pub refl≽ : (xs : List ℕ) → xs ≽ xs
refl≽ [] = tt
refl≽ (x ∷ xs) = inr (refl, refl≽ xs)

pub total≽ : (xs ys : List ℕ) → (xs ≽ ys) ⊎ (ys ≽ xs)
total≽ xs [] = inl tt
total≽ [] (y ∷ ys) = inr tt
total≽ (x ∷ xs) (y ∷ ys) = step (dec_lt y x) (dec_lt x y) (total≽ xs ys)
  where
    step : Dec (y < x) → Dec (x < y) → (xs ≽ ys) ⊎ (ys ≽ xs) → ((x ∷ xs) ≽ (y ∷ ys)) ⊎ ((y ∷ ys) ≽ (x ∷ xs))
    step (yes l) d t = inl (inl l)
    step (no l) (yes g) t = inr (inl g)
    step (no l) (no g) (inl t) = inl (inr (omega arith, t))
    step (no l) (no g) (inr t) = inr (inr (omega arith, t))

pub trans≽ : (xs ys zs : List ℕ) → xs ≽ ys → ys ≽ zs → xs ≽ zs
trans≽ xs ys [] h k = tt
trans≽ xs [] (z ∷ zs) h k = absurd k
trans≽ [] (y ∷ ys) (z ∷ zs) h k = absurd h
trans≽ (x ∷ xs) (y ∷ ys) (z ∷ zs) h k = step h k (trans≽ xs ys zs)
  where
    step : (x ∷ xs) ≽ (y ∷ ys) → (y ∷ ys) ≽ (z ∷ zs) → (xs ≽ ys → ys ≽ zs → xs ≽ zs) → (x ∷ xs) ≽ (z ∷ zs)
    step (inl l) (inl g) t = inl (omega arith)
    step (inl l) (inr g) t = inl (omega arith)
    step (inr l) (inl g) t = inl (omega arith)
    step (inr l) (inr g) t = inr (omega arith, t l.1 g.1)

pub antisym≽ : (xs ys : List ℕ) → xs ≽ ys → ys ≽ xs → xs ≡ ys
antisym≽ [] [] h k = refl
antisym≽ (x ∷ xs) [] h k = absurd k
antisym≽ [] (y ∷ ys) h k = absurd h
antisym≽ (x ∷ xs) (y ∷ ys) h k = step h k (antisym≽ xs ys)
  where
    step : (x ∷ xs) ≽ (y ∷ ys) → (y ∷ ys) ≽ (x ∷ xs) → (xs ≽ ys → ys ≽ xs → xs ≡ ys) → ◌≡◌ {A = List ℕ} (x ∷ xs) (y ∷ ys)
    step (inl l) (inl g) t = let z : ⊥ = omega arith in absurd z
    step (inl l) (inr g) t = let z : ⊥ = omega arith in absurd z
    step (inr l) (inl g) t = let z : ⊥ = omega arith in absurd z
    step (inr l) (inr g) t = let e : xs ≡ ys = t l.1 g.1 in cc l.0

-- of two lists that one stands not at or after the other, the other does
pub below≽ : (xs ys : List ℕ) → (xs ≽ ys → ⊥) → ys ≽ xs
below≽ xs ys n = ⊎_elim (λ h. absurd (n h)) (λ h. h) (total≽ xs ys)

-- what `insert` does where its first test is passed, and where it is not
pub insert-at : (c d : List ℕ) (ds : List (List ℕ)) → c ≽ d → insert c (d ∷ ds) ≡ c ∷ d ∷ ds
unfolding insert
insert-at c d ds h = if_pos (dec≽ c d) h (c ∷ d ∷ ds) (d ∷ insert c ds)

pub insert_past : (c d : List ℕ) (ds : List (List ℕ)) → (c ≽ d → ⊥) → insert c (d ∷ ds) ≡ d ∷ insert c ds
unfolding insert
insert_past c d ds h = if_neg (dec≽ c d) h (c ∷ d ∷ ds) (d ∷ insert c ds)

insert_nil : (c : List ℕ) → insert c [] ≡ c ∷ []
unfolding insert
insert_nil c = refl

swap_below : (a b : List ℕ) (l : List (List ℕ)) → (b ≽ a → ⊥) → insert a (insert b l) ≡ insert b (insert a l)
swap_below a b [] n = cc (insert_nil a, insert_nil b, insert-at a b [] (below≽ b a n), insert_past b a [] n)
swap_below a b (d ∷ ds) n = step (dec≽ b d) (dec≽ a d) (swap_below a b ds n)
  where
    step : Dec (b ≽ d) → Dec (a ≽ d) → insert a (insert b ds) ≡ insert b (insert a ds) → insert a (insert b (d ∷ ds)) ≡ insert b (insert a (d ∷ ds))
    step (yes h) (yes k) e = cc (insert-at b d ds h, insert-at a d ds k, insert-at a b (d ∷ ds) (below≽ b a n), insert_past b a (d ∷ ds) n)
    step (yes h) (no k) e = absurd (k (trans≽ a b d (below≽ b a n) h))
    step (no h) (yes k) e = cc (insert_past b d ds h, insert-at a d ds k, insert-at a d (insert b ds) k, insert_past b a (d ∷ ds) n)
    step (no h) (no k) e = cc (insert_past b d ds h, insert_past a d ds k, insert_past a d (insert b ds) k, insert_past b d (insert a ds) h)

pub insert_swap : (a b : List ℕ) (l : List (List ℕ)) → insert a (insert b l) ≡ insert b (insert a l)
insert_swap a b l = step (dec≽ a b) (dec≽ b a)
  where
    step : Dec (a ≽ b) → Dec (b ≽ a) → insert a (insert b l) ≡ insert b (insert a l)
    step (yes h) (yes k) = cc (antisym≽ a b h k)
    step (yes h) (no k) = swap_below a b l k
    step (no h) k = sym (swap_below b a l h)

-- rearranged lists sort to the same
pub sort_perm : {l m : List (List ℕ)} → Permᴰ l m → sort l ≡ sort m
unfolding sort
sort_perm Permᴰ.nil = refl
sort_perm (Permᴰ.cons {a = a} {l₁ = l} e d) = ap₂ insert e (sort_perm d)
sort_perm (Permᴰ.swap {a = a} {b = b} {l = l} e f) = insert_swap a b (sort l) ∙ ap₂ (λ x y. insert x (insert y (sort l))) f e
sort_perm (Permᴰ.trans d e) = sort_perm d ∙ sort_perm e

pub insert_self : (c : List ℕ) (l : List (List ℕ)) → Permᴰ (c ∷ l) (insert c l)
unfolding insert
insert_self c [] = Permᴰ.refl (c ∷ [])
insert_self c (d ∷ ds) = step (dec≽ c d) (insert_self c ds)
  where
    step : (t : Dec (c ≽ d)) → Permᴰ (c ∷ ds) (insert c ds) → Permᴰ (c ∷ d ∷ ds) (ite t (c ∷ d ∷ ds) (d ∷ insert c ds))
    step (yes h) r = Permᴰ.refl (c ∷ d ∷ ds)
    step (no h) r = Permᴰ.trans (Permᴰ.swap refl refl) (Permᴰ.cons refl r)

-- a list is rearranged by sorting
pub sort_self : (l : List (List ℕ)) → Permᴰ l (sort l)
unfolding sort
sort_self [] = Permᴰ.nil
sort_self (c ∷ l) = Permᴰ.trans (Permᴰ.cons refl (sort_self l)) (insert_self c (sort l))

insert_falling : (c : List ℕ) (l : List (List ℕ)) → Falling l → Falling (insert c l)
unfolding insert
insert_falling c [] f = tt
insert_falling c (d ∷ []) f = step (dec≽ c d)
  where
    step : (t : Dec (c ≽ d)) → Falling (ite t (c ∷ d ∷ []) (d ∷ c ∷ []))
    step (yes h) = (h, tt)
    step (no h) = (below≽ c d h, tt)
insert_falling c (d ∷ e ∷ l) f = step (dec≽ c d) (dec≽ c e) (insert_falling c (e ∷ l) f.1)
  where
    step : (t : Dec (c ≽ d)) (s : Dec (c ≽ e)) → Falling (ite s (c ∷ e ∷ l) (e ∷ insert c l)) → Falling (ite t (c ∷ d ∷ e ∷ l) (d ∷ ite s (c ∷ e ∷ l) (e ∷ insert c l)))
    step (yes h) s g = (h, f)
    step (no h) (yes k) g = (below≽ c d h, g)
    step (no h) (no k) g = (f.0, g)

-- the sorted list goes down
pub sort_falling : (l : List (List ℕ)) → Falling (sort l)
unfolding sort
sort_falling [] = tt
sort_falling (c ∷ l) = insert_falling c (sort l) (sort_falling l)

-- a list that goes down stays as it is
pub sort_stays : (l : List (List ℕ)) → Falling l → sort l ≡ l
unfolding sort
sort_stays [] f = refl
sort_stays (c ∷ []) f = insert_nil c
sort_stays (c ∷ d ∷ l) f = ap (insert c) (sort_stays (d ∷ l) f.1) ∙ insert-at c d l f.0

-- a list goes down exactly when each stands at or after the next
pub falling_iff : (l : List (List ℕ)) → Falling l ↔ ((j : ℕ) → suc j < length l → get_or l j [] ≽ get_or l (suc j) [])
falling_iff [] = (λ f j h. tt, λ g. tt)
falling_iff (c ∷ []) = (λ f j h. let z : ⊥ = omega arith in absurd z, λ g. tt)
falling_iff (c ∷ d ∷ l) = (
  λ f j h. at f ((falling_iff (d ∷ l)).0 f.1) j h,
  λ g. (g 0 (omega arith), (falling_iff (d ∷ l)).1 (λ j h. g (suc j) (omega arith))),
)
  where
    at : Falling (c ∷ d ∷ l) → ((j : ℕ) → suc j < suc (length l) → get_or (d ∷ l) j [] ≽ get_or (d ∷ l) (suc j) []) → (j : ℕ) → suc j < suc (suc (length l)) → get_or (c ∷ d ∷ l) j [] ≽ get_or (d ∷ l) j []
    at f r zero h = f.0
    at f r (suc j) h = r j (omega arith)
