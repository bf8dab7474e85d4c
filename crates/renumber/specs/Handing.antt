-- The map that is handed out.
--
-- In order, by any codes and orders: it is one; how it comes of two orders side by side; that there is one, and that what a program wrote is one;
-- the lists that a program takes. Then for document 01's codes. Assumes nothing.
use Rattle.std.specs.Prelude.{◌≡◌, ℕ, suc, ◌-◌, ◌≤◌, ◌<◌, length, get_or, take}
use Rattle.std.proofs.Common.{sym, ap, ◌∙◌, arith, ext_get_or, get_or-take, length-take-le}
use mathlib.Core.List.{List, Memᴰ}
use Rattle.laws.specs.document.Once.{Once}
use Rattle.laws.specs.Places.{place, place_at, at_place, at_in}
use Rattle.refusal.specs.document.Table.{Writes}
use Rattle.skeleton.specs.document.Skeleton.{IsTree, Renumbering}
use Rattle.numbering.specs.document.Order.{order}
use Rattle.numbering.specs.Numbers.{Numbers}
use Rattle.numbering.proofs.Numbers.{order-numbers}
use Rattle.form.specs.document.Root.{RootOf}
use Rattle.form.specs.Root.{CentredRoot, one-root, root_inside}
use Rattle.renumber.specs.document.Map.{image, HandedBy, HandedOut}
use Rattle.renumber.specs.Parts.{Sent, Listed, Placed}
use Rattle.renumber.specs.Lists.{entries, entries_length, entries_at, laid-first}

-- ---- it is one

-- o has the vertices 1 to N, each once
pub record Covers (N : ℕ) (o : List ℕ) : Type 0 where
  pub all : length o ≡ N
  pub once : Once o
  pub within : (v : ℕ) → Memᴰ v o → (1 ≤ v) × (v ≤ N)
  pub has : (v : ℕ) → 1 ≤ v → v ≤ N → Memᴰ v o

-- entry v, by the place of v in the order
entry_of : {N : ℕ} {o : List ℕ} → Covers N o → (p w : List ℕ) → ((i : ℕ) → i < N → image w (get_or o i 0) ≡ get_or p i 0) → (v : ℕ) → 1 ≤ v → v ≤ N → image w v ≡ get_or p (place v o) 0
entry_of {N} {o} d p w s v a b = let (h, e) = place_at v o (d.has v a b) in ap (image w) (sym e) ∙ s (place v o) (omega (arith, d.all))

module _ {N P : ℕ} {E F : List ℕ} {at at₂ ord ord₂ : ℕ → List ℕ} {R : List ℕ → Type 0} where
  pub one-handed_by : ((r : ℕ) → RootOf N E at r → Covers N (ord r)) → ((w : List ℕ) → R w → length w ≡ N) → (w z : List ℕ)
      → HandedBy N E P F at at₂ ord ord₂ R w → HandedBy N E P F at at₂ ord ord₂ R z → w ≡ z
  one-handed_by covers long w z x y =
      let l : length w ≡ N = long w x.renumbers in
      let k : length z ≡ N = long z y.renumbers in
      let e : y.root ≡ x.root = one-root y.rule x.rule in
      let f : y.root₂ ≡ x.root₂ = one-root y.rule₂ x.rule₂ in
      let o : Covers N (ord x.root) = covers x.root x.rule in
      let sends : (i : ℕ) → i < N → image z (get_or (ord x.root) i 0) ≡ get_or (ord₂ x.root₂) i 0 = rw (e, f) at y.sends in
      ext_get_or 0 w z (omega arith) (λ i h.
      let g : suc i - 1 ≡ i = omega arith in
      let a = entry_of o (ord₂ x.root₂) w x.sends (suc i) (omega arith) (omega arith) in
      let b = entry_of o (ord₂ x.root₂) z sends (suc i) (omega arith) (omega arith) in
      ap (λ j. get_or w j 0) (sym g) ∙ a ∙ sym b ∙ ap (λ j. get_or z j 0) g)

-- ---- of two orders side by side

-- ρ goes from the one order to the other, and as a map is such as R says
module _ {N : ℕ} {E F : List ℕ} (at at₂ ord ord₂ : ℕ → List ℕ) (R : List ℕ → Type 0) {r q : ℕ} (d : Covers N (ord r)) (x : RootOf N E at r) (y : RootOf N F at₂ q) (e : at r ≡ at₂ q)
    (ρ : Renumbering N E F) (beside : (i : ℕ) → i < N → ρ.to (get_or (ord r) i 0) ≡ get_or (ord₂ q) i 0)
    (fine : (w : List ℕ) → length w ≡ N → ((v : ℕ) → 1 ≤ v → v ≤ N → image w v ≡ ρ.to v) → R w) where
  -- a map that sends each digit's vertex to that of the same digit
  pub handed_by : (w : List ℕ) → length w ≡ N → ((i : ℕ) → i < N → image w (get_or (ord r) i 0) ≡ get_or (ord₂ q) i 0) → HandedBy N E N F at at₂ ord ord₂ R w
  handed_by w l s =
      record {
        root = r;
        rule = x;
        root₂ = q;
        rule₂ = y;
        codes = e;
        sends = s;
        renumbers = fine w l (λ v a b.
            let (h, k) = place_at v (ord r) (d.has v a b) in
            entry_of d (ord₂ q) w s v a b ∙ sym (beside (place v (ord r)) (omega (arith, d.all))) ∙ ap ρ.to k);
      }

  -- there is one
  pub some_handed_by : (w : List ℕ) × HandedBy N E N F at at₂ ord ord₂ R w
  some_handed_by =
      let w : List ℕ = entries ρ.to N in (
        w,
        handed_by w (entries_length ρ.to N) (λ i h.
            let v : ℕ = get_or (ord r) i 0 in
            let (a, b) = d.within v (at_in (ord r) i 0 (omega (arith, d.all))) in
            let g : suc (v - 1) ≡ v = omega arith in
            entries_at ρ.to N (v - 1) (omega arith) ∙ ap ρ.to g ∙ beside i h),
      )

  -- what a program wrote, which had the order in o and the other's in p
  pub placed_handed_by :
      (o p old : List ℕ) {new : List ℕ} → take N o ≡ ord r → take N p ≡ ord₂ q → N ≤ length old → Placed N o p old new N
      → Writes (HandedBy N E N F at at₂ ord ord₂ R) old N new
  placed_handed_by o p old {new} a b h z =
      let l : length (take N new) ≡ N = length-take-le N new (omega (arith, z.long)) in
      record {
        result = take N new;
        right = handed_by (take N new) l (λ i k.
            let v : ℕ = get_or (ord r) i 0 in
            let (m, n) = d.within v (at_in (ord r) i 0 (omega (arith, d.all))) in
            let there : get_or o i 0 ≡ v = sym (get_or-take N o i 0 k) ∙ ap (λ s. get_or s i 0) a in
            get_or-take N new (v - 1) 0 (omega arith) ∙ ap (image new) (sym there) ∙ z.is i k ∙ sym (get_or-take N p i 0 k) ∙ ap (λ s. get_or s i 0) b);
        count = sym l;
        lies = laid-first N old new (omega (arith, z.long)) z.behind;
      }

-- the order of a skeleton's vertices is a list of them
pub listed_by : {N : ℕ} {c : List ℕ} → Covers N c → (o : List ℕ) → take N o ≡ c → Listed N o
listed_by {N} {c} d o a =
    let at : (i : ℕ) → i < N → get_or o i 0 ≡ get_or c i 0 = λ i h. sym (get_or-take N o i 0 h) ∙ ap (λ s. get_or s i 0) a in
    record {
      within = λ i h. rw (at i h) (d.within _ (at_in c i 0 (omega (arith, d.all))));
      apart = λ i j h k e.
          sym (at_place c i d.once (omega (arith, d.all)))
          ∙ ap (λ v. place v c) (sym (at i h) ∙ e ∙ at j k)
          ∙ at_place c j d.once (omega (arith, d.all));
    }

-- ---- document 01's codes

-- the order of the vertices from the root on
covers : {N r : ℕ} {E : List ℕ} → IsTree N E → CentredRoot N E r → Covers N (order N E r)
covers {N} {r} {E} t x =
    let (a, b) = root_inside t x in
    let o : Numbers N E r (order N E r) = order-numbers N E r t a b in
    record { all = o.all; once = o.once; within = o.within; has = o.has }

pub one-handed : {N P : ℕ} {E F : List ℕ} → IsTree N E → (w z : List ℕ) → HandedOut N E P F w → HandedOut N E P F z → w ≡ z
one-handed t w z x y = one-handed_by (λ r c. covers t c) (λ w r. r.1) w z x y

-- a map with an entry for each vertex has one for each end of an edge
pub sent : {N : ℕ} {E : List ℕ} → IsTree N E → (w : List ℕ) → length w ≡ N → Sent E w
sent t w l = record { within = λ v m. let (a, b) = t.inside v m in (a, omega arith) }
