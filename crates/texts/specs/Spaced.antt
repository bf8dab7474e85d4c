-- Lines of parts set apart by single spaces. In order: parts that are tied to each other; a line's spaces; then how two such lines can meet: `apart_parts`, `starts-parts`, `ends_parts`. Assumes nothing.
use Rattle.std.specs.Prelude.{◌≡◌, refl, List, [], ◌∷◌, ◌++◌, ℕ, suc, ◌+◌, ◌≤◌, ◌<◌, length}
use Rattle.std.proofs.Common.{sym, ap, ap₂, ◌∙◌, append_assoc, arith, length-append}
use Rattle.std.proofs.Math.Logic.{if_pos, if_neg}
use Rattle.std.proofs.Math.Decide.{ℕ_discrete}
use Rattle.digit_code.specs.document.Code.{sum}
use Rattle.laws.specs.document.Each.{Each}
use Rattle.texts.specs.document.Bytes.{Other, Free}
use Rattle.texts.specs.document.Parts.{spaced, tally}
use Rattle.texts.specs.Cuts.{Meet, same, further, meet, cut_once}
use Rattle.laws.specs.Each.{each_follows, each-join}
use Rattle.texts.specs.Edits.{Edit, edit_shows, Around, before, on, behind, around}

-- each byte is above the space
abbrev pub Marks : List ℕ → Type 0
Marks t = Each (λ b. 32 < b) t

-- so is each byte of each part
abbrev pub Marked : List (List ℕ) → Type 0
Marked [] = Unit {0}
Marked (f ∷ r) = Marks f × Marked r

-- of the same length and sum: no change of one byte leads from one to the other
abbrev pub Alike : List ℕ → List ℕ → Type 0
Alike f g = (length f ≡ length g) × (sum f ≡ sum g)

-- where all parts but one are the same, that one is alike
abbrev pub Tied : List ℕ → List (List ℕ) → List ℕ → List (List ℕ) → Type 0
Tied f [] g s = Alike f g
Tied f (h ∷ r) g [] = ⊥
Tied f (h ∷ r) g (k ∷ s) = (◌≡◌ {A = List (List ℕ)} (h ∷ r) (k ∷ s) → Alike f g) × (f ≡ g → Tied h r k s)

pub tally-join : (a : ℕ) (s t : List ℕ) → tally a (s ++ t) ≡ tally a s + tally a t
unfolding tally
tally-join a [] t = omega arith
tally-join a (b ∷ s) t = omega (arith, tally-join a s t)

tally_free : (a : ℕ) (t : List ℕ) → Free a t → tally a t ≡ 0
unfolding tally
tally_free a [] f = refl
tally_free a (b ∷ t) f = omega (arith, if_neg {C = ℕ} (ℕ_discrete b a) f.0 1 0, tally_free a t f.1)

-- behind one space more
one-space : (s t : List ℕ) → tally 32 (s ++ (32 ∷ t)) ≡ tally 32 s + suc (tally 32 t)
unfolding tally
one-space s t = omega (arith, tally-join 32 s (32 ∷ t), if_pos {C = ℕ} (ℕ_discrete 32 32) refl 1 0)

pub no_space : (t : List ℕ) → Marks t → Free 32 t
no_space t m = each_follows {P = λ b. 32 < b} (λ a l e. omega arith) t m

spaces : (f : List ℕ) (r : List (List ℕ)) → Marked (f ∷ r) → tally 32 (spaced f r) ≡ length r
unfolding spaced
spaces f [] m = tally_free 32 f (no_space f m.0)
spaces f (g ∷ r) m = omega (arith, one-space f (spaced g r), tally_free 32 f (no_space f m.0), spaces g r m.1)

none_long : (z : List ℕ) → length z ≡ 0 → z ≡ []
none_long [] e = refl
none_long (a ∷ z) e = absurd (omega arith)

-- a line has its parts in one way
pub same_parts :
    (f : List ℕ) (r : List (List ℕ)) (g : List ℕ) (s : List (List ℕ)) → Marked (f ∷ r) → Marked (g ∷ s) → length r ≡ length s
    → spaced f r ≡ spaced g s → ◌≡◌ {A = List (List ℕ)} (f ∷ r) (g ∷ s)
unfolding spaced
same_parts f [] g [] m n l e = ap {B = List (List ℕ)} (λ (x : List ℕ). x ∷ []) e
same_parts f [] g (k ∷ s) m n l e = absurd (omega arith)
same_parts f (h ∷ r) g [] m n l e = absurd (omega arith)
same_parts f (h ∷ r) g (k ∷ s) m n l e =
    let c =
    cut_once 32 (f ++ (32 ∷ spaced h r)) f (spaced h r) g (spaced k s) (record { parts = refl; free = no_space f m.0 })
    (record { parts = e; free = no_space g n.0 }) in
    ap₂ {C = List (List ℕ)} (λ (x : List ℕ) (y : List (List ℕ)). x ∷ y) c.0 (same_parts h r k s m.1 n.1 (omega arith) c.1)

-- as many parts do not stand behind one part more
no_further :
    (h : List ℕ) (r : List (List ℕ)) (k : List ℕ) (s : List (List ℕ)) (z : List ℕ) → Marked (h ∷ r) → Marked (k ∷ s) → length r ≡ length s
    → spaced k s ≡ z ++ (32 ∷ spaced h r) → ⊥
no_further h r k s z m n l e = omega (arith, ap (tally 32) e, one-space z (spaced h r), spaces h r m, spaces k s n)

-- no change of one byte leads from a line to a line
pub apart_parts :
    (f : List ℕ) (r : List (List ℕ)) (g : List ℕ) (s : List (List ℕ)) → Marked (f ∷ r) → Marked (g ∷ s) → length r ≡ length s → Tied f r g s
    → Edit (spaced f r) (spaced g s) → ⊥
unfolding spaced
apart_parts f [] g [] m n l t e = edit_shows e t.0 t.1
apart_parts f [] g (k ∷ s) m n l t e = omega arith
apart_parts f (h ∷ r) g [] m n l t e = t
apart_parts f (h ∷ r) g (k ∷ s) m n l t e = go (around f 32 (spaced h r) e) (λ x q. apart_parts h r k s m.1 n.1 (omega arith) x q)
  where
    met : (x : List ℕ) → Edit f x → Meet 32 x (spaced h r) g (spaced k s) → ⊥
    met x d (same p q) =
        let a = t.0 (same_parts h r k s m.1 n.1 (omega arith) q) in
        edit_shows (rw p at d) a.0 a.1
    met x d (further z p q) = no_further h r k s z m.1 n.1 (omega arith) q

    go : Around f 32 (spaced h r) (g ++ (32 ∷ spaced k s)) → (Tied h r k s → Edit (spaced h r) (spaced k s) → ⊥) → ⊥
    go (before x d q) again = met x d (meet 32 x (spaced h r) g (spaced k s) (no_space g n.0) (sym q))
    go (on x a q) again =
        omega (
          arith,
          ap (tally 32) q,
          one-space g (spaced k s),
          tally-join 32 f (x ++ spaced h r),
          tally-join 32 x (spaced h r),
          tally_free 32 f (no_space f m.0),
          tally_free 32 x a,
          spaces h r m.1,
          spaces k s n.1,
        )
    go (behind y d q) again =
        let c =
        cut_once 32 (g ++ (32 ∷ spaced k s)) f y g (spaced k s) (record { parts = q; free = no_space f m.0 })
        (record { parts = refl; free = no_space g n.0 }) in
        again (t.1 c.0) (rw c.1 at d)

-- a line that begins with a line is that line
pub starts-parts :
    (f : List ℕ) (r : List (List ℕ)) (g : List ℕ) (s : List (List ℕ)) (z : List ℕ) → Marked (f ∷ r) → Marked (g ∷ s) → length r ≡ length s
    → Tied f r g s → spaced f r ++ z ≡ spaced g s → z ≡ []
unfolding spaced
starts-parts f [] g [] z m n l t e = none_long z (omega (arith, t.0, ap length e, length-append f z))
starts-parts f [] g (k ∷ s) z m n l t e = absurd (omega arith)
starts-parts f (h ∷ r) g [] z m n l t e = absurd t
starts-parts f (h ∷ r) g (k ∷ s) z m n l t e =
    let c =
    cut_once 32 (g ++ (32 ∷ spaced k s)) f (spaced h r ++ z) g (spaced k s)
    (record { parts = sym e ∙ append_assoc f (32 ∷ spaced h r) z; free = no_space f m.0 })
    (record { parts = refl; free = no_space g n.0 }) in
    starts-parts h r k s z m.1 n.1 (omega arith) (t.1 c.0) c.1

-- and so is one that ends with it
pub ends_parts :
    (f : List ℕ) (r : List (List ℕ)) (g : List ℕ) (s : List (List ℕ)) (x : List ℕ) → Marked (f ∷ r) → Marked (g ∷ s) → length r ≡ length s
    → Tied f r g s → x ++ spaced f r ≡ spaced g s → x ≡ []
unfolding spaced
ends_parts f [] g [] x m n l t e = none_long x (omega (arith, t.0, ap length e, length-append x f))
ends_parts f [] g (k ∷ s) x m n l t e = absurd (omega arith)
ends_parts f (h ∷ r) g [] x m n l t e = absurd t
ends_parts f (h ∷ r) g (k ∷ s) x m n l t e =
    go (meet 32 (x ++ f) (spaced h r) g (spaced k s) (no_space g n.0) (append_assoc x f (32 ∷ spaced h r) ∙ e))
  where
    go : Meet 32 (x ++ f) (spaced h r) g (spaced k s) → x ≡ []
    go (same p q) =
        let a = t.0 (same_parts h r k s m.1 n.1 (omega arith) q) in
        none_long x (omega (arith, a.0, ap length p, length-append x f))
    go (further z p q) = absurd (no_further h r k s z m.1 n.1 (omega arith) q)

-- a line holds no line feed
pub no_feed : (f : List ℕ) (r : List (List ℕ)) → Marked (f ∷ r) → Free 10 (spaced f r)
unfolding spaced
no_feed f [] m = each_follows {P = λ b. 32 < b} (λ a l e. omega arith) f m.0
no_feed f (g ∷ r) m =
    each-join (Other 10) f (32 ∷ spaced g r) (each_follows {P = λ b. 32 < b} (λ a l e. omega arith) f m.0) ((λ e. omega arith), no_feed g r m.1)

pub some_part : (f : List ℕ) (r : List (List ℕ)) → 1 ≤ length f → 1 ≤ length (spaced f r)
unfolding spaced
some_part f [] l = l
some_part f (g ∷ r) l = simp length-append (omega arith)
