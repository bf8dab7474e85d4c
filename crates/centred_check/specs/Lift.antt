-- A forest with its first tallest tree put in front: what its heights, its marks and its arcs are. Assumes nothing.
use Rattle.std.specs.Prelude.{◌≡◌, refl, length, take, drop}
use Rattle.std.proofs.Math.Path.{ap, ap₂, sym}
use Rattle.std.proofs.Common.{◌∙◌, arith, take_at, drop_at}
use Rattle.std.proofs.Math.Logic.{ite, if_pos, if_neg}
use mathlib.Core.List.Permᴰ
use mathlib.Core.List.{List, [], ◌∷◌, ◌++◌, flatten, append_assoc, append-nil, Permᴰ}
use Prim.Native.Nat.{ℕ, suc, max, ◌≤◌, ◌<◌}
use Rattle.std.proofs.Math.Decide.{dec_lt}
use Rattle.laws.specs.Falling.{Falling}
use Rattle.laws.specs.Sorting.{trans≽}
use Rattle.laws.specs.Perms.{front}
use Rattle.skeleton.specs.Forest.{Forest, none, tree, vertices, hung}
use Rattle.skeleton.specs.document.Label.{Marks}
use Rattle.skeleton.specs.Decoding.{width, shape, marks}
use Rattle.skeleton.specs.Ordered.{strings, strings-marks, Down}
use Rattle.longest_path.specs.Heights.{tall}
use Rattle.centred_check.specs.Middle.{top, peak, second, heights}

-- the heights of a forest's trees
unfoldable pub talls : Forest → List ℕ
talls none = []
talls (tree v d f) = suc (tall d) ∷ talls f

pub top-talls : (f : Forest) → top (talls f) ≡ tall f
unfolding top talls tall
top-talls none = refl
top-talls (tree v d f) = ap (max (suc (tall d))) (top-talls f)

talls_length : (f : Forest) → length (talls f) ≡ width f
unfolding talls width
talls_length none = refl
talls_length (tree v d f) = ap suc (talls_length f)

-- they are the heights that the forest's digits make
pub heights_forest : (f : Forest) (ds : List ℕ) → heights (shape f ++ ds) ≡ talls f ++ heights ds
unfolding heights shape talls
heights_forest none ds = refl
heights_forest (tree v d f) ds =
    ap (λ l. suc (top (take (width d) l)) ∷ drop (width d) l)
    (ap heights (append_assoc (shape d) (shape f) ds) ∙ heights_forest d (shape f ++ ds) ∙ ap (λ l. talls d ++ l) (heights_forest f ds))
    ∙ ap₂ (λ x y. suc x ∷ y)
    (ap top (take_at (talls d) (talls f ++ heights ds) (width d) (talls_length d)) ∙ top-talls d)
    (drop_at (talls d) (talls f ++ heights ds) (width d) (talls_length d))

falling_tail : (c : List ℕ) (l : List (List ℕ)) → Falling (c ∷ l) → Falling l
falling_tail c [] f = tt
falling_tail c (d ∷ l) f = f.1

falling_past : (c d : List ℕ) (l : List (List ℕ)) → Falling (c ∷ d ∷ l) → Falling (c ∷ l)
falling_past c d [] f = tt
falling_past c d (e ∷ l) f = (trans≽ c d e f.0 f.1.0, f.1.1)

-- the tree i of f, with its root and what hangs below it, and the others
pub record Lifted (M : Marks) (label : ℕ → M.Label) (f : Forest) (i : ℕ) : Type 0 where
  pub root : ℕ
  pub below : Forest
  pub others : Forest
  pub first : suc (tall below) ≡ tall f
  pub next : tall others ≡ second (talls f)
  pub before : List ℕ
  pub after : List ℕ
  pub here : marks M label f ≡ before ++ (M.mark (width below) (label root) ∷ (marks M label below ++ after))
  pub left : marks M label others ≡ before ++ after
  pub wide : suc (width others) ≡ width f
  pub begins : flatten (take i (strings M label f)) ≡ before
  pub ends : flatten (take (suc i) (strings M label f)) ≡ before ++ (M.mark (width below) (label root) ∷ marks M label below)
  pub falls : Falling (strings M label f) → Falling (strings M label others)
  pub falls-behind : (c : List ℕ) → Falling (c ∷ strings M label f) → Falling (c ∷ strings M label others)
  pub down : Down M label f → Falling (strings M label below) × Down M label below × Down M label others
  pub names : Permᴰ (vertices f) (vertices (tree root below others))
  pub same : (p : ℕ) → Permᴰ (hung p f) (hung p (tree root below others))

pub peak_here : (h : ℕ) (l : List ℕ) → top l ≤ h → peak (h ∷ l) ≡ 0
unfolding peak
peak_here h l n = if_neg (dec_lt h (top l)) (λ g. let z : ⊥ = omega arith in z) (suc (peak l)) 0

pub peak_past : (h : ℕ) (l : List ℕ) → h < top l → peak (h ∷ l) ≡ suc (peak l)
unfolding peak
peak_past h l n = if_pos (dec_lt h (top l)) n (suc (peak l)) 0

pub second_here : (h : ℕ) (l : List ℕ) → top l ≤ h → second (h ∷ l) ≡ top l
unfolding second
second_here h l n = if_neg (dec_lt h (top l)) (λ g. let z : ⊥ = omega arith in z) (max h (second l)) (top l)

pub second_past : (h : ℕ) (l : List ℕ) → h < top l → second (h ∷ l) ≡ max h (second l)
unfolding second
second_past h l n = if_pos (dec_lt h (top l)) n (max h (second l)) (top l)

pub second_below : (l : List ℕ) → second l ≤ top l
unfolding second top
second_below [] = omega arith
second_below (h ∷ l) = step (dec_lt h (top l)) (second_below l)
  where
    step : (t : Dec (h < top l)) → second l ≤ top l → ite t (max h (second l)) (top l) ≤ max h (top l)
    step (yes g) r = omega arith
    step (no g) r = omega arith

module _ (M : Marks) (label : ℕ → M.Label) (v : ℕ) (d f : Forest) where
  abbrev here_mark : ℕ
  here_mark = M.mark (width d) (label v)

  lift_here : tall f ≤ suc (tall d) → Lifted M label (tree v d f) 0
  unfolding tall talls marks width strings flatten
  lift_here l = record {
    root = v;
    below = d;
    others = f;
    first = omega arith;
    next = sym (second_here (suc (tall d)) (talls f) (rw top-talls l) ∙ top-talls f);
    before = [];
    after = marks M label f;
    here = refl;
    left = refl;
    wide = refl;
    begins = refl;
    ends = ap (λ l. here_mark ∷ l) (append-nil (flatten (strings M label d)) ∙ strings-marks M label d);
    falls = falling_tail (here_mark ∷ flatten (strings M label d)) (strings M label f);
    falls-behind = λ c. falling_past c (here_mark ∷ flatten (strings M label d)) (strings M label f);
    down = λ o. o;
    names = Permᴰ.refl (vertices (tree v d f));
    same = λ p. Permᴰ.refl (hung p (tree v d f));
  }

  lift_past : {i : ℕ} → suc (tall d) < tall f → Lifted M label f i → Lifted M label (tree v d f) (suc i)
  unfolding tall talls marks width strings flatten vertices hung
  lift_past {i} l t =
      let b : flatten (take (suc i) (strings M label (tree v d f))) ≡ here_mark ∷ (marks M label d ++ t.before) = ap₂ (λ x y. here_mark ∷ (x ++ y)) (strings-marks M label d) t.begins in
      let e : flatten (take (suc (suc i)) (strings M label (tree v d f))) ≡ (here_mark ∷ (marks M label d ++ t.before)) ++ (M.mark (width t.below) (label t.root) ∷ marks M label t.below) =
      ap₂ (λ x y. here_mark ∷ (x ++ y)) (strings-marks M label d) t.ends ∙ sym (append_assoc (here_mark ∷ marks M label d) t.before (M.mark (width t.below) (label t.root) ∷ marks M label t.below)) in
      record {
        root = t.root;
        below = t.below;
        others = tree v d t.others;
        first = omega (arith, t.first);
        next = ap (max (suc (tall d))) t.next ∙ sym (second_past (suc (tall d)) (talls f) (rw top-talls l));
        before = here_mark ∷ (marks M label d ++ t.before);
        after = t.after;
        here = ap (λ l. here_mark ∷ (marks M label d ++ l)) t.here ∙ sym (append_assoc (here_mark ∷ marks M label d) t.before (M.mark (width t.below) (label t.root) ∷ (marks M label t.below ++ t.after)));
        left = ap (λ l. here_mark ∷ (marks M label d ++ l)) t.left ∙ sym (append_assoc (here_mark ∷ marks M label d) t.before t.after);
        wide = ap suc t.wide;
        begins = b;
        ends = e;
        falls = t.falls-behind (here_mark ∷ flatten (strings M label d));
        falls-behind = λ c g. (g.0, t.falls-behind (here_mark ∷ flatten (strings M label d)) g.1);
        down = λ (a, b, o). let (x, y, z) = t.down o in (x, y, (a, b, z));
        names = Permᴰ.trans (Permᴰ.append_left (v ∷ vertices d) t.names) (front (v ∷ vertices d) (t.root ∷ vertices t.below) (vertices t.others));
        same = λ p. Permᴰ.trans
            (Permᴰ.append_left ((p, v) ∷ (v, p) ∷ hung v d) (t.same p))
            (front ((p, v) ∷ (v, p) ∷ hung v d) ((p, t.root) ∷ (t.root, p) ∷ hung t.root t.below) (hung p t.others));
      }

-- the first tallest put in front
pub lift : (M : Marks) (label : ℕ → M.Label) (f : Forest) → 0 < tall f → Lifted M label f (peak (talls f))
unfolding talls tall
lift M label none l = let z : ⊥ = omega arith in absurd z
lift M label (tree v d f) l = step (dec_lt (suc (tall d)) (tall f)) (λ h. lift M label f h)
  where
    step : Dec (suc (tall d) < tall f) → (0 < tall f → Lifted M label f (peak (talls f))) → Lifted M label (tree v d f) (peak (suc (tall d) ∷ talls f))
    step (yes h) r = rw (peak_past (suc (tall d)) (talls f) (rw top-talls h)) (lift_past M label v d f h (r (omega arith)))
    step (no n) r = rw (peak_here (suc (tall d)) (talls f) (rw top-talls (omega arith))) (lift_here M label v d f (omega arith))
