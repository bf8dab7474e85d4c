-- The parts of a named line as they are found: the laws that the functions on its form cite, from the end of the line to its start. In order: a number;
-- the letters' counts; letters and counts; the line. Assumes nothing.
use Rattle.std.specs.Prelude.{◌≡◌, Bool, true, false, ℕ, suc, ◌+◌, ◌*◌, ◌-◌, ◌≤◌, ◌<◌, length, get_or, drop}
use Rattle.std.proofs.Math.Path.{refl, sym, ap, ap₂}
use Rattle.std.proofs.Common.{subst, ◌∙◌, add-one, arith, length-drop, take-suc, drop-drop}
use Rattle.std.proofs.Math.Logic.{ite, if_pos, if_neg}
use mathlib.Core.List.{List, [], ◌∷◌, ◌++◌}
use Rattle.std.proofs.Math.Decide.{ℕ_discrete, dec_lt}
use Rattle.std.proofs.Math.ListN.{take}
use Rattle.laws.specs.Part.{part}
use Rattle.laws.specs.Tells.{Tells, was_held, was_denied}
use Rattle.limits.specs.document.Limits.{size}
use Rattle.laws.specs.document.Each.{Each}
use Rattle.texts.specs.document.Bytes.{Free, Cut}
use Rattle.texts.specs.document.Numerals.{figures, Digits, IsNumber, Leads, says}
use Rattle.texts.specs.Numerals.{length_figures, count_free, marks-figures}
use Rattle.texts.specs.Numbers.{says-least, marks-number}
use Rattle.texts.specs.document.Parts.{spaced, tally}
use Rattle.texts.specs.Ending.{rest_is}
use Rattle.texts.specs.Spaced.{tally-join, no_space}
use Rattle.texts.specs.Cuts.{not_free, cut_once}
use Rattle.texts.specs.Ending.{Until, unfed, fed_cut}
use Rattle.lines.specs.document.Line.{front}
use Rattle.lines.specs.document.Marks.{WrittenDigits}
use Rattle.lines.specs.Form.{values, Figured, Begins}
use Rattle.lines.specs.Forming.{figures-values, are_figures, figured, unfigured, begins_within, follows}
use Rattle.lines.specs.Taking.{length_values}
use Rattle.skeleton.specs.document.Atom.{Letter}
use Rattle.named_lines.specs.document.Named.{Parts, NamedFormed}
use Rattle.named_lines.specs.NamedSound.{marks-letters}
use Rattle.named_lines.specs.NamedForm.{Near, NumberAt, Three, Tallies, Compared, CountsAt, TailForm, TailAt, ShapeAt}

-- ---- a number

-- written digits are a number where the first of several is not 0
written-number : (t : List ℕ) → WrittenDigits t → Leads (values t) → IsNumber t (says 0 (values t))
written-number t w l = let v = figures-values t w in record { digits = values t; leads = l; small = v.1; parts = sym v.0; value = refl }

-- and a number is written digits
number_figured : {t : List ℕ} {n : ℕ} → IsNumber t n → (1 ≤ length t) × WrittenDigits t
number_figured {t} h = go h.digits h.leads h.small h.parts
  where
    go : (ds : List ℕ) → Leads ds → Digits ds → t ≡ figures ds → (1 ≤ length t) × WrittenDigits t
    go [] l s e = absurd l
    go (d ∷ ds) l s e = (omega (arith, ap length e, length_figures (d ∷ ds)), subst (λ (x : List ℕ). WrittenDigits x) (sym e) (are_figures (d ∷ ds) s))

pub not_written : {t : List ℕ} {r : Bool} → Figured t r → r ≡ false → (n : ℕ) → IsNumber t n → ⊥
not_written g e n h = let k = number_figured h in unfigured g e k.0 k.1

pub one_figure : (t : List ℕ) → WrittenDigits t → length t ≡ 1 → NumberAt t (get_or t 0 0 - 48)
unfolding values says
one_figure [] w e = absurd (omega arith)
one_figure (a ∷ []) w e =
    record { n = says 0 (values (a ∷ [])); is = written-number (a ∷ []) w tt; near = ((λ l. omega arith), (λ l. omega arith)) }
one_figure (a ∷ b ∷ t) w e = absurd (omega arith)

pub two-figures : (t : List ℕ) → WrittenDigits t → (get_or t 0 0 - 48 ≡ 0 → ⊥) → length t ≡ 2 → NumberAt t (10 * (get_or t 0 0 - 48) + (get_or t 1 0 - 48))
unfolding values says
two-figures [] w n e = absurd (omega arith)
two-figures (a ∷ []) w n e = absurd (omega arith)
two-figures (a ∷ b ∷ []) w n e =
    record {
      n = says 0 (values (a ∷ b ∷ []));
      is = written-number (a ∷ b ∷ []) w (omega arith);
      near = ((λ l. omega arith), (λ l. omega (arith, w.0, w.1.0)));
    }
two-figures (a ∷ b ∷ d ∷ t) w n e = absurd (omega arith)

-- three digits say at least 100
pub more-figures : (t : List ℕ) → WrittenDigits t → (get_or t 0 0 - 48 ≡ 0 → ⊥) → 2 < length t → NumberAt t 100
unfolding values says
more-figures [] w n e = absurd (omega arith)
more-figures (a ∷ []) w n e = absurd (omega arith)
more-figures (a ∷ b ∷ []) w n e = absurd (omega arith)
more-figures (a ∷ b ∷ d ∷ t) w n e =
    record {
      n = says 0 (values (a ∷ b ∷ d ∷ t));
      is = written-number (a ∷ b ∷ d ∷ t) w (omega arith);
      near = ((λ l. absurd (omega arith)), (λ l. omega (arith, says-least (10 * (10 * (10 * 0 + (a - 48)) + (b - 48)) + (d - 48)) (values t))));
    }

pub zero_leads : (t : List ℕ) → get_or t 0 0 - 48 ≡ 0 → (length t ≡ 1 → ⊥) → (n : ℕ) → IsNumber t n → ⊥
unfolding figures
zero_leads t z l n h = go h.digits h.leads h.parts
  where
    go : (ds : List ℕ) → Leads ds → t ≡ figures ds → ⊥
    go [] k e = k
    go (d ∷ []) k e = l (ap length e)
    go (d ∷ c ∷ ds) k e = omega (arith, k, ap (λ (x : List ℕ). get_or x 0 0) e)

-- ---- the letters' counts

pub tally_most : (a : ℕ) (t : List ℕ) → tally a t ≤ length t
unfolding tally
tally_most a [] = omega arith
tally_most a (b ∷ t) = go (ℕ_discrete b a) (tally_most a t)
  where
    go : (d : Dec (b ≡ a)) → tally a t ≤ length t → ite d 1 0 + tally a t ≤ suc (length t)
    go (yes e) l = omega arith
    go (no n) l = omega arith

pub tally-none : (a : ℕ) (t : List ℕ) → 0 ≡ tally a (take 0 t)
unfolding tally
tally-none a t = refl

-- one byte more
module _ (a : ℕ) (t : List ℕ) {i n : ℕ} (e : n ≡ tally a (take i t)) (l : i < length t) where
  next : tally a (take (i + 1) t) ≡ tally a (take i t) + tally a (get_or t i 0 ∷ [])
  next = rw (add-one, take-suc t i 0) (tally-join a (take i t) (get_or t i 0 ∷ []))

  pub tally_here : get_or t i 0 ≡ a → n + 1 ≡ tally a (take (i + 1) t)
  unfolding tally
  tally_here q = omega (arith, next, if_pos {C = ℕ} (ℕ_discrete (get_or t i 0) a) q 1 0)

  pub tally_not : (get_or t i 0 ≡ a → ⊥) → n ≡ tally a (take (i + 1) t)
  unfolding tally
  tally_not q = omega (arith, next, if_neg {C = ℕ} (ℕ_discrete (get_or t i 0) a) q 1 0)

near_low : {n r : ℕ} → Near n r → n ≤ 99 → n ≡ r
near_low {n} {r} m l = go (dec_lt 99 r)
  where
    go : Dec (99 < r) → n ≡ r
    go (yes h) = absurd (omega (arith, m.1 h))
    go (no h) = m.0 (omega arith)

-- letters and counts compared, by the numbers as they were read
module _ {ls : List ℕ} {x y z c n o : ℕ} {r : Bool} (mx : Near x c) (my : Near y n) (mz : Near z o) (w : Tells ((length ls ≤ size) × Tallies ls c n o) r) where
  compared : Compared ls x y z r
  compared =
      record {
        fits = λ q.
            let (l, t) = was_held w q in
            record {
              c = t.c ∙ sym (mx.0 (omega (arith, l, t.c, tally_most 67 ls)));
              n = t.n ∙ sym (my.0 (omega (arith, l, t.n, tally_most 78 ls)));
              o = t.o ∙ sym (mz.0 (omega (arith, l, t.o, tally_most 79 ls)));
            };
        differs = λ q l t.
            was_denied w q (
              l,
              record {
                c = t.c ∙ near_low mx (omega (arith, l, t.c, tally_most 67 ls));
                n = t.n ∙ near_low my (omega (arith, l, t.n, tally_most 78 ls));
                o = t.o ∙ near_low mz (omega (arith, l, t.o, tally_most 79 ls));
              },
            );
      }

-- what stands behind the space at a
behind_is : (t : List ℕ) (a : ℕ) → take (length t - (a + 1)) (drop (a + 1) t) ≡ drop (suc a) t
behind_is t a = rest_is t (a + 1) ∙ ap (λ (n : ℕ). drop n t) (add-one a)

part_is : (s i : ℕ) (t : List ℕ) → part s (s + i) t ≡ take i (drop s t)
part_is s i t = let e : s + i - s ≡ i = omega arith in ap (λ (n : ℕ). take n (drop s t)) e

-- and behind a second one, i bytes further
further_is : (t : List ℕ) (s i : ℕ) → take (length t - (s + i + 1)) (drop (s + i + 1) t) ≡ drop (suc i) (drop s t)
further_is t s i =
    let e : suc (s + i) ≡ s + suc i = omega arith in
    behind_is t (s + i) ∙ ap (λ (n : ℕ). drop n t) e ∙ sym (drop-drop (suc i) s t)

module _ {t : List ℕ} {a : ℕ} (u : Until 32 t a) where
  pub no_first : a ≡ length t → (x y z : ℕ) → Three t x y z → ⊥
  unfolding spaced
  no_first e x y z h = not_free 32 h.c (h.n ++ (32 ∷ h.o)) (subst (λ (l : List ℕ). Free 32 l) h.parts (unfed u e))

  module _ (n : a ≡ length t → ⊥) where
    three_first : {x y z : ℕ} (h : Three t x y z) → (take a t ≡ h.c) × (drop (suc a) t ≡ h.n ++ (32 ∷ h.o))
    unfolding spaced
    three_first h =
        cut_once 32 t (take a t) (drop (suc a) t) h.c (h.n ++ (32 ∷ h.o)) (fed_cut u n)
        (record { parts = h.parts; free = no_space h.c (marks-number h.says-c) })

    module _ {b : ℕ} (v : Until 32 (take (length t - (a + 1)) (drop (a + 1) t)) b) where
      second : Until 32 (drop (suc a) t) b
      second = subst (λ (l : List ℕ). Until 32 l b) (behind_is t a) v

      pub no_second : a + 1 + b ≡ length t → (x y z : ℕ) → Three t x y z → ⊥
      no_second e x y z h =
          let f = unfed second (omega (arith, length-drop (suc a) t)) in
          not_free 32 h.n h.o (subst (λ (l : List ℕ). Free 32 l) (three_first h).1 f)

      module _ (m : a + 1 + b ≡ length t → ⊥) where
        cut : Cut 32 (drop (suc a) t) (take b (drop (suc a) t)) (drop (suc b) (drop (suc a) t))
        cut = fed_cut second (λ e. m (omega (arith, u.within, length-drop (suc a) t)))

        three_second : {x y z : ℕ} (h : Three t x y z) → (take b (drop (suc a) t) ≡ h.n) × (drop (suc b) (drop (suc a) t) ≡ h.o)
        three_second h =
            cut_once 32 (drop (suc a) t) (take b (drop (suc a) t)) (drop (suc b) (drop (suc a) t)) h.n h.o cut
            (record { parts = (three_first h).1; free = no_space h.n (marks-number h.says-n) })

        -- the second and the third part, as the code hands them on
        second_is : part (a + 1) (a + 1 + b) t ≡ take b (drop (suc a) t)
        second_is = part_is (a + 1) b t ∙ ap (λ (n : ℕ). take b (drop n t)) (add-one a)

        third_is : take (length t - (a + 1 + b + 1)) (drop (a + 1 + b + 1) t) ≡ drop (suc b) (drop (suc a) t)
        third_is = further_is t (a + 1) b ∙ ap (λ (n : ℕ). drop (suc b) (drop n t)) (add-one a)

        pub not_first : ((n : ℕ) → IsNumber (take a t) n → ⊥) → (x y z : ℕ) → Three t x y z → ⊥
        not_first g x y z h = g x (subst (λ (l : List ℕ). IsNumber l x) (sym (three_first h).0) h.says-c)

        pub not_second : ((n : ℕ) → IsNumber (part (a + 1) (a + 1 + b) t) n → ⊥) → (x y z : ℕ) → Three t x y z → ⊥
        not_second g x y z h = g y (subst (λ (l : List ℕ). IsNumber l y) (sym (second_is ∙ (three_second h).0)) h.says-n)

        pub not_third : ((n : ℕ) → IsNumber (take (length t - (a + 1 + b + 1)) (drop (a + 1 + b + 1) t)) n → ⊥) → (x y z : ℕ) → Three t x y z → ⊥
        not_third g x y z h = g z (subst (λ (l : List ℕ). IsNumber l z) (sym (third_is ∙ (three_second h).1)) h.says_o)

        made : {x y z : ℕ} → IsNumber (take a t) x → IsNumber (part (a + 1) (a + 1 + b) t) y
            → IsNumber (take (length t - (a + 1 + b + 1)) (drop (a + 1 + b + 1) t)) z → Three t x y z
        unfolding spaced
        made i j k =
            record {
              c = take a t;
              n = part (a + 1) (a + 1 + b) t;
              o = take (length t - (a + 1 + b + 1)) (drop (a + 1 + b + 1) t);
              says-c = i;
              says-n = j;
              says_o = k;
              parts =
                  (fed_cut u n).parts
                  ∙ ap (λ (l : List ℕ). take a t ++ (32 ∷ l)) (cut.parts ∙ ap₂ (λ (p q : List ℕ). p ++ (32 ∷ q)) (sym second_is) (sym third_is));
            }

        module _
            {ls : List ℕ} {p q o : ℕ} {r : Bool} (g : NumberAt (take a t) p) (h : NumberAt (part (a + 1) (a + 1 + b) t) q)
            (k : NumberAt (take (length t - (a + 1 + b + 1)) (drop (a + 1 + b + 1) t)) o) (w : Tells ((length ls ≤ size) × Tallies ls p q o) r) where
          pub matched : CountsAt t ls r
          matched = record { x = g.n; y = h.n; z = k.n; three = made g.is h.is k.is; compared = compared g.near h.near k.near w }

-- ---- letters and counts

module _ {t : List ℕ} {f : ℕ} (u : Until 32 t f) where
  pub no_behind : f ≡ length t → (ls : List ℕ) (x y z : ℕ) → TailForm t ls x y z → ⊥
  no_behind e ls x y z h = not_free 32 ls h.rest (subst (λ (l : List ℕ). Free 32 l) h.parts (unfed u e))

  module _ (n : f ≡ length t → ⊥) where
    tail_cut : {ls : List ℕ} {x y z : ℕ} (h : TailForm t ls x y z) → (take f t ≡ ls) × (drop (suc f) t ≡ h.rest)
    tail_cut {ls} h =
        cut_once 32 t (take f t) (drop (suc f) t) ls h.rest (fed_cut u n) (record { parts = h.parts; free = no_space ls (marks-letters ls h.lettered) })

    pub no_letters : {r : Bool} → Tells ((1 ≤ length (take f t)) × Each Letter (take f t)) r → r ≡ false → (ls : List ℕ) (x y z : ℕ) → TailForm t ls x y z → ⊥
    no_letters w e ls x y z h =
        was_denied w e (subst (λ (l : List ℕ). (1 ≤ length l) × Each Letter l) (sym (tail_cut h).0) (h.some, h.lettered))

    pub no_three : ((x y z : ℕ) → Three (take (length t - (f + 1)) (drop (f + 1) t)) x y z → ⊥) → (ls : List ℕ) (x y z : ℕ) → TailForm t ls x y z → ⊥
    no_three g ls x y z h = g x y z (subst (λ (l : List ℕ). Three l x y z) (sym (behind_is t f ∙ (tail_cut h).1)) h.three)

    pub tail-found : {r k : Bool} → Tells ((1 ≤ length (take f t)) × Each Letter (take f t)) r → r ≡ true
        → CountsAt (take (length t - (f + 1)) (drop (f + 1) t)) (take f t) k → TailAt t f k
    tail-found w e c =
        let (l, g) = was_held w e in
        record {
          x = c.x;
          y = c.y;
          z = c.z;
          within = omega (arith, u.within);
          form =
              record {
                rest = take (length t - (f + 1)) (drop (f + 1) t);
                some = l;
                lettered = g;
                three = c.three;
                parts = (fed_cut u n).parts ∙ ap (λ (m : List ℕ). take f t ++ (32 ∷ m)) (sym (behind_is t f));
              };
          compared = c.compared;
        }

-- ---- the line

-- what stands behind the digits of a line of the form
abbrev tail_of : {b : List ℕ} {q : Parts} → NamedFormed b q → List ℕ
tail_of {q = q} f = spaced q.letters (f.c ∷ f.n ∷ f.o ∷ [])

tail-form : {b : List ℕ} {q : Parts} (f : NamedFormed b q) → TailForm (tail_of f) q.letters q.carbons q.nitrogens q.oxygens
unfolding spaced
tail-form f =
    record {
      rest = spaced f.c (f.n ∷ f.o ∷ []);
      some = f.some_letters;
      lettered = f.lettered;
      three = record { c = f.c; n = f.n; o = f.o; says-c = f.says-c; says-n = f.says-n; says_o = f.says_o; parts = refl };
      parts = refl;
    }

pub not_opened : {b : List ℕ} → ((n s : ℕ) → Begins b n s → ⊥) → (q : Parts) → NamedFormed b q → ⊥
unfolding spaced
not_opened h q f =
    h q.front.count (length f.count + 1)
    (record { count = f.count; rest = figures q.front.digits ++ (32 ∷ tail_of f); counts = f.counts; parts = f.parts; start = refl })

module _ {b : List ℕ} {n s : ℕ} (h : Begins b n s) {i : ℕ} (v : Until 32 (take (length b - s) (drop s b)) i) where
  u : Until 32 (drop s b) i
  u = subst (λ (l : List ℕ). Until 32 l i) (rest_is b s) v

  pub digits-end : s + i ≤ length b
  digits-end = omega (arith, u.within, length-drop s b, begins_within h)

  behind-count : {q : Parts} (f : NamedFormed b q) → drop s b ≡ figures q.front.digits ++ (32 ∷ tail_of f)
  unfolding spaced
  behind-count {q} f =
      follows h
      ∙ (cut_once 32 b h.count h.rest f.count (figures q.front.digits ++ (32 ∷ tail_of f))
      (record { parts = h.parts; free = count_free 32 (omega arith) h.counts })
      (record { parts = f.parts; free = count_free 32 (omega arith) f.counts })).1

  pub digits_last : s + i ≡ length b → (q : Parts) → NamedFormed b q → ⊥
  digits_last e q f =
      let g = unfed u (omega (arith, length-drop s b)) in
      not_free 32 (figures q.front.digits) (tail_of f) (subst (λ (l : List ℕ). Free 32 l) (behind-count f) g)

  module _ (m : s + i ≡ length b → ⊥) where
    cut_line : Cut 32 (drop s b) (take i (drop s b)) (drop (suc i) (drop s b))
    cut_line = fed_cut u (λ e. m (omega (arith, begins_within h, length-drop s b)))

    line_cut : {q : Parts} (f : NamedFormed b q) → (take i (drop s b) ≡ figures q.front.digits) × (drop (suc i) (drop s b) ≡ tail_of f)
    line_cut {q} f =
        cut_once 32 (drop s b) (take i (drop s b)) (drop (suc i) (drop s b)) (figures q.front.digits) (tail_of f) cut_line
        (record { parts = behind-count f; free = no_space (figures q.front.digits) (marks-figures q.front.digits) })

    pub not_digits : {r : Bool} → Figured (part s (s + i) b) r → r ≡ false → (q : Parts) → NamedFormed b q → ⊥
    not_digits g e q f =
        let p : part s (s + i) b ≡ figures q.front.digits = part_is s i b ∙ (line_cut f).0 in
        unfigured g e (omega (arith, ap length p, length_figures q.front.digits, f.some))
        (subst (λ (l : List ℕ). WrittenDigits l) (sym p) (are_figures q.front.digits f.digits))

    pub not_tail :
        ((ls : List ℕ) (x y z : ℕ) → TailForm (take (length b - (s + i + 1)) (drop (s + i + 1) b)) ls x y z → ⊥) → (q : Parts) → NamedFormed b q → ⊥
    not_tail g q f =
        g q.letters q.carbons q.nitrogens q.oxygens
        (subst (λ (l : List ℕ). TailForm l q.letters q.carbons q.nitrogens q.oxygens) (sym (further_is b s i ∙ (line_cut f).1)) (tail-form f))

    module _ (g : (1 ≤ length (part s (s + i) b)) × WrittenDigits (part s (s + i) b)) {f : ℕ} {k : Bool} (a : TailAt (drop (suc i) (drop s b)) f k) where
      abbrev ls : List ℕ
      ls = take f (drop (suc i) (drop s b))

      has_form : NamedFormed b (record { front = front n (values (part s (s + i) b)); letters = ls; carbons = a.x; nitrogens = a.y; oxygens = a.z })
      unfolding spaced
      has_form =
          let w = figures-values (part s (s + i) b) g.1 in
          let t = a.form.three in
          record {
            count = h.count;
            c = t.c;
            n = t.n;
            o = t.o;
            counts = h.counts;
            some = omega (arith, g.0, length_values (part s (s + i) b));
            digits = w.1;
            some_letters = a.form.some;
            lettered = a.form.lettered;
            says-c = t.says-c;
            says-n = t.says-n;
            says_o = t.says_o;
            parts =
                h.parts
                ∙ ap (λ (l : List ℕ). h.count ++ (32 ∷ l)) (sym (follows h) ∙ cut_line.parts
                ∙ ap₂ (λ (p q : List ℕ). p ++ (32 ∷ q)) (sym (part_is s i b) ∙ sym w.0) (a.form.parts ∙ ap (λ (l : List ℕ). ls ++ (32 ∷ l)) t.parts));
          }

      letters_are : part (s + i + 1) (s + i + 1 + f) b ≡ ls
      letters_are =
          let e : s + i + 1 ≡ s + suc i = omega arith in
          part_is (s + i + 1) f b ∙ ap (λ (n : ℕ). take f (drop n b)) e ∙ ap (take f) (sym (drop-drop (suc i) s b))

      found : ShapeAt b n s (s + i) f k
      found =
          record {
            x = a.x;
            y = a.y;
            z = a.z;
            ordered = omega arith;
            within = omega (arith, a.within, length-drop (suc i) (drop s b), length-drop s b);
            figures = g.1;
            formed =
                subst (λ (l : List ℕ). NamedFormed b (record { front = front n (values (part s (s + i) b)); letters = l; carbons = a.x; nitrogens = a.y; oxygens = a.z }))
                (sym letters_are) has_form;
            compared = subst (λ (l : List ℕ). Compared l a.x a.y a.z k) (sym letters_are) a.compared;
          }

    pub shape-found : {r : Bool} {f : ℕ} {k : Bool} → Figured (part s (s + i) b) r → r ≡ true
        → TailAt (take (length b - (s + i + 1)) (drop (s + i + 1) b)) f k → ShapeAt b n s (s + i) f k
    shape-found {f = f} {k} g e a = found (figured g e) (subst (λ (l : List ℕ). TailAt l f k) (further_is b s i) a)
