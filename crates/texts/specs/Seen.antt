-- What a caller sees of a text that is read in turns, as the answers to its lines. In order: the bytes of several areas; records handed out of several
-- turns; what is asked of a kind of line, so that its answers show; records handed out of one turn; the counts; a reading in turns; how many lines a text
-- has. Assumes nothing.
use Rattle.std.specs.Prelude.{◌≡◌, get_or, take, drop}
use Rattle.std.proofs.Math.Path.{refl, ap}
use Rattle.std.proofs.Common.{sym, ap₂, subst, ◌∙◌, inl, inr, mul-add, length-append, length-drop, length-take-le, take-take}
use Rattle.std.proofs.Math.Logic.{if_pos, if_neg}
use mathlib.Core.List.{List, [], ◌∷◌, ◌++◌, map, map-append}
use Prim.Native.Nat.{ℕ, zero, suc, ◌+◌, ◌*◌, ◌≤◌, ◌<◌}
use Rattle.std.proofs.Math.Nat.{mul-suc}
use Rattle.std.proofs.Math.Decide.{ℕ_discrete}
use native.Mathlib.Omega.{arith}
use Rattle.std.proofs.Math.ListN.{length}
use Rattle.std.proofs.lemmas.List.{length-map, take-append-le, drop-append-le}
use Rattle.std.proofs.Math.Seq.{take_at, drop_at, take-nil}
use Rattle.laws.specs.document.Laid.{laid_over}
use Rattle.laws.specs.Laying.{laid-front}
use Rattle.refusal.specs.document.Table.{Row, Clear, Applies, Outcome, gives, refuses, kept, left}
use Rattle.refusal.specs.Laws.{applied}
use Rattle.texts.specs.document.Bytes.{Free}
use Rattle.texts.specs.document.Text.{Format, line_rows, LineAnswers, TextAnswers}
use Rattle.texts.specs.document.Damage.{records, refusals}
use Rattle.texts.specs.document.Lent.{Has, EachArea, block, blocks, counted, number_of, place_of, Taken, none, unfinished, next}
use Rattle.texts.specs.document.Demand.{zeros, lines_in, Kind, joined, CallReads, of_lines, InTurns, ended, turn, handed_out}
use Rattle.texts.specs.Judging.{judged}
use Rattle.texts.specs.Sound.{Once}
use Rattle.texts.specs.Answered.{clear_line}
use Rattle.texts.specs.Records.{records-join}
use Rattle.texts.specs.Taking.{has_less}
use Rattle.texts.specs.FirstLines.{Fit, answer_fits, length_block, taken-all, all-taken, taken-join}
use Rattle.texts.specs.Turns.{AllRoom, read_lengths}

-- ---- the bytes of several areas

-- each area has n bytes, and no more
abbrev pub Holds : ℕ → List (List ℕ) → Type 0
Holds n [] = Unit {0}
Holds n (b ∷ bs) = (length b ≡ n) × Holds n bs

cut_drop : (w n m : ℕ) (l : List ℕ) → n ≡ w + m → drop w (take n l) ≡ take m (drop w l)
cut_drop zero n m l e = let q : n ≡ m = omega arith in ap (λ (k : ℕ). take k l) q
cut_drop (suc w) zero m l e = absurd (omega arith)
cut_drop (suc w) (suc n) m [] e = sym (take-nil m)
cut_drop (suc w) (suc n) m (x ∷ l) e = cut_drop w n m l (omega arith)

-- of n bytes of each area, the first w, and the others
cut_each :
    (w n m : ℕ) (bs : List (List ℕ)) → n ≡ w + m
    → (map (take w) (map (take n) bs) ≡ map (take w) bs) × (map (drop w) (map (take n) bs) ≡ map (take m) (map (drop w) bs))
cut_each w n m [] e = (refl, refl)
cut_each w n m (b ∷ bs) e =
    let (t, d) = cut_each w n m bs e in
    (ap₂ {C = List (List ℕ)} ◌∷◌ (take-take w n b (omega arith)) t, ap₂ {C = List (List ℕ)} ◌∷◌ (cut_drop w n m b e) d)

holds_drop : (w n m : ℕ) (bs : List (List ℕ)) → n ≡ w + m → Holds n bs → Holds m (map (drop w) bs)
holds_drop w n m [] e h = tt
holds_drop w n m (b ∷ bs) e h = (simp length-drop (omega (arith, h.0)), holds_drop w n m bs e h.1)

has_drop : (w n m : ℕ) (bs : List (List ℕ)) → n ≡ w + m → Has n bs → Has m (map (drop w) bs)
has_drop w n m [] e h = tt
has_drop w n m (b ∷ bs) e h = (simp length-drop (omega (arith, h.0)), has_drop w n m bs e h.1)

joined-none : (n : ℕ) (bs ds : List (List ℕ)) → n ≡ 0 → Holds n bs → length bs ≡ length ds → joined bs ds ≡ ds
joined-none n [] [] e h l = refl
joined-none n [] (d ∷ ds) e h l = absurd (omega arith)
joined-none n (b ∷ bs) [] e h l = absurd (omega arith)
joined-none n ([] ∷ bs) (d ∷ ds) e h l = ap (λ (x : List (List ℕ)). d ∷ x) (joined-none n bs ds e h.1 (omega arith))
joined-none n ((a ∷ b) ∷ bs) (d ∷ ds) e h l = absurd (omega (arith, h.0))

-- the first w bytes of each, and the others
joined_cut :
    (w n : ℕ) (bs ds : List (List ℕ)) → w ≤ n → Holds n bs → length bs ≡ length ds
    → (map (take w) (joined bs ds) ≡ map (take w) bs) × (map (drop w) (joined bs ds) ≡ joined (map (drop w) bs) ds)
joined_cut w n [] ds e h l = (refl, refl)
joined_cut w n (b ∷ bs) [] e h l = absurd (omega arith)
joined_cut w n (b ∷ bs) (d ∷ ds) e h l =
    let (t, r) = joined_cut w n bs ds e h.1 (omega arith) in
    let k : w ≤ length b = omega (arith, h.0) in
    (ap₂ {C = List (List ℕ)} ◌∷◌ (take-append-le w b d k) t, ap₂ {C = List (List ℕ)} ◌∷◌ (drop-append-le w b d k) r)

holds_joined :
    (n m k : ℕ) (bs ds : List (List ℕ)) → k ≡ n + m → Holds n bs → Holds m ds → length bs ≡ length ds
    → (length (joined bs ds) ≡ length bs) × Holds k (joined bs ds)
holds_joined n m k [] ds e h i l = (refl, tt)
holds_joined n m k (b ∷ bs) [] e h i l = absurd (omega arith)
holds_joined n m k (b ∷ bs) (d ∷ ds) e h i l =
    let (j, r) = holds_joined n m k bs ds e h.1 i.1 (omega arith) in
    (ap suc j, (simp length-append (omega (arith, h.0, i.0)), r))

-- the first n bytes of each area that is lent
took :
    {A : Type 0} (n : ℕ) (vs : List (A → List ℕ)) (olds news : List (List ℕ)) → EachArea (λ v old new. length new ≡ length old) vs olds news → Has n olds
    → (length (map (take n) news) ≡ length vs) × Holds n (map (take n) news)
took n [] [] [] e h = (refl, tt)
took n [] [] (new ∷ news) e h = absurd e
took n [] (old ∷ olds) news e h = absurd e
took n (v ∷ vs) [] news e h = absurd e
took n (v ∷ vs) (old ∷ olds) [] e h = absurd e
took n (v ∷ vs) (old ∷ olds) (new ∷ news) e h =
    let (l, r) = took n vs olds news e.1 h.1 in
    (ap suc l, (length-take-le n new (omega (arith, e.0, h.0)), r))

-- none of what is left at the end
none-held : {A : Type 0} (n : ℕ) (vs : List (A → List ℕ)) → n ≡ 0 → (length (map {B = List ℕ} (λ v. []) vs) ≡ length vs) × Holds n (map (λ v. []) vs)
none-held n [] e = (refl, tt)
none-held n (v ∷ vs) e = let (l, r) = none-held n vs e in (ap suc l, (sym e, r))

-- no row has the number 0
abbrev pub AboveZero : List Row → Type 0
AboveZero [] = Unit {0}
AboveZero (r ∷ rs) = (1 ≤ r.number) × AboveZero rs

above_zero : (rs : List Row) (k p : ℕ) → AboveZero rs → Applies rs k p → 1 ≤ k
above_zero (r ∷ rs) k p h (inl a) = omega (arith, a.0, h.0)
above_zero (r ∷ rs) k p h (inr a) = above_zero rs k p h.1 a
above_zero [] k p h x'' = elim x'' [ ]

module _ {A F : Type 0} (kind : Kind A F) where
  -- the answers' numbers, and their places
  abbrev pub numbers_of : List (Outcome A) → List ℕ
  numbers_of os = map (λ o. number_of (counted kind.lent.long o)) os

  abbrev pub places_of : List (Outcome A) → List ℕ
  places_of os = map (λ o. place_of (counted kind.lent.long o)) os

  -- how many bytes are lent for a line in each area
  abbrev w : ℕ
  w = kind.lent.width

  -- ---- records handed out

  handed-join :
      (ns ps : List ℕ) (bs : List (List ℕ)) (ms qs : List ℕ) (ds : List (List ℕ)) → length ps ≡ length ns → Holds (w * length ns) bs → length bs ≡ length ds
      → handed_out kind (ns ++ ms) (ps ++ qs) (joined bs ds) ≡ handed_out kind ns ps bs ++ handed_out kind ms qs ds
  unfolding handed_out
  handed-join [] [] bs ms qs ds e h l = rw (joined-none (w * 0) bs ds (omega arith) h l)
  handed-join [] (p ∷ ps) bs ms qs ds e h l = absurd (omega arith)
  handed-join (n ∷ ns) [] bs ms qs ds e h l = absurd (omega arith)
  handed-join (zero ∷ ns) (p ∷ ps) bs ms qs ds e h l =
      let m = mul-suc w (length ns) in
      let (t, d) = joined_cut w (w * suc (length ns)) bs ds (omega arith) h l in
      let i = handed-join ns ps (map (drop w) bs) ms qs ds (omega arith) (holds_drop w (w * suc (length ns)) (w * length ns) bs (omega arith) h) (length-map bs (drop w) ∙ l) in
      rw (t, d) (ap (λ hs. kind.shown p (map (take w) bs) ∷ hs) i)
  handed-join (suc n ∷ ns) (p ∷ ps) bs ms qs ds e h l =
      let m = mul-suc w (length ns) in
      let (t, d) = joined_cut w (w * suc (length ns)) bs ds (omega arith) h l in
      rw d (handed-join ns ps (map (drop w) bs) ms qs ds (omega arith) (holds_drop w (w * suc (length ns)) (w * length ns) bs (omega arith) h) (length-map bs (drop w) ∙ l))

  -- ---- what is asked of a kind of line

  -- the record c is shown where each area has its part from the start
  abbrev pub Told : A → Type 0
  Told c =
      (olds news : List (List ℕ)) → EachArea (λ v old new. new ≡ laid_over (v c) old) kind.lent.views olds news → kind.shown (kind.lent.long c) news ≡ c

  -- a text has the form in one way; what is lent for a line is enough for a record; no refusal has the number 0; an accepted record is shown
  pub record Legible : Type 0 where
    pub once : Once kind.format.Formed
    pub fits : AllRoom kind.format kind.lent.width kind.lent.views
    pub numbered : (t : List ℕ) → AboveZero (line_rows kind.format t)
    pub told : (q : F) → Clear (judged kind.format.rows q) → Told (kind.format.carries q)

  -- what each area shows of an answer's record fits
  abbrev FitEach : List (A → List ℕ) → Outcome A → Type 0
  FitEach [] o = Unit {0}
  FitEach (v ∷ vs) o = Fit w v o × FitEach vs o

  -- a record is shown, and a refusal has a number that is not 0
  abbrev Tells : Outcome A → Type 0
  Tells (gives c) = Told c
  Tells (refuses k p) = 1 ≤ k

  -- so each answer shows as what it is
  abbrev pub Plain : List (Outcome A) → Type 0
  Plain [] = Unit {0}
  Plain (o ∷ os) = FitEach kind.lent.views o × Tells o × Plain os

  module _ (legible : Legible) where
    fit_each : (vs : List (A → List ℕ)) {t : List ℕ} {o : Outcome A} → AllRoom kind.format w vs → LineAnswers kind.format t o → FitEach vs o
    fit_each [] f a = tt
    fit_each (v ∷ vs) f a = (answer_fits kind.format legible.once w v f.0 a, fit_each vs f.1 a)

    tells : {t : List ℕ} {o : Outcome A} → LineAnswers kind.format t o → Tells o
    tells (kept c r) = subst Told r.holds (legible.told r.parts (clear_line kind.format legible.once c r.shape))
    tells {t} (left {k} {p} l q) = above_zero (line_rows kind.format t) k p (legible.numbered t) (applied l)

    pub taken-plain : {t rest : List ℕ} {os : List (Outcome A)} → Taken kind.format t os rest → Plain os
    taken-plain none = tt
    taken-plain (unfinished l f a) = (fit_each kind.lent.views legible.fits a, tells a, tt)
    taken-plain (next c a h) = (fit_each kind.lent.views legible.fits a, tells a, taken-plain h)

  -- ---- records handed out of one turn

  -- what the first line leaves in each area, and what the others leave
  areas_first :
      (o : Outcome A) (os : List (Outcome A)) (vs : List (A → List ℕ)) (olds news : List (List ℕ)) → FitEach vs o → Has w olds
      → EachArea (λ v old new. new ≡ blocks w v (o ∷ os) old) vs olds news
      → EachArea (λ v old new. new ≡ block v o old) vs (map (take w) olds) (map (take w) news)
      × EachArea (λ v old new. new ≡ blocks w v os old) vs (map (drop w) olds) (map (drop w) news)
  unfolding blocks
  areas_first o os [] [] [] f l x = (tt, tt)
  areas_first o os [] [] (new ∷ news) f l x = absurd x
  areas_first o os [] (old ∷ olds) news f l x = absurd x
  areas_first o os (v ∷ vs) [] news f l x = absurd x
  areas_first o os (v ∷ vs) (old ∷ olds) [] f l x = absurd x
  areas_first o os (v ∷ vs) (old ∷ olds) (new ∷ news) f l x =
      let b = block v o (take w old) in
      let r = blocks w v os (drop w old) in
      let q : length b ≡ w = length_block w v o (take w old) f.0 (length-take-le w old l.0) in
      let (s, t) = areas_first o os vs olds news f.1 l.1 x.1 in
      ((ap (take w) x.0 ∙ take_at b r w q, s), (ap (drop w) x.0 ∙ drop_at b r w q, t))

  handed-blocks :
      (os : List (Outcome A)) (olds news : List (List ℕ)) → Plain os → Has (w * length os) olds
      → EachArea (λ v old new. new ≡ blocks w v os old) kind.lent.views olds news
      → handed_out kind (numbers_of os) (places_of os) (map (take (w * length os)) news) ≡ records os
  unfolding handed_out counted block records
  handed-blocks [] olds news g h x = refl
  handed-blocks (gives c ∷ os) olds news g h x =
      let n = w * suc (length os) in
      let e : n ≡ w + w * length os = omega (arith, mul-suc w (length os)) in
      let (t, d) = cut_each w n (w * length os) news e in
      let (a, b) = areas_first (gives c) os kind.lent.views olds news g.0 (has_less w n (omega arith) olds h) x in
      rw (t, d)
      (ap₂ {C = List A} ◌∷◌ (g.1 (map (take w) olds) (map (take w) news) a)
      (handed-blocks os (map (drop w) olds) (map (drop w) news) g.2 (has_drop w n (w * length os) olds e h) b))
  handed-blocks (refuses zero p ∷ os) olds news g h x = absurd (omega (arith, g.1))
  handed-blocks (refuses (suc k) p ∷ os) olds news g h x =
      let n = w * suc (length os) in
      let e : n ≡ w + w * length os = omega (arith, mul-suc w (length os)) in
      let (t, d) = cut_each w n (w * length os) news e in
      let (a, b) = areas_first (refuses (suc k) p) os kind.lent.views olds news g.0 (has_less w n (omega arith) olds h) x in
      rw d (handed-blocks os (map (drop w) olds) (map (drop w) news) g.2 (has_drop w n (w * length os) olds e h) b)

  -- ---- the counts

  -- as many numbers are 0 as records are given
  pub counts-records : (os : List (Outcome A)) → Plain os → zeros (numbers_of os) ≡ length (records os)
  unfolding zeros counted records
  counts-records [] n = refl
  counts-records (gives c ∷ os) n = ap suc (counts-records os n.2)
  counts-records (refuses zero p ∷ os) n = absurd (omega (arith, n.1))
  counts-records (refuses (suc k) p ∷ os) n = counts-records os n.2

  -- a refusal shows as a number that is not 0
  pub refusal_shows :
      (os : List (Outcome A)) → Plain os → 1 ≤ refusals os → (i : ℕ) × (i < length (numbers_of os)) × (get_or (numbers_of os) i 0 ≡ 0 → ⊥)
  unfolding counted refusals
  refusal_shows [] n l = absurd (omega arith)
  refusal_shows (gives c ∷ os) n l = let (i, h, e) = refusal_shows os n.2 l in (suc i, omega arith, e)
  refusal_shows (refuses k p ∷ os) n l = (0, omega arith, λ e. omega (arith, n.1))

  -- ---- a reading in turns

  -- the answers os show as the numbers ns, the places ps and the bytes bs
  pub record Shows (os : List (Outcome A)) (ns ps : List ℕ) (bs : List (List ℕ)) : Type 0 where
    pub numbers : ns ≡ numbers_of os
    pub places : ps ≡ places_of os
    pub areas : length bs ≡ length kind.lent.views
    pub bytes : Holds (w * length os) bs
    pub handed : handed_out kind ns ps bs ≡ records os

  -- what is seen of the text u, to its end
  pub record Seen (u ns ps : List ℕ) (bs : List (List ℕ)) : Type 0 where
    pub answers : List (Outcome A)
    pub taken : Taken kind.format u answers []
    pub shows : Shows answers ns ps bs

  shows_none : Shows [] [] [] (map (λ v. []) kind.lent.views)
  unfolding handed_out records
  shows_none =
      let (l, h) = none-held (w * 0) kind.lent.views (omega arith) in
      record { numbers = refl; places = refl; areas = l; bytes = h; handed = refl }

  shows_join :
      {os qs : List (Outcome A)} {ns ps : List ℕ} {bs : List (List ℕ)} {ms ls : List ℕ} {ds : List (List ℕ)} → Shows os ns ps bs → Shows qs ms ls ds
      → Shows (os ++ qs) (ns ++ ms) (ps ++ ls) (joined bs ds)
  shows_join {os} {qs} {ns} {ps} {bs} {ms} {ls} {ds} a b =
      let e : length ns ≡ length os = ap length a.numbers ∙ length-map os _ in
      let f : length ps ≡ length os = ap length a.places ∙ length-map os _ in
      let l : length bs ≡ length ds = a.areas ∙ sym b.areas in
      let k : w * length (os ++ qs) ≡ w * length os + w * length qs = ap (λ (i : ℕ). w * i) (length-append os qs) ∙ mul-add w (length os) (length qs) in
      let (j, h) = holds_joined (w * length os) (w * length qs) (w * length (os ++ qs)) bs ds k a.bytes b.bytes l in
      record {
        numbers = ap₂ ◌++◌ a.numbers b.numbers ∙ sym (map-append _ os qs);
        places = ap₂ ◌++◌ a.places b.places ∙ sym (map-append _ os qs);
        areas = j ∙ a.areas;
        bytes = h;
        handed =
            handed-join ns ps bs ms ls ds (omega arith) (subst (λ (i : ℕ). Holds (w * i) bs) (sym e) a.bytes) l
            ∙ ap₂ ◌++◌ a.handed b.handed
            ∙ sym (records-join os qs);
      }

  module _ (legible : Legible) where
    -- one turn
    turn_shows :
        {u : List ℕ} {recs : List (List ℕ)} {num pla : List ℕ} {recs' : List (List ℕ)} {num' pla' : List ℕ} {k at : ℕ}
        (g : CallReads kind u recs num pla recs' num' pla' k at) → Shows g.read.answers (take k num') (take k pla') (of_lines kind k recs')
    turn_shows {recs = recs} {num} {pla} {recs'} {num'} {pla'} {k} g =
        let n = g.read.count in
        let os = g.read.answers in
        let q = laid-front (numbers_of os) num num' k g.read.numbers (length-map os _ ∙ sym n) in
        let f = laid-front (places_of os) pla pla' k g.read.places (length-map os _ ∙ sym n) in
        let room = g.read.room.0 in
        let (l, h) = took (w * k) kind.lent.views recs recs' (read_lengths kind.format kind.lent legible.once legible.fits g.read).0 room in
        record {
          numbers = q;
          places = f;
          areas = l;
          bytes = subst (λ (i : ℕ). Holds (w * i) (of_lines kind k recs')) n h;
          handed =
              rw (q, f, n)
              (handed-blocks os recs recs' (taken-plain legible g.read.taken) (subst (λ (i : ℕ). Has (w * i) recs) n room) g.read.records);
        }

    pub seen : {u ns ps : List ℕ} {bs : List (List ℕ)} → InTurns kind u ns ps bs → Seen u ns ps bs
    seen ended = record { answers = []; taken = none; shows = shows_none }
    seen (turn g r) =
        let s = seen r in
        record {
          answers = g.read.answers ++ s.answers;
          taken = taken-join kind.format g.read.taken s.taken;
          shows = shows_join (turn_shows g) s.shows;
        }

  pub answered : {u ns ps : List ℕ} {bs : List (List ℕ)} (s : Seen u ns ps bs) → TextAnswers kind.format u s.answers
  answered s = taken-all kind.format s.taken refl

-- ---- how many lines a text has

-- a byte that is no line feed, before others, begins no line of its own
lines_on : (b : ℕ) (t : List ℕ) → (b ≡ 10 → ⊥) → 1 ≤ length t → lines_in (b ∷ t) ≡ lines_in t
unfolding lines_in
lines_on b [] n l = absurd (omega arith)
lines_on b (c ∷ t) n l = omega (arith, if_neg {C = ℕ} (ℕ_discrete b 10) n 1 0)

lines_free : (t : List ℕ) → 1 ≤ length t → Free 10 t → lines_in t ≡ 1
unfolding lines_in
lines_free [] l f = absurd (omega arith)
lines_free (b ∷ []) l f = refl
lines_free (b ∷ c ∷ t) l f = lines_on b (c ∷ t) f.0 (omega arith) ∙ lines_free (c ∷ t) (omega arith) f.1

lines_cut : (b rest : List ℕ) → Free 10 b → lines_in (b ++ (10 ∷ rest)) ≡ 1 + lines_in rest
unfolding lines_in
lines_cut [] [] f = refl
lines_cut [] (c ∷ rest) f = omega (arith, if_pos {C = ℕ} (ℕ_discrete 10 10) refl 1 0)
lines_cut (a ∷ b) rest f = lines_on a (b ++ (10 ∷ rest)) f.0 (simp length-append (omega arith)) ∙ lines_cut b rest f.1

module _ {A F : Type 0} (format : Format A F) where
  pub lines-taken : {t rest : List ℕ} {os : List (Outcome A)} → Taken format t os rest → lines_in t ≡ length os + lines_in rest
  unfolding lines_in
  lines-taken none = omega arith
  lines-taken (unfinished {t} l f a) = lines_free t l f
  lines-taken (next {b = b} {rest = rest} c a h) = rw c.parts (omega (arith, lines_cut b rest c.free, lines-taken h))

  -- as many as there are answers
  pub lines-answered : {t : List ℕ} {os : List (Outcome A)} → TextAnswers format t os → length os ≡ lines_in t
  unfolding lines_in
  lines-answered h = omega (arith, lines-taken (all-taken format h))

pub lines_some : (t : List ℕ) → 1 ≤ length t → 1 ≤ lines_in t
unfolding lines_in
lines_some [] l = absurd (omega arith)
lines_some (b ∷ []) l = omega arith
lines_some (b ∷ c ∷ t) l = omega (arith, lines_some (c ∷ t) (omega arith))
