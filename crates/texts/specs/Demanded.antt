-- The statements of `Demand`, proved for any kind of line: of what a caller sees by `Seen`, of the answers by the theorems on texts. What is asked of a
-- kind is that what a reader leaves can be read by a caller (`Legible`), that a writer gives lines of accepted records (`Writes`), and for the two sentences
-- that the format is sound. Assumes nothing.
use Rattle.std.specs.Prelude.{◌≡◌, ℕ, zero, suc, ◌+◌, ◌*◌, ◌≤◌, ◌<◌, length, get_or, take, drop, replicate}
use Rattle.std.proofs.Math.Path.{refl, ap, ap₂}
use Rattle.std.proofs.Common.{sym, subst, ◌∙◌, mul-suc, mul-le-mul_left, arith, length-append, length-drop, drop_of_length-le}
use mathlib.Core.List.{List, [], ◌∷◌, ◌++◌, map, map-append, append-nil}
use Rattle.std.proofs.Math.Decide.{dec_lt}
use Rattle.std.proofs.lemmas.List.{length-map, length-replicate}
use Rattle.refusal.specs.document.Table.{Outcome, gives}
use Rattle.texts.specs.document.Text.{text_of, TextAnswers}
use Rattle.texts.specs.document.Damage.{records, refusals}
use Rattle.texts.specs.document.Lent.{Has, EachArea, counted}
use Rattle.texts.specs.document.Demand.{zeros, Counted, CountsAdd, lines_in, Kind, joined, Clean, none, one_more, CleanLines, CallReads, of_lines, InTurns, ended, turn, handed_out, OneCall, TurnsAgree, CleanText, OneByteChanged, AnyDamage, AnswersEachLine, ReachesTheEnd, GetsOn, TurnsEnd}
use Rattle.texts.specs.Damage.{Accept, Accepted}
use Rattle.texts.specs.Sound.{Sound}
use Rattle.texts.specs.Records.{records-given, records-before, records-refusals}
use Rattle.texts.specs.Theorems as Texts
use Rattle.texts.specs.Taking.{has_less}
use Rattle.texts.specs.Seen.{numbers_of, places_of, Legible, Shows, Seen, seen, answered, counts-records, refusal_shows, taken-plain, lines-taken, lines-answered, lines_some}

zeros-join : (ns ms : List ℕ) → zeros (ns ++ ms) ≡ zeros ns + zeros ms
unfolding zeros
zeros-join [] ms = omega arith
zeros-join (zero ∷ ns) ms = omega (arith, zeros-join ns ms)
zeros-join (suc n ∷ ns) ms = zeros-join ns ms

pub counts-add : CountsAdd
counts-add ns ms r f s g a b =
    record {
      records = omega (arith, zeros-join ns ms, a.records, b.records);
      others = simp length-append (omega (arith, a.others, b.others));
    }

lines_none : (t : List ℕ) → length t ≡ 0 → lines_in t ≡ 0
unfolding lines_in
lines_none [] e = refl
lines_none (b ∷ t) e = absurd (omega arith)

-- nothing is behind the bytes of the last turn
joined_end :
    {A : Type 0} (P : (A → List ℕ) → List ℕ → List ℕ → Type 0) (n : ℕ) (vs : List (A → List ℕ)) (olds news : List (List ℕ)) → EachArea P vs olds news
    → joined (map (take n) news) (map (λ v. []) vs) ≡ map (take n) news
joined_end P n [] [] [] e = refl
joined_end P n [] [] (new ∷ news) e = absurd e
joined_end P n [] (old ∷ olds) news e = absurd e
joined_end P n (v ∷ vs) [] news e = absurd e
joined_end P n (v ∷ vs) (old ∷ olds) [] e = absurd e
joined_end P n (v ∷ vs) (old ∷ olds) (new ∷ news) e = ap₂ {C = List (List ℕ)} ◌∷◌ (append-nil (take n new)) (joined_end P n vs olds news e.1)

module _ {A F : Type 0} (kind : Kind A F) where
  -- what a writer gives is the line of an accepted record
  abbrev pub Writes : Type 0
  Writes = (b : List ℕ) (c : A) → kind.Gives b c → Accept kind.format c × (b ≡ kind.format.body c ++ (10 ∷ []))

  -- ---- the clean text

  module _ (writes : Writes) where
    -- it is the lines of the records written, which are accepted
    clean_written : {t : List ℕ} {cs : List A} → Clean kind t cs → Accepted kind.format cs × (t ≡ text_of kind.format.body cs)
    unfolding text_of
    clean_written none = (tt, refl)
    clean_written (one_more {b} {c = c} g h) =
        let (x, q) = writes b c g in
        let (a, f) = clean_written h in
        ((x, a), ap₂ ◌++◌ q f)

    -- the last records have a clean text of their own
    clean_behind : (earlier behind : List A) {t : List ℕ} → Clean kind t (earlier ++ behind) → Clean kind (text_of kind.format.body behind) behind
    clean_behind [] behind h = subst (λ t. Clean kind t behind) (clean_written h).1 h
    clean_behind (c ∷ earlier) behind (one_more g h) = clean_behind earlier behind h

    pub clean_lines : CleanLines kind
    clean_lines t cs h = (clean_written h).1

  -- ---- what a caller sees

  pub one_call : OneCall kind
  one_call u recs num pla recs' num' pla' k at g q =
      let d : drop at u ≡ [] = drop_of_length-le u {i = at} (omega arith) in
      let j = joined_end _ (kind.lent.width * k) kind.lent.views recs recs' g.read.records in
      rw (← append-nil (take k num'), ← append-nil (take k pla'), ← j) (turn {ns = []} {ps = []} {bs = map (λ v. []) kind.lent.views} g (rw d ended))

  -- two that show the same answers
  agree :
      {os : List (Outcome A)} {ns ps : List ℕ} {bs : List (List ℕ)} {ns' ps' : List ℕ} {bs' : List (List ℕ)} → Shows kind os ns ps bs → Shows kind os ns' ps' bs'
      → (ns ≡ ns') × (ps ≡ ps') × (handed_out kind ns ps bs ≡ handed_out kind ns' ps' bs')
  agree a b = (a.numbers ∙ sym b.numbers, a.places ∙ sym b.places, a.handed ∙ sym b.handed)

  numbers-given : (cs : List A) → numbers_of kind (map gives cs) ≡ replicate (length cs) 0
  unfolding counted
  numbers-given [] = refl
  numbers-given (c ∷ cs) = ap (λ (ns : List ℕ). 0 ∷ ns) (numbers-given cs)

  places-given : (cs : List A) → places_of kind (map gives cs) ≡ map kind.lent.long cs
  unfolding counted
  places-given [] = refl
  places-given (c ∷ cs) = ap (λ (ps : List ℕ). kind.lent.long c ∷ ps) (places-given cs)

  module _ (legible : Legible kind) where
    pub turns_agree : TurnsAgree kind
    turns_agree u ns ps bs ns' ps' bs' a b =
        let s = seen kind legible a in
        let r = seen kind legible b in
        let q = Texts.one_reading kind.format legible.once u s.answers r.answers (answered kind s) (answered kind r) in
        agree s.shows (rw (← q) at r.shows)

    -- what is counted of what is seen
    seen_counts :
        {u ns ps : List ℕ} {bs : List (List ℕ)} (s : Seen kind u ns ps bs) (read refused : ℕ) → Counted ns read refused
        → (read ≡ length (handed_out kind ns ps bs)) × (refused ≡ refusals s.answers)
    seen_counts {ns = ns} s read refused c =
        let os = s.answers in
        let q = counts-records kind os (taken-plain kind legible s.taken) in
        let z = ap zeros s.shows.numbers in
        let l = ap length s.shows.numbers ∙ length-map os _ in
        let h = ap length s.shows.handed in
        (omega (arith, c.records), omega (arith, c.records, c.others, records-refusals os))

    module _ (writes : Writes) (sound : Sound kind.format) where
      -- ---- what the clean text is answered

      pub clean_text : CleanText kind
      clean_text t ns ps bs cs h r =
          let s = seen kind legible r in
          let (a, f) = clean_written writes h in
          let q : s.answers ≡ map gives cs = Texts.read_back kind.format sound cs s.answers a (subst (λ u. TextAnswers kind.format u s.answers) f (answered kind s)) in
          let ns-are : ns ≡ replicate (length cs) 0 = s.shows.numbers ∙ ap (numbers_of kind) q ∙ numbers-given cs in
          let hs : handed_out kind ns ps bs ≡ cs = s.shows.handed ∙ ap records q ∙ records-given cs in
          record {
            numbers = ns-are;
            places = s.shows.places ∙ ap (places_of kind) q ∙ places-given cs;
            handed = hs;
            counts = λ read refused c.
                let (p, z) = seen_counts s read refused c in
                (p ∙ ap length hs, omega (arith, c.others, p, ap length hs, ap length ns-are, length-replicate {A = ℕ} (length cs) 0));
          }

      -- ---- the two sentences

      pub one-byte_changed : OneByteChanged kind
      one-byte_changed t u ns ps bs cs h c r =
          let s = seen kind legible r in
          let (a, f) = clean_written writes h in
          let w = Texts.one_byte kind.format sound cs u s.answers a (rw f at c) (answered kind s) in
          record {
            some_refused = subst (λ (ms : List ℕ). (i : ℕ) × (i < length ms) × (get_or ms i 0 ≡ 0 → ⊥)) (sym s.shows.numbers) (refusal_shows kind s.answers (taken-plain kind legible s.taken) w.refuses);
            ordered = rw s.shows.handed w.ordered;
            loses = omega (arith, w.loses, ap length s.shows.handed);
            counts = λ read refused c. let (p, q) = seen_counts s read refused c in (p, omega (arith, w.refuses));
          }

      pub any_damage : AnyDamage kind
      any_damage x y z ns ps bs cs h r =
          let s = seen kind legible r in
          let (a, f) = clean_written writes h in
          let w = Texts.recovers kind.format sound cs x y z (z ++ (10 ∷ y)) s.answers a (sym f) refl (answered kind s) in
          let b = w.behind in
          record {
            earlier = w.earlier;
            behind = b;
            parts = w.parts;
            clean = subst (λ v. Clean kind v b) (sym w.lines-behind) (clean_behind writes w.earlier b (subst (Clean kind (x ++ (10 ∷ y))) w.parts h));
            numbers-before = numbers_of kind w.before;
            places-before = places_of kind w.before;
            handed-before = records w.before;
            numbers =
                s.shows.numbers ∙ ap (numbers_of kind) w.ends ∙ map-append _ w.before (map gives b)
                ∙ ap (λ (ms : List ℕ). numbers_of kind w.before ++ ms) (numbers-given b);
            places =
                s.shows.places ∙ ap (places_of kind) w.ends ∙ map-append _ w.before (map gives b)
                ∙ ap (λ (qs : List ℕ). places_of kind w.before ++ qs) (places-given b);
            handed =
                s.shows.handed ∙ ap records w.ends ∙ records-before w.before b;
            by_itself = λ ns' ps' bs' r'.
                let v = seen kind legible r' in
                let q = Texts.one_reading kind.format legible.once (z ++ (10 ∷ [])) v.answers w.before (answered kind v) w.answered in
                (v.shows.numbers ∙ ap (numbers_of kind) q, v.shows.places ∙ ap (places_of kind) q, v.shows.handed ∙ ap records q);
          }

    -- ---- reaching the end

    pub answers-each-line : AnswersEachLine kind
    answers-each-line u ns ps bs r =
        let s = seen kind legible r in
        ap length s.shows.numbers ∙ length-map s.answers _ ∙ lines-answered kind.format (answered kind s)

  -- of a turn: the lines read, and those that are left
  module _
      {u : List ℕ} {recs : List (List ℕ)} {num pla : List ℕ} {recs' : List (List ℕ)} {num' pla' : List ℕ} {k at : ℕ} (g : CallReads kind u recs num pla recs' num' pla' k at) where
    lines_left : lines_in u ≡ k + lines_in (drop at u)
    lines_left = omega (arith, g.read.count, lines-taken kind.format g.read.taken)

    -- some are left before the end
    before-end : at < length u → 1 ≤ lines_in (drop at u)
    before-end l = lines_some (drop at u) (simp length-drop (omega arith))

    -- and none at the end
    at-end : length u ≤ at → lines_in (drop at u) ≡ 0
    at-end l = lines_none (drop at u) (simp length-drop (omega arith))

  pub reaches_the_end : ReachesTheEnd kind
  reaches_the_end u recs num pla recs' num' pla' k at g h i j = go (dec_lt at (length u))
    where
      room : suc k ≤ lines_in u → Has (kind.lent.width * k + kind.lent.width) recs
      room l =
          let m = mul-le-mul_left kind.lent.width l in
          has_less (kind.lent.width * k + kind.lent.width) (kind.lent.width * lines_in u) (omega (arith, mul-suc kind.lent.width k)) recs h

      go : Dec (at < length u) → (k ≡ lines_in u) × (at ≡ length u)
      go (yes l) =
          let n = lines_left g in
          let m = before-end g l in
          absurd (g.stops l (room (omega arith)) (omega arith) (omega arith))
      go (no l) = (omega (arith, lines_left g, at-end g (omega arith)), omega (arith, g.read.within))

  pub gets_on : GetsOn kind
  gets_on t a l = (some, further (dec_lt 0 a.at))
    where
      n : lines_in t ≡ a.k + lines_in (drop a.at t)
      n = lines_left a.read

      room : a.k ≡ 0 → Has (kind.lent.width * a.k + kind.lent.width) a.recs
      room e = subst (λ (i : ℕ). Has i a.recs) (rw e (omega arith)) a.room.0

      stuck : a.k ≡ 0 → Dec (a.at < length t) → ⊥
      stuck e (yes h) = a.read.stops h (room e) (omega (arith, a.room.1)) (omega (arith, a.room.2))
      stuck e (no h) = omega (arith, n, at-end a.read (omega arith), lines_some t l)

      some : 1 ≤ a.k
      some = let h : a.k ≡ 0 → ⊥ = λ e. stuck e (dec_lt a.at (length t)) in omega arith

      further : Dec (0 < a.at) → length (drop a.at t) < length t
      further (yes h) = simp length-drop (omega arith)
      further (no h) =
          let z : a.at ≡ 0 = omega arith in
          let e : lines_in (drop a.at t) ≡ lines_in t = ap (λ (i : ℕ). lines_in (drop i t)) z in
          absurd (omega (arith, n, some))

  -- v is read to its end
  abbrev Ends : List ℕ → Type 0
  Ends v = (ns : List ℕ) × (ps : List ℕ) × (bs : List (List ℕ)) × InTurns kind v ns ps bs

  pub turns-end : TurnsEnd kind
  turns-end a u = go (length u) u (omega arith)
    where
      on : (n : ℕ) (v : List ℕ) → length v ≤ suc n → ((w : List ℕ) → length w ≤ n → Ends w) → Ends v
      on n [] l k = ([], [], map (λ v. []) kind.lent.views, ended)
      on n (b ∷ v) l k =
          let t = a (b ∷ v) in
          let (ns, ps, bs, r) = k (drop t.at (b ∷ v)) (omega (arith, (gets_on (b ∷ v) t (omega arith)).1)) in
          (take t.k t.num' ++ ns, take t.k t.pla' ++ ps, joined (of_lines kind t.k t.recs') bs, turn t.read r)

      go : (n : ℕ) (v : List ℕ) → length v ≤ n → Ends v
      go zero [] l = ([], [], map (λ v. []) kind.lent.views, ended)
      go zero (b ∷ v) l = absurd (omega arith)
      go (suc n) v l = on n v l (λ w h. go n w h)
