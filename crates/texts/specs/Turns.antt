-- Reading a text: it has one result; what is read so far, before the first line and with one line more. Assumes nothing.
use Rattle.std.specs.Prelude.{◌≡◌, refl, List, [], ◌∷◌, ◌++◌, map, ℕ, suc, ◌+◌, ◌*◌, ◌≤◌, ◌<◌, length, drop, set}
use Rattle.std.proofs.Common.{sym, ap, subst, ◌∙◌, mul-suc, mul-le-mul_left, add-one, arith, length-append, length-drop, drop_of_length-le}
use Rattle.std.proofs.lemmas.List.{map-append, length-map}
use Rattle.std.proofs.Math.Decide.{dec_lt, ℕ_discrete}
use borrow.Rule.Slice.PartMut.{mid_of, put_mid}
use Rattle.laws.specs.Laid.{laid_length}
use Rattle.laws.specs.document.Laid.{laid_over}
use Rattle.laws.specs.Laying.{laid_none, laid_more}
use Rattle.refusal.specs.document.Table.{Outcome}
use Rattle.texts.specs.document.Text.{Format, LineAnswers}
use Rattle.texts.specs.document.Lent.{Lent, Has, EachArea, block, blocks, counted, number_of, place_of, Taken, none, unfinished, next, ReadSoFar, ReadsText}
use Rattle.texts.specs.Sound.{Once}
use Rattle.texts.specs.Ending.{UpTo, Behind, unfed, fed_cut}
use Rattle.texts.specs.Taking.{areas_once, has_less, has_none, Matched}
use Rattle.texts.specs.FirstLines.{Fits, taken-join, taken_once, taken_most, taken_fit, blocks_more, length_blocks}

-- two formats whose records are lent for alike; they may be one
module _ {A F G : Type 0} (format : Format A F) (other : Format A G) (lent : Lent A) {t : List ℕ} {recs : List (List ℕ)} {num pla : List ℕ} where
  -- one reading does not stop before another
  no_sooner :
      {recs₁ recs₂ : List (List ℕ)} {num₁ pla₁ num₂ pla₂ : List ℕ} {k at j to : ℕ} → ReadsText format lent t recs num pla recs₁ num₁ pla₁ k at
      → ReadsText other lent t recs num pla recs₂ num₂ pla₂ j to → k < j → ⊥
  no_sooner {k = k} {at} {j} {to} g h l = go (dec_lt at (length t))
    where
      more : Has (lent.width * k + lent.width) recs
      more =
          let m = mul-le-mul_left lent.width l in
          has_less (lent.width * k + lent.width) (lent.width * j) (omega (arith, mul-suc lent.width k)) recs h.read.room.0

      go : Dec (at < length t) → ⊥
      go (yes a) = g.stops a more (omega (arith, h.read.room.1)) (omega (arith, h.read.room.2))
      go (no a) =
          let e = drop_of_length-le t {i = at} (omega arith) in
          let m = taken_most format other g.read.taken e h.read.taken in
          omega (arith, g.read.count, h.read.count)

-- so both read as many lines
pub as_many :
    {A F G : Type 0} (format : Format A F) (other : Format A G) (lent : Lent A) {t : List ℕ} {recs recs₁ recs₂ : List (List ℕ)} {num pla num₁ pla₁ num₂ pla₂ : List ℕ}
    {k at j to : ℕ} → ReadsText format lent t recs num pla recs₁ num₁ pla₁ k at → ReadsText other lent t recs num pla recs₂ num₂ pla₂ j to → k ≡ j
as_many format other lent {k = k} {j = j} g h =
    let a : k < j → ⊥ = no_sooner format other lent g h in
    let b : j < k → ⊥ = no_sooner other format lent h g in
    omega arith

-- reading a text has one result
pub read-text_once :
    {A F : Type 0} (format : Format A F) (lent : Lent A) → Once format.Formed → {t : List ℕ} {recs recs₁ recs₂ : List (List ℕ)} {num pla num₁ pla₁ num₂ pla₂ : List ℕ}
    {k at j to : ℕ} → ReadsText format lent t recs num pla recs₁ num₁ pla₁ k at → ReadsText format lent t recs num pla recs₂ num₂ pla₂ j to
    → (k ≡ j) × (at ≡ to) × (recs₁ ≡ recs₂) × (num₁ ≡ num₂) × (pla₁ ≡ pla₂)
read-text_once format lent once {recs = recs} {recs₁} {recs₂} {num} {pla} {k = k} {at} {j} {to} g h =
    let n = as_many format format lent g h in
    let r = taken_once format once g.read.taken h.read.taken (omega (arith, g.read.count, h.read.count)) in
    let l = subst (λ os. EachArea (λ v old new. new ≡ blocks lent.width v os old) lent.views recs recs₁) r.0 g.read.records in (
      n,
      omega (arith, simp length-drop at (ap length r.1), g.read.within, h.read.within),
      areas_once (λ v old. blocks lent.width v h.read.answers old) lent.views recs recs₁ recs₂ l h.read.records,
      g.read.numbers ∙ ap (λ os. laid_over (map (λ o. number_of (counted lent.long o)) os) num) r.0 ∙ sym h.read.numbers,
      g.read.places ∙ ap (λ os. laid_over (map (λ o. place_of (counted lent.long o)) os) pla) r.0 ∙ sym h.read.places,
    )

-- ---- what is read so far

pub read_none :
    {A F : Type 0} (format : Format A F) (lent : Lent A) (t : List ℕ) (recs : List (List ℕ)) (num pla : List ℕ) → Matched lent recs
    → ReadSoFar format lent t recs num pla recs num pla 0 0
unfolding blocks
read_none format lent t recs num pla m =
    record {
      answers = [];
      taken = none;
      within = omega arith;
      count = refl;
      room = (has_none (lent.width * 0) (omega arith) recs, omega arith, omega arith);
      records = m;
      numbers = laid_none num;
      places = laid_none pla;
    }

-- each area gets the block of o, at b
abbrev pub Puts : {A : Type 0} → Lent A → ℕ → Outcome A → List (List ℕ) → List (List ℕ) → Type 0
Puts lent b o recs₁ recs₂ = EachArea (λ v old new. new ≡ put_mid b lent.width old (block v o (mid_of b lent.width old))) lent.views recs₁ recs₂

-- what each area shows of an accepted record fits w bytes
abbrev pub AllRoom : {A F : Type 0} → Format A F → ℕ → List (A → List ℕ) → Type 0
AllRoom format w [] = Unit {0}
AllRoom format w (v ∷ vs) = Fits format w v × AllRoom format w vs

module _ {A F : Type 0} (format : Format A F) (once : Once format.Formed) (w : ℕ) {t rest : List ℕ} {os : List (Outcome A)} (h : Taken format t os rest) where
  areas_more :
      (vs : List (A → List ℕ)) (recs recs₁ recs₂ : List (List ℕ)) (o : Outcome A) (b : ℕ) → AllRoom format w vs → b ≡ w * length os → Has (b + w) recs
      → EachArea (λ v old new. new ≡ blocks w v os old) vs recs recs₁
      → EachArea (λ v old new. new ≡ put_mid b w old (block v o (mid_of b w old))) vs recs₁ recs₂
      → EachArea (λ v old new. new ≡ blocks w v (os ++ (o ∷ [])) old) vs recs recs₂
  areas_more [] [] [] [] o b f e l x y = tt
  areas_more [] [] [] (r₂ ∷ rs₂) o b f e l x y = y
  areas_more [] [] (r₁ ∷ rs₁) rs₂ o b f e l x y = absurd x
  areas_more [] (r ∷ rs) rs₁ rs₂ o b f e l x y = x
  areas_more (v ∷ vs) [] rs₁ rs₂ o b f e l x y = x
  areas_more (v ∷ vs) (r ∷ rs) [] rs₂ o b f e l x y = absurd x
  areas_more (v ∷ vs) (r ∷ rs) (r₁ ∷ rs₁) [] o b f e l x y = y
  areas_more (v ∷ vs) (r ∷ rs) (r₁ ∷ rs₁) (r₂ ∷ rs₂) o b f e l x y = (
    y.0
        ∙ ap (λ (l : List ℕ). put_mid b w l (block v o (mid_of b w l))) x.0
        ∙ blocks_more w v os o r b (taken_fit format once w v f.0 h) e l.0,
    areas_more vs rs rs₁ rs₂ o b f.1 e l.1 x.1 y.1,
  )

  areas_long :
      (vs : List (A → List ℕ)) (recs recs₁ : List (List ℕ)) → AllRoom format w vs → Has (w * length os) recs
      → EachArea (λ v old new. new ≡ blocks w v os old) vs recs recs₁ → EachArea (λ v old new. length new ≡ length old) vs recs recs₁
  areas_long [] [] [] f l x = tt
  areas_long [] [] (r₁ ∷ rs₁) f l x = x
  areas_long [] (r ∷ rs) rs₁ f l x = x
  areas_long (v ∷ vs) [] rs₁ f l x = x
  areas_long (v ∷ vs) (r ∷ rs) [] f l x = x
  areas_long (v ∷ vs) (r ∷ rs) (r₁ ∷ rs₁) f l x =
      (ap length x.0 ∙ length_blocks w v os r (taken_fit format once w v f.0 h) l.0, areas_long vs rs rs₁ f.1 l.1 x.1)

module _ {A F : Type 0} (format : Format A F) where
  -- the first line of r, and what is behind it
  pub line_taken :
      {r : List ℕ} {e : ℕ} {o : Outcome A} → 1 ≤ length r → UpTo r e → LineAnswers format r o → Taken format r (o ∷ []) (drop (suc e) r)
  line_taken {r} {e} {o} l u a = go (ℕ_discrete e (length r))
    where
      go : Dec (e ≡ length r) → Taken format r (o ∷ []) (drop (suc e) r)
      go (yes q) = rw (drop_of_length-le r {i = suc e} (omega arith)) (unfinished l (unfed u q) a)
      go (no n) = next (fed_cut u n) a none

module _
    {A F : Type 0} (format : Format A F) (lent : Lent A) (once : Once format.Formed) (fits : AllRoom format lent.width lent.views)
    {t : List ℕ} {recs : List (List ℕ)} {num pla : List ℕ} {recs₁ : List (List ℕ)} {num₁ pla₁ : List ℕ} {k at : ℕ}
    (g : ReadSoFar format lent t recs num pla recs₁ num₁ pla₁ k at) where
  -- what is lent keeps its length
  pub read_lengths :
      EachArea (λ v old new. length new ≡ length old) lent.views recs recs₁ × (length num₁ ≡ length num) × (length pla₁ ≡ length pla)
  read_lengths =
      let n = g.count in
      let x = g.room in (
        areas_long format once lent.width g.taken lent.views recs recs₁ fits (subst (λ (i : ℕ). Has (lent.width * i) recs) n x.0) g.records,
        ap length g.numbers ∙ laid_length (map (λ o. number_of (counted lent.long o)) g.answers) num (rw length-map (omega arith)),
        ap length g.places ∙ laid_length (map (λ o. place_of (counted lent.long o)) g.answers) pla (rw length-map (omega arith)),
      )

  module _ (more : at < length t) (room : Has (lent.width * k + lent.width) recs × (k < length num) × (k < length pla)) where
    -- a number for each line, one more
    told_more : (f : Outcome A → ℕ) (o : Outcome A) (old new : List ℕ) → new ≡ laid_over (map f g.answers) old → k < length old
        → set new k (f o) ≡ laid_over (map f (g.answers ++ (o ∷ []))) old
    told_more f o old new e l =
        laid_more (map f g.answers) old new k (f o) e (length-map g.answers f ∙ sym g.count) l
        ∙ ap (λ (c : List ℕ). laid_over c old) (sym (map-append f g.answers (o ∷ [])))

    -- one line more: its answer is o, told as r, and `to` is behind it
    pub read_more :
        {b to : ℕ} {recs₂ : List (List ℕ)} {o : Outcome A} {r : Outcome ℕ} → Behind t at to → LineAnswers format (drop at t) o → r ≡ counted lent.long o
        → b ≡ lent.width * k → Puts lent b o recs₁ recs₂
        → ReadSoFar format lent t recs num pla recs₂ (set num₁ k (number_of r)) (set pla₁ k (place_of r)) (k + 1) to
    read_more {b} {to} {recs₂} {o} {r} h a er eb p =
        let n = g.count in
        let x = room in
        record {
          answers = g.answers ++ (o ∷ []);
          taken = taken-join format g.taken (rw h.rest (line_taken format (rw length-drop (omega arith)) h.feed a));
          within = h.within;
          count = simp length-append (omega arith);
          room = (
            has_less (lent.width * (k + 1)) (lent.width * k + lent.width) (rw (add-one, mul-suc) (omega arith)) recs x.0,
            omega arith,
            omega arith,
          );
          records =
              areas_more format once lent.width g.taken lent.views recs recs₁ recs₂ o b fits (eb ∙ ap (λ (i : ℕ). lent.width * i) n)
              (subst (λ (i : ℕ). Has (i + lent.width) recs) (sym eb) x.0) g.records p;
          numbers = ap (λ u. set num₁ k (number_of u)) er ∙ told_more (λ u. number_of (counted lent.long u)) o num num₁ g.numbers x.1;
          places = ap (λ u. set pla₁ k (place_of u)) er ∙ told_more (λ u. place_of (counted lent.long u)) o pla pla₁ g.places x.2;
        }
