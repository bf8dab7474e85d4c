-- One byte of a clean text is changed: by induction on its codes, and by where the change falls about the first line feed. The piece or
-- pieces that stand in the place of one line or two are answered as `look` says; the rest is clean. Assumes nothing.
use Rattle.std.specs.Prelude.{◌≡◌, refl, ℕ}
use Rattle.std.proofs.Math.Path.{sym, ap}
use Rattle.std.proofs.Common.{◌∙◌}
use mathlib.Core.List.{List, [], ◌∷◌, ◌++◌, map, append_assoc, append-nil}
use native.Mathlib.Omega.{arith}
use Rattle.std.proofs.Math.ListN.{length, length-append}
use Rattle.refusal.specs.document.Table.{Outcome, gives}
use Rattle.texts.specs.document.Bytes.{Other, Free, Cut}
use Rattle.texts.specs.document.Text.{Format, text_of, TextAnswers}
use Rattle.texts.specs.document.Damage.{Among, end, keep, skip, records, refusals}
use Rattle.texts.specs.Damage.{Robust, Accept, Accepted}
use Rattle.texts.specs.Sound.{Sound}
use Rattle.texts.specs.Records.{records-before, refusals-before}
use Rattle.texts.specs.Cuts.{not_free, Seek, nowhere, found, seek}
use Rattle.laws.specs.Each.{each-join, each_right}
use Rattle.texts.specs.Edits.{Edit, more, edit_back, Around, before, on, behind, around}
use Rattle.texts.specs.Answered.{Look, good, bad, look, same_record}
use Rattle.texts.specs.Texts.{cut_line, first, last, given, reads_back}

-- ---- answers before a clean rest

among_before : {A : Type 0} (cs : List A) {ds es : List A} → Among ds es → Among (ds ++ cs) (es ++ cs)
among_before [] end = end
among_before (c ∷ cs) end = keep (among_before cs end)
among_before cs (keep a) = keep (among_before cs a)
among_before cs (skip a) = skip (among_before cs a)

-- what is robust stays so before a clean rest
robust_before : {A : Type 0} (cs : List A) {ds : List A} {os : List (Outcome A)} → Robust ds os → Robust (ds ++ cs) (os ++ map gives cs)
robust_before cs {ds} {os} r = record {
  refuses = omega (arith, r.refuses, refusals-before os (map gives cs));
  ordered = rw (records-before os cs) (among_before cs r.ordered);
  loses = rw (records-before os cs) (simp length-append (omega (arith, r.loses)));
}

-- and behind a line that is read
robust_behind : {A : Type 0} (c : A) {ds : List A} {os : List (Outcome A)} → Robust ds os → Robust (c ∷ ds) (gives c ∷ os)
unfolding records refusals
robust_behind c r = record { refuses = r.refuses; ordered = keep r.ordered; loses = omega (arith, r.loses) }

-- ---- the damaged piece or pieces

module _ {A F : Type 0} (format : Format A F) (sound : Sound format) where
  -- a line that begins with a line is that line
  front-piece : {c d : A} (z : List ℕ) → Accept format c → Accept format d → format.body d ++ z ≡ format.body c → (d ≡ c) × (z ≡ [])
  front-piece {c} {d} z a h e =
      let n = sound.starts d c z h a e in
      (same_record format sound.reads h a (sym (append-nil (format.body d)) ∙ ap (λ (x : List ℕ). format.body d ++ x) (sym n) ∙ e), n)

  -- and so is one that ends with it
  back-piece : {c d : A} (x : List ℕ) → Accept format c → Accept format d → x ++ format.body d ≡ format.body c → d ≡ c
  back-piece {c} {d} x a h e =
      let n = sound.ends d c x h a e in
      same_record format sound.reads h a (ap (λ (y : List ℕ). y ++ format.body d) (sym n) ∙ e)

  -- nothing alone is no line
  no_line_here : (b : List ℕ) {o : Outcome A} → length b ≡ 0 → Look format b o → Robust [] (o ∷ [])
  unfolding records refusals
  no_line_here b l (good {c} e a) = let h = ap length e in absurd (omega (arith, sound.some c a))
  no_line_here b l (bad n) = record { refuses = omega arith; ordered = end; loses = omega arith }

  -- one piece in the place of one line
  one_piece : (c : A) (b : List ℕ) {o : Outcome A} → Accept format c → Edit (format.body c) b → Look format b o → Robust (c ∷ []) (o ∷ [])
  unfolding records refusals
  one_piece c b a e (good {c = d} q h) = absurd (sound.apart c d a h (rw q at e))
  one_piece c b a e (bad n) = record { refuses = omega arith; ordered = skip end; loses = omega arith }

  -- one piece in the place of two lines
  merged :
      (c d : A) (m : List ℕ) {o : Outcome A} → Accept format c → Accept format d → Look format (format.body c ++ (m ++ format.body d)) o
      → Robust (c ∷ d ∷ []) (o ∷ [])
  unfolding records refusals
  merged c d m a h (good {c = e} q k) =
      let l = simp length-append at (ap length (sound.starts c e (m ++ format.body d) a k q)) in
      absurd (omega (arith, sound.some d h))
  merged c d m a h (bad n) = record { refuses = omega arith; ordered = skip (skip end); loses = omega arith }

  -- two pieces in the place of one line, which lack at most what stood between
  two_pieces :
      (c : A) (b m s : List ℕ) {o p : Outcome A} → Accept format c → format.body c ≡ b ++ (m ++ s) → Look format b o → Look format s p
      → Robust (c ∷ []) (o ∷ p ∷ [])
  unfolding records refusals
  two_pieces c b m s a e (good {c = d} q h) (good {c = d'} q' h') =
      let r = (front-piece (m ++ s) a h (ap (λ (x : List ℕ). x ++ (m ++ s)) (sym q) ∙ sym e)).1 in
      let l = simp length-append at (ap length r) in
      let n = ap length q' in
      absurd (omega (arith, sound.some d' h'))
  two_pieces c b m s a e (good {c = d} q h) (bad n) =
      let r = (front-piece (m ++ s) a h (ap (λ (x : List ℕ). x ++ (m ++ s)) (sym q) ∙ sym e)).0 in
      record { refuses = omega arith; ordered = rw r (keep end); loses = omega arith }
  two_pieces c b m s a e (bad n) (good {c = d} q h) =
      let r = back-piece (b ++ m) a h (append_assoc b m (format.body d) ∙ ap (λ (x : List ℕ). b ++ (m ++ x)) (sym q) ∙ sym e) in
      record { refuses = omega arith; ordered = rw r (keep end); loses = omega arith }
  two_pieces c b m s a e (bad n) (bad n') = record { refuses = omega arith; ordered = skip end; loses = omega arith }

  -- ---- the induction

  -- whatever u is answered is robust
  abbrev Told : List A → List ℕ → Type 0
  Told cs u = (os : List (Outcome A)) → TextAnswers format u os → Robust cs os

  -- a piece, then clean lines
  then_clean :
      (ds cs : List A) {u b : List ℕ} → Accepted format cs → Cut 10 u b (text_of format.body cs)
      → ((o : Outcome A) → Look format b o → Robust ds (o ∷ [])) → Told (ds ++ cs) u
  then_clean ds cs a u piece os h =
      let f = first format u h in
      let e = f.parts ∙ ap (λ ps. f.answer ∷ ps) (reads_back format sound cs a refl f.text) in
      rw e (robust_before cs (piece f.answer (look format sound.reads u f.line)))

  alone : (b : ℕ) → Told [] (b ∷ [])
  unfolding text_of records refusals
  alone b os h = go (seek 10 (b ∷ []))
    where
      go : Seek 10 (b ∷ []) → Robust [] os
      go (nowhere f) =
          rw (last format (omega arith) f h).only (record { refuses = omega arith; ordered = end; loses = omega arith })
      go (found x [] c) =
          let l = simp length-append at (ap length c.parts) in
          then_clean [] [] tt c (λ o k. no_line_here x (omega arith) k) os h
      go (found x (a ∷ rest) c) = let l = simp length-append at (ap length c.parts) in absurd (omega arith)

  -- a change within the line of c
  within : (c : A) (cs : List A) {u x : List ℕ} → Accept format c → Accepted format cs → Edit (format.body c) x → u ≡ x ++ (10 ∷ text_of format.body cs) → Told (c ∷ cs) u
  within c cs {u} {x} a acc e q = go (seek 10 x)
    where
      split : (b s : List ℕ) → Cut 10 x b s → Around b 10 s (format.body c) → Told (c ∷ cs) u
      split b s k (before b' f r) os h = absurd (not_free 10 b' s (rw r at (sound.free c a)))
      split b s k (behind s' f r) os h = absurd (not_free 10 b s' (rw r at (sound.free c a)))
      split b s k (on m f r) os h =
          let free = each_right (Other 10) m s (each_right (Other 10) b (m ++ s) (rw r at (sound.free c a))) in
          let cut : Cut 10 u b (s ++ (10 ∷ text_of format.body cs)) =
          record { parts = q ∙ ap (λ (z : List ℕ). z ++ (10 ∷ text_of format.body cs)) k.parts ∙ append_assoc b (10 ∷ s) (10 ∷ text_of format.body cs); free = k.free } in
          let cut' : Cut 10 (s ++ (10 ∷ text_of format.body cs)) s (text_of format.body cs) = record { parts = refl; free = free } in
          let f₁ = first format cut h in
          let f₂ = first format cut' f₁.text in
          let e' = reads_back format sound cs acc refl f₂.text in
          let w = two_pieces c b m s a r (look format sound.reads cut f₁.line) (look format sound.reads cut' f₂.line) in
          let z : os ≡ f₁.answer ∷ f₂.answer ∷ map gives cs = cc in
          rw z (robust_before cs w)

      go : Seek 10 x → Told (c ∷ cs) u
      go (nowhere f) = then_clean (c ∷ []) cs acc (record { parts = q; free = f }) (λ o l. one_piece c x a e l)
      go (found b s k) = split b s k (around b 10 s (edit_back (rw k.parts at e)))

  -- the line feed of c's line is lost or replaced
  joined : (c : A) (cs : List A) (m : List ℕ) {u : List ℕ} → Accept format c → Accepted format cs → Free 10 m → u ≡ format.body c ++ (m ++ text_of format.body cs) → Told (c ∷ cs) u
  unfolding records refusals text_of
  joined c [] m a acc f q os h =
      let free = each-join (Other 10) (format.body c) (m ++ []) (sound.free c a) (each-join (Other 10) m [] f tt) in
      let l = simp length-append at (ap length q) in
      rw (last format (omega (arith, sound.some c a)) (rw q free) h).only
      (record { refuses = omega arith; ordered = skip end; loses = omega arith })
  joined c (d ∷ cs) m {u} a acc f q os h = then_clean (c ∷ d ∷ []) cs acc.1 cut (λ o l. merged c d m a acc.0 l) os h
    where
      rest : Cut 10 (text_of format.body (d ∷ cs)) (format.body d) (text_of format.body cs)
      rest = cut_line format sound d cs acc.0

      cut : Cut 10 u (format.body c ++ (m ++ format.body d)) (text_of format.body cs)
      cut = record {
        parts =
            q ∙ ap (λ (z : List ℕ). format.body c ++ (m ++ z)) rest.parts ∙ simp append_assoc;
        free = each-join (Other 10) (format.body c) (m ++ format.body d) (sound.free c a) (each-join (Other 10) m (format.body d) f rest.free);
      }

  pub one_edit : (cs : List A) {u : List ℕ} → Accepted format cs → Edit (text_of format.body cs) u → Told cs u
  unfolding text_of
  one_edit [] a (more {b}) = alone b
  one_edit (c ∷ cs) {u} a e = go (around (format.body c) 10 (text_of format.body cs) (rw cut.parts at e)) (λ v f. one_edit cs {u = v} a.1 f)
    where
      cut : Cut 10 (text_of format.body (c ∷ cs)) (format.body c) (text_of format.body cs)
      cut = cut_line format sound c cs a.0

      go : Around (format.body c) 10 (text_of format.body cs) u → ((v : List ℕ) → Edit (text_of format.body cs) v → Told cs v) → Told (c ∷ cs) u
      go (before x f q) k os h = within c cs a.0 a.1 f q os h
      go (on m f q) k os h = joined c cs m a.0 a.1 f q os h
      go (behind y f q) k os h =
          let g = given format sound a.0 (record { parts = q; free = cut.free }) h in
          rw g.parts (robust_behind c (k y f g.others g.text))
