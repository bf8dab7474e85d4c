-- A call that writes, behind checks that passed: what it gives is what the whole table gives. Assumes nothing.
use Rattle.std.specs.Prelude.{refl, List, [], ◌∷◌, ◌++◌, ℕ, length}
use Rattle.refusal.specs.document.Table.{Row, Clear, Outcome, Promise, kept, left, Writes, short, Gives}
use Rattle.refusal.specs.Laws.{clear_both, Alike, alike_clear}
use Rattle.refusal.proofs.Laws.{refusal_back, alike_refusal}

-- P and Q are the same results
module _ {P Q : List ℕ → Type 0} (to : (c : List ℕ) → P c → Q c) (back : (c : List ℕ) → Q c → P c) where
  short-alike : (n : ℕ) → Alike (short P n ∷ []) (short Q n ∷ [])
  short-alike n = record { rows = (refl, (λ p. ((λ a. (a.0, to a.0 a.1, a.2)), (λ a. (a.0, back a.0 a.1, a.2)))), tt) }

  writes_to : {old new : List ℕ} {n : ℕ} → Writes P old n new → Writes Q old n new
  writes_to w = record { result = w.result; right = to w.result w.right; count = w.count; lies = w.lies }

-- and none of rs applies
pub behind :
    {rs : List Row} {P Q : List ℕ → Type 0} {old new : List ℕ} {o : Outcome ℕ} → Clear rs
    → ((c : List ℕ) → P c → Q c) → ((c : List ℕ) → Q c → P c) → Gives [] P old new o → Gives rs Q old new o
behind {rs} {P} {Q} {old} {new} k to back g = record { promise = go g.promise }
  where
    go : {o : Outcome ℕ} → Promise (short P (length old) ∷ []) (Writes P old) old new o → Promise (rs ++ (short Q (length old) ∷ [])) (Writes Q old) old new o
    go (kept c w) = kept (clear_both k ((alike_clear (short-alike to back (length old))).0 c)) (writes_to to back w)
    go (left l e) = left (refusal_back k (alike_refusal (short-alike to back (length old)) l)) e

-- the same, where P and Q are one
pub behind-same : {rs : List Row} {P : List ℕ → Type 0} {old new : List ℕ} {o : Outcome ℕ} → Clear rs → Gives [] P old new o → Gives rs P old new o
behind-same k g = behind k (λ c h. h) (λ c h. h) g
