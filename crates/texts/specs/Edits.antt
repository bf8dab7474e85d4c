-- A change of one byte, by recursion: `Edit`. Three laws serve all its kinds: it can be taken back, it changes the length or the sum,
-- and `around` says where it falls. Assumes nothing.
use Rattle.std.specs.Prelude.{◌≡◌, refl, List, [], ◌∷◌, ◌++◌, ℕ, length}
use Rattle.std.proofs.Common.{sym, arith}
use Rattle.digit_code.specs.document.Code.{sum}
use Rattle.texts.specs.document.Bytes.{Free}
use Rattle.texts.specs.document.Damage.{Change, replaced, lost, put_in}

-- the byte at the head is replaced, lost or put in, or the change is later
pub data Edit : List ℕ → List ℕ → Type 0 where
  swap : {a b : ℕ} {y : List ℕ} → (a ≡ b → ⊥) → Edit (a ∷ y) (b ∷ y)
  less : {a : ℕ} {y : List ℕ} → Edit (a ∷ y) y
  more : {b : ℕ} {y : List ℕ} → Edit y (b ∷ y)
  later : {a : ℕ} {x y : List ℕ} → Edit x y → Edit (a ∷ x) (a ∷ y)

-- behind any front
edit_behind : (x : List ℕ) {s t : List ℕ} → Edit s t → Edit (x ++ s) (x ++ t)
edit_behind [] e = e
edit_behind (a ∷ x) e = later (edit_behind x e)

pub edit_of : {t u : List ℕ} → Change t u → Edit t u
edit_of (replaced x a b y n p q) = rw (p, q) (edit_behind x (swap n))
edit_of (lost x a y p q) = rw (p, q) (edit_behind x less)
edit_of (put_in x b y p q) = rw (p, q) (edit_behind x more)

pub edit_back : {t u : List ℕ} → Edit t u → Edit u t
edit_back (swap n) = swap (λ e. n (sym e))
edit_back less = more
edit_back more = less
edit_back (later e) = later (edit_back e)

-- a change shows in the length or in the sum
pub edit_shows : {t u : List ℕ} → Edit t u → length t ≡ length u → sum t ≡ sum u → ⊥
unfolding sum
edit_shows (swap {a} {b} n) l s = n (omega arith)
edit_shows less l s = omega arith
edit_shows more l s = omega arith
edit_shows (later e) l s = edit_shows e (omega arith) (omega arith)

-- a change of x ++ (k ∷ y): within x, of k itself, which is lost (m is []) or replaced, or within y
pub data Around (x : List ℕ) (k : ℕ) (y u : List ℕ) : Type 0 where
  before : (x' : List ℕ) → Edit x x' → u ≡ x' ++ (k ∷ y) → Around x k y u
  on : (m : List ℕ) → Free k m → u ≡ x ++ (m ++ y) → Around x k y u
  behind : (y' : List ℕ) → Edit y y' → u ≡ x ++ (k ∷ y') → Around x k y u

around_later : (a : ℕ) {x : List ℕ} {k : ℕ} {y u : List ℕ} → Around x k y u → Around (a ∷ x) k y (a ∷ u)
around_later a (before x' e q) = before (a ∷ x') (later e) (cc)
around_later a (on m f q) = on m f (cc)
around_later a (behind y' e q) = behind y' e (cc)

pub around : (x : List ℕ) (k : ℕ) (y : List ℕ) {u : List ℕ} → Edit (x ++ (k ∷ y)) u → Around x k y u
around [] k y (swap {b} n) = on (b ∷ []) ((λ e. n (sym e)), tt) refl
around [] k y less = on [] tt refl
around [] k y (more {b}) = before (b ∷ []) more refl
around [] k y (later {y = y'} e) = behind y' e refl
around (a ∷ x) k y (swap {b} n) = before (b ∷ x) (swap n) refl
around (a ∷ x) k y less = before x less refl
around (a ∷ x) k y (more {b}) = before (b ∷ a ∷ x) more refl
around (a ∷ x) k y (later e) = around_later a (around x k y e)
