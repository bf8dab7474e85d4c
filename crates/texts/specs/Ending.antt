-- Where a line ends, as a reader finds it: the first line feed, or none; and the place behind the line. Assumes nothing.
use Rattle.std.specs.Prelude.{◌≡◌, List, ℕ, suc, ◌-◌, ◌≤◌, ◌<◌, length, get_or, take, drop}
use Rattle.std.proofs.Common.{arith, length-drop, take_all}
use Rattle.std.proofs.Math.Seq.{split_at}
use Rattle.texts.specs.document.Bytes.{Free, Cut}

-- i is the place of the first k, or the length where there is none
pub record Until (k : ℕ) (t : List ℕ) (i : ℕ) : Type 0 where
  pub within : i ≤ length t
  pub free : Free k (take i t)
  pub fed : i < length t → get_or t i 0 ≡ k

-- the place of the first line feed
abbrev pub UpTo : List ℕ → ℕ → Type 0
UpTo t i = Until 10 t i

-- to is behind the line of t that begins at `at`
pub record Behind (t : List ℕ) (at to : ℕ) : Type 0 where
  pub end : ℕ
  pub feed : UpTo (drop at t) end
  pub within : to ≤ length t
  pub rest : drop to t ≡ drop (suc end) (drop at t)

-- what `&t[s..]` holds
pub rest_is : (t : List ℕ) (s : ℕ) → take (length t - s) (drop s t) ≡ drop s t
rest_is t s = take_all (length t - s) (drop s t) (simp length-drop (omega arith))

module _ {k : ℕ} {t : List ℕ} {e : ℕ} (u : Until k t e) where
  pub unfed : e ≡ length t → Free k t
  unfed q = let f = u.free in rw (take_all e t (omega arith)) at f

  pub fed_cut : (e ≡ length t → ⊥) → Cut k t (take e t) (drop (suc e) t)
  fed_cut n =
      let l : e < length t = omega (arith, u.within) in
      record { parts = rw (u.fed l) at (split_at t e 0 l); free = u.free }
