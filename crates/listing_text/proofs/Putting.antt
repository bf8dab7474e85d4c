-- Bytes that are put behind others, and the window onto them. Assumes nothing.
use mathlib.Core.Path.{◌≡◌, refl, sym, ap, ap₂, ◌∙◌}
use mathlib.Core.List.{List, [], ◌++◌, append-nil}
use Prim.Native.Nat.{ℕ, ◌+◌, ◌-◌, ◌≤◌, ◌<◌, min}
use native.Mathlib.Omega.{arith}
use lib.ListN.{length, take, drop, length-take, length-drop, length-append, drop_of_length-le}
use lib.Seq.{take-nil, take-length}
use borrow.Rule.Slice.PartMut.{mid_of, put_mid}
use Rattle.laws.specs.Laid.{laid_length}
use Rattle.laws.specs.document.Laid.{laid_over}
use Rattle.laws.specs.Laying.{laid-part}
use Rattle.laws.specs.Part.{part, part_length}
use Rattle.listing_text.specs.Window.{Shown, Puts, take_least, window_append}

module _ {l old out : List ℕ} {from skip done : ℕ} (s : Shown l from old out skip done) where
  pub long : length out ≡ length old
  long = ap length s.laid.lies ∙ laid_length _ old (rw length-take (omega arith))

  -- ys is what of p falls into the window
  more :
      (p : List ℕ) {ys out' : List ℕ} {skip' done' : ℕ} → take (length old - done) (drop skip p) ≡ ys
      → out' ≡ laid_over (take (length old) (drop from l) ++ ys) old → done' ≡ done + length ys → skip' ≡ skip - length p
      → Shown (l ++ p) from old out' skip' done'
  more p {ys} e lies count ahead =
      let w : List ℕ = take (length old) (drop from l) in
      let f : take (length old) (drop from (l ++ p)) ≡ w ++ ys =
      window_append (length old) from l p
      ∙ ap₂ (λ (i j : ℕ). w ++ take (length old - i) (drop j p)) (sym s.laid.count) (sym s.ahead)
      ∙ ap (λ (z : List ℕ). w ++ z) e in
      let c = s.laid.count in
      let a = s.ahead in
      record {
        laid = record { count = rw f (rw length-append (omega arith)); lies = rw f lies };
        ahead = rw length-append (omega arith);
      }

  -- nothing of p does
  none : (p : List ℕ) {skip' : ℕ} → take (length old - done) (drop skip p) ≡ [] → skip' ≡ skip - length p → Shown (l ++ p) from old out skip' done
  none p e ahead =
      more p e (s.laid.lies ∙ ap (λ (z : List ℕ). laid_over z old) (sym (append-nil (take (length old) (drop from l))))) (omega arith) ahead

pub passed_over : (p out : List ℕ) (skip done : ℕ) → length p ≤ skip → Puts p out skip done out (skip - length p) done
passed_over p out skip done h l old from s =
    none s p (ap (take (length old - done)) (drop_of_length-le p h) ∙ take-nil (length old - done)) refl

pub full : (p out : List ℕ) (skip done : ℕ) → skip < length p → length out ≤ done → Puts p out skip done out 0 done
full p out skip done h k l old from s =
    let n : length old - done ≡ 0 = omega (arith, long s) in
    none s p (ap (λ (i : ℕ). take i (drop skip p)) n) (omega arith)

copied : (ys d : List ℕ) → take (length ys) ys ++ drop (length ys) d ≡ laid_over ys d
unfolding laid_over
copied ys d = ap (λ (l : List ℕ). l ++ drop (length ys) d) (take-length ys)

pub written :
    (p out new : List ℕ) (skip done end : ℕ) → skip < length p → done < length out → end ≡ min (length p) (skip + (length out - done))
    → new ≡ take (length (part skip end p)) (part skip end p) ++ drop (length (part skip end p)) (mid_of done (length out - done) out)
    → Puts p out skip done (put_mid done (length out - done) out new) 0 (done + (end - skip))
written p out new skip done end h k e q l old from s =
    let ys : List ℕ = part skip end p in
    let rest : List ℕ = mid_of done (length out - done) out in
    let n = long s in
    let c : length ys ≡ end - skip = part_length skip end p (omega arith) in
    more s p (take_least (drop skip p) (length old - done) (end - skip) (rw length-drop (omega arith)))
    (ap (put_mid done (length out - done) out) (q ∙ copied ys rest) ∙ laid-part _ old out ys done s.laid.lies (sym s.laid.count) (omega arith))
    (omega arith) (omega arith)
