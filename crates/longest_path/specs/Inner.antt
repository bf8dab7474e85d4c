-- A path without as many vertices at either end: how long it is, and that it has the same middles. Assumes nothing.
use Rattle.std.specs.Prelude.{◌≡◌, refl, List, [], ◌∷◌, ◌++◌, ℕ, ◌+◌, ◌-◌, ◌*◌, ◌/◌, ◌≤◌, ◌<◌, length, get_or}
use Rattle.std.proofs.Common.{ap, ◌∙◌, append_assoc, append-nil, arith, length-append, get_or-append-add}
use Rattle.std.proofs.Math.ListN.{get_or-append}
use Rattle.longest_path.specs.document.Path.{IsPath, middle₁, middle₂}
use Rattle.longest_path.specs.Paths.{path_part}

-- p is q without k vertices at either end
pub record Inner (k : ℕ) (q p : List ℕ) : Type 0 where
  pub front : List ℕ
  pub back : List ℕ
  pub is : q ≡ front ++ (p ++ back)
  pub long_front : length front ≡ k
  pub long_back : length back ≡ k

pub inner_whole : (p : List ℕ) → Inner 0 p p
inner_whole p = record { front = []; back = []; is = rw append-nil; long_front = refl; long_back = refl }

module _ {k : ℕ} {q p : List ℕ} where
  pub inner_length : Inner k q p → length q ≡ length p + 2 * k
  inner_length i = omega (arith, simp length-append at (ap length i.is), i.long_front, i.long_back)

  pub inner_path : (N : ℕ) (E : List ℕ) → Inner k q p → IsPath N E q → IsPath N E p
  inner_path N E i h = path_part N E i.front p i.back (rw i.is at h)

  at : (i : Inner k q p) (n m : ℕ) → n ≡ k + m → m < length p → get_or q n 0 ≡ get_or p m 0
  at i n m e h =
      let o : n ≡ length i.front + m = omega (arith, i.long_front) in
      rw (i.is, o, get_or-append-add, get_or-append p i.back 0 m h)

  pub inner_middle₁ : Inner k q p → 1 ≤ length p → middle₁ q ≡ middle₁ p
  unfolding middle₁
  inner_middle₁ i h = at i ((length q - 1) / 2) ((length p - 1) / 2) (omega (arith, inner_length i)) (omega arith)

  pub inner_middle₂ : Inner k q p → 1 ≤ length p → middle₂ q ≡ middle₂ p
  unfolding middle₂
  inner_middle₂ i h = at i (length q / 2) (length p / 2) (omega (arith, inner_length i)) (omega arith)

-- one vertex more at either end
pub inner_more : {k : ℕ} {q p : List ℕ} (a b : ℕ) → Inner k q (a ∷ (p ++ (b ∷ []))) → Inner (k + 1) q p
inner_more {q} {p} a b i = record {
  front = i.front ++ (a ∷ []);
  back = b ∷ i.back;
  is = i.is ∙ simp append_assoc;
  long_front = omega (arith, length-append i.front (a ∷ []), i.long_front);
  long_back = omega (arith, i.long_back);
}
