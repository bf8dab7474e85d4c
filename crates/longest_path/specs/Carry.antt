-- A renumbering carries paths to paths, longest paths to longest paths, and the centre to the centre. Assumes nothing.
use Rattle.std.specs.Prelude.{◌≡◌, refl, List, [], ◌∷◌, map, ℕ, zero, suc, ◌-◌, ◌/◌, ◌≤◌, ◌<◌, length, get_or}
use Rattle.std.proofs.Common.{ap, ◌∙◌, subst, arith}
use mathlib.Core.List.Memᴰ
use Rattle.std.proofs.Math.ListN.{length-map}
use Rattle.laws.specs.Perms.{perm_in}
use Rattle.laws.specs.Places.{once_map}
use Rattle.skeleton.specs.document.Skeleton.{arcs, IsTree, Renumbering}
use Rattle.skeleton.specs.Walks.{turn, arc_end}
use Rattle.skeleton.specs.Renumber.{carry, Within, back, one_to_one}
use Rattle.longest_path.specs.document.Path.{Joined, IsPath, IsLongest, middle₁, middle₂, IsCentre}
use Rattle.longest_path.specs.Centre.{longest_some}

get_or-carried : (g : ℕ → ℕ) (p : List ℕ) (n : ℕ) → n < length p → get_or (map g p) n 0 ≡ g (get_or p n 0)
get_or-carried g [] n l = let z : ⊥ = omega arith in absurd z
get_or-carried g (x ∷ p) zero l = refl
get_or-carried g (x ∷ p) (suc n) l = get_or-carried g p n (omega arith)

module _ (g : ℕ → ℕ) (p : List ℕ) (s : 1 ≤ length p) where
  carry-middle₁ : middle₁ (map g p) ≡ g (middle₁ p)
  unfolding middle₁
  carry-middle₁ = rw length-map (get_or-carried g p ((length p - 1) / 2) (omega arith))

  carry-middle₂ : middle₂ (map g p) ≡ g (middle₂ p)
  unfolding middle₂
  carry-middle₂ = rw length-map (get_or-carried g p (length p / 2) (omega arith))

module _ (N : ℕ) (E F : List ℕ) (ρ : Renumbering N E F) where
  carry-joined : (p : List ℕ) → Joined (arcs E) p → Joined (arcs F) (map ρ.to p)
  carry-joined [] j = tt
  carry-joined (u ∷ []) j = tt
  carry-joined (u ∷ v ∷ p) j = (perm_in ρ.carries (Memᴰ.map (carry ρ.to) j.0), carry-joined (v ∷ p) j.1)

  carry_path : (p : List ℕ) → IsPath N E p → IsPath N F (map ρ.to p)
  carry_path p h = record {
    inside = λ v m.
        let (w, k, e) = Memᴰ.of_map ρ.to p m in
        subst (λ u. (1 ≤ u) × (u ≤ N)) e (ρ.to_in w (h.inside w k).0 (h.inside w k).1);
    joined = carry-joined p h.joined;
    once = once_map ρ.to p (λ x y m k e. one_to_one N E F ρ x y (h.inside x m) (h.inside y k) e) h.once;
  }

module _ (N : ℕ) (E F : List ℕ) (t : IsTree N E) (ρ : Renumbering N E F) where
  tree_within : Within N (arcs E)
  tree_within e m = (t.inside e.0 (arc_end E (turn E m)), t.inside e.1 (arc_end E m))

  carry-longest : (p : List ℕ) → IsLongest N E p → IsLongest N F (map ρ.to p)
  carry-longest p h = record {
    path = carry_path N E F ρ p h.path;
    longest = λ q k.
        let σ : Renumbering N F E = back N E F tree_within ρ in
        omega (arith, length-map p ρ.to, length-map q σ.to, h.longest (map σ.to q) (carry_path N F E σ q k));
  }

  pub carry-centre : (u v : ℕ) → IsCentre N E u v → IsCentre N F (ρ.to u) (ρ.to v)
  carry-centre u v c =
      let s : 1 ≤ length c.path = longest_some N E c.path t c.longest in
      record {
        path = map ρ.to c.path;
        longest = carry-longest c.path c.longest;
        first = carry-middle₁ ρ.to c.path s ∙ ap ρ.to c.first;
        second = carry-middle₂ ρ.to c.path s ∙ ap ρ.to c.second;
      }
