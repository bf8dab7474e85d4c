-- The same arcs in another order are the same skeleton. Assumes nothing.
use Rattle.std.specs.Prelude.{◌≡◌, refl, ℕ, ◌-◌, ◌*◌, length}
use Rattle.std.proofs.Common.{⊎_elim, arith}
use mathlib.Core.List.Memᴰ
use mathlib.Core.List.Permᴰ
use mathlib.Core.List.{List, [], ◌∷◌, Memᴰ, Permᴰ}
use Rattle.laws.specs.Perms.{perm_in, perm_length}
use Rattle.skeleton.specs.document.Skeleton.{Arc, arcs, degree, Walk, here, along, Degrees, IsSkeleton}
use Rattle.skeleton.specs.Codes.{neighbours_perm}
use Rattle.skeleton.specs.Walks.{arc_end}

walk_perm : {A B : List Arc} {u v : ℕ} → Permᴰ A B → Walk A u v → Walk B u v
walk_perm π here = here
walk_perm π (along h w) = along (perm_in π h) (walk_perm π w)

-- an end of an even list is the end of an arc
end_arc : (F : List ℕ) (k : ℕ) {v : ℕ} → length F ≡ 2 * k → Memᴰ v F → (u : ℕ) × Memᴰ (u, v) (arcs F)
unfolding arcs
end_arc [] k e m = absurd (Memᴰ.not-nil m)
end_arc (a ∷ []) k e m = absurd (let n : ⊥ = omega arith in n)
end_arc (a ∷ b ∷ F) k {v} e m =
    ⊎_elim (λ z. (b, Memᴰ.tail (Memᴰ.head (rw z refl)))) (λ t. ⊎_elim (λ z. (a, Memᴰ.head (rw z refl))) (λ s. let r = end_arc F (k - 1) (omega arith) s in (r.0, Memᴰ.tail (Memᴰ.tail r.1))) (Memᴰ.cases_cons t)) (Memᴰ.cases_cons m)

pub reordered : {most R N : ℕ} {E F : List ℕ} → length F ≡ length E → Permᴰ (arcs E) (arcs F) → IsSkeleton most R N E → IsSkeleton most R N F
unfolding degree Degrees
reordered {N = N} {E} {F} e π s =
    record {
      tree = record {
        edges = rw e s.tree.edges;
        inside = λ v m. let r = end_arc F (N - 1) (omega (arith, s.tree.edges)) m in s.tree.inside v (arc_end E (perm_in (Permᴰ.symm π) r.1));
        linked = λ v a b. walk_perm π (s.tree.linked v a b);
      };
      few = s.few;
      degrees = λ v a b. rw (← perm_length (neighbours_perm v π)) (s.degrees v a b);
    }
