-- Document 01: "A numbering by code is always physical". What a digit code decodes to is what its list of parents, as a CAM, makes.
-- Assumes nothing.
use Rattle.std.specs.Prelude.{◌≡◌, refl, ℕ, zero, suc, ◌-◌, ◌≤◌, length, replicate}
use Rattle.std.proofs.Common.{ap, ⊎_elim, arith}
use mathlib.Core.List.Memᴰ
use mathlib.Core.List.{List, [], ◌∷◌, ◌++◌, Memᴰ}
use Rattle.digit_code.specs.document.Code.{edges_from, decode}
use Rattle.digit_code.specs.Ends.{Ends}
use Rattle.skeleton.specs.Theorems.{decoded_tree}
use Rattle.adjacency.specs.document.Adjacency.{Physical, entry_edges}
use Rattle.adjacency.specs.Entries.{Entries, none, more, cam-physical}
use Rattle.adjacency.specs.Made.{made_length}

-- the edges E are those of entries that begin with number i
record Made (i : ℕ) (E : List ℕ) : Type 0 where
  entries : List ℕ
  right : Entries i entries
  are : E ≡ entry_edges i entries

in_replicate : (k j w : ℕ) → Memᴰ w (replicate k j) → w ≡ j
in_replicate zero j w m = absurd (Memᴰ.not-nil m)
in_replicate (suc k) j w m = ⊎_elim (λ e. e) (in_replicate k j w) (Memᴰ.cases_cons m)

made-from : (W : List ℕ) (i : ℕ) (ds : List ℕ) → ((w : ℕ) → Memᴰ w W → (1 ≤ w) × (w ≤ i)) → Made i (edges_from W (suc i) ds)
unfolding edges_from entry_edges
made-from W i [] h = record { entries = []; right = none; are = refl }
made-from [] i (k ∷ ds) h = record { entries = []; right = none; are = refl }
made-from (p ∷ W) i (k ∷ ds) h =
    let m = made-from (replicate k (suc i) ++ W) (suc i) ds inside in
    let r = h p (Memᴰ.head refl) in
    record { entries = p ∷ m.entries; right = more r.0 r.1 m.right; are = ap (λ l. p ∷ suc i ∷ l) m.are }
  where
    inside : (w : ℕ) → Memᴰ w (replicate k (suc i) ++ W) → (1 ≤ w) × (w ≤ suc i)
    inside w m =
        ⊎_elim (λ a. let e = in_replicate k (suc i) w a in let z : (1 ≤ w) × (w ≤ suc i) = omega arith in z) (λ b. let r = h w (Memᴰ.tail b) in (r.0, omega (arith, r.1))) (Memᴰ.append_cases (replicate k (suc i)) m)

made_code : (d : List ℕ) → Made 1 (decode d)
unfolding decode entry_edges
made_code [] = record { entries = []; right = none; are = refl }
made_code (k ∷ ds) = made-from (replicate k 1) 1 ds (λ w m. let e = in_replicate k 1 w m in omega arith)

-- the numbering of a code is physical
pub code-physical : (d : List ℕ) → Ends 1 d → Physical (length d) (decode d)
code-physical d h =
    let m = made_code d in
    let t = decoded_tree d h in
    let l : length m.entries ≡ length d - 1 = omega (arith, made_length 1 m.entries, ap length m.are, t.edges) in
    rw m.are (cam-physical (length d) m.entries l m.right)
