-- Every table that a call on skeletons with named atoms judges by refuses with a number of 1 to 255 and a place below 256, as `Bounds` of the crate `zurkhovel` has it of plain ones.
--
-- In order: an edge list with letters, also of carbon alone; digits with letters, by themselves and of a form; a named line; two lists, and a map between them. Assumes nothing.
use Rattle.std.specs.Prelude.{◌≡◌, refl, true, List, [], ◌∷◌, ◌++◌, map, ℕ, ◌-◌, ◌*◌, ◌≤◌, ◌<◌, length}
use Rattle.std.proofs.Common.{⊎_elim, arith}
use Rattle.refusal.specs.document.Table.{Row, of_list, Clear, row3}
use Rattle.refusal.specs.document.Lists.{lists_rows, maps_rows}
use Rattle.refusal.specs.document.Small.{byte_values, SmallOf, Bounded, BoundedBy}
use Rattle.refusal.specs.Laws.{never, others, at_most, clear_one}
use Rattle.refusal.specs.Bounded.{bounded_rows, at_0}
use Rattle.refusal.proofs.Bounded.{bounded_both}
use Rattle.refusal.proofs.WhichList as Lists
use Rattle.refusal.specs.Lists.{below22, bounded_none, lists_clear}
use Rattle.refusal.proofs.WhichList.{bounded_of}
use Rattle.limits.specs.document.Limits.{size, valence}
use Rattle.digit_code.specs.document.Code.{Larger}
use Rattle.digit_code.specs.Within.{larger_within}
use Rattle.skeleton.specs.document.Atom.{Atom, atom_at}
use Rattle.skeleton.specs.document.AtomMarks.{atoms}
use Rattle.letters.specs.document.Letters.{row2-letters, row21-letters, row14_atom}
use Rattle.letters.specs.Lettered.{so_many}
use Rattle.edge_list.specs.document.Edges.{Edge, row5_edges, row6, row7, row8, row9}
use Rattle.edge_list.specs.document.Letters.{row20-edges, letter_rows, carbon_rows}
use Rattle.edge_list.specs.Letters.{letters_accepted}
use Rattle.form.specs.document.Labelled.{row14ₗ}
use Rattle.lettered_check.specs.document.Lettered.{marks_of, named_digit_rows, lettered_code_rows, lettered_form_rows}
use Rattle.renumber.specs.document.Map.{Entry, row5_map, row19}
use Rattle.renumber.specs.document.Kept.{row18-kept, kept_rows}
use Rattle.renumber.specs.Exactly.{map_sizes}
use Rattle.texts.specs.document.Text.{through, Shaped, Where, of_line, line_rows}
use Rattle.texts.specs.document.Lent.{line_row15}
use Rattle.named_lines.specs.document.Named.{Parts, NamedFormed, carried, lines_of_named, named_table, named_lent}
use Rattle.named.specs.document.Same.{named_list_rows}
use Rattle.named.specs.Accepted.{skeleton_of}

-- ---- edge lists

-- 2, 3, 5 and 21 of an edge list with letters
abbrev list_sizes : ℕ → ℕ → List ℕ → List ℕ → List Row
list_sizes most N E s = row2-letters s ∷ row3 most N ∷ row5_edges N E ∷ row21-letters N s ∷ []

-- where these do not apply, an edge has a number below 64
at_edge : {most : ℕ} → most ≤ size → (N : ℕ) (E s : List ℕ) → Clear (list_sizes most N E s) → (p : ℕ) → Edge E p → p < byte_values
at_edge h N E s k p (a, b) = omega (arith, so_many (2 * (N - 1)) E (never (others (others k))), at_most (others k))

module _ {most : ℕ} (h : most ≤ size) where
  pub letters_bounded : (N : ℕ) (E : List ℕ) (r : ℕ) (s : List ℕ) → Bounded (letter_rows most valence N E r s)
  letters_bounded N E r s =
      bounded_both (list_sizes most N E s) (row6 N E r ∷ row7 E ∷ row8 E ∷ row9 valence E ∷ row20-edges s E ∷ []) (bounded_rows refl (at_0, (at_0, (at_0, (at_0, tt))))) (λ k.
      let at = at_edge h N E s k in
      bounded_rows refl ((λ p a. ⊎_elim (λ z. at_0 p z) (λ z. at p z.0) a), ((λ p a. at p a.0), ((λ p a. at p a.0), ((λ p a. at p a.0), ((λ p a. at p a.0), tt))))))

  pub carbon_bounded : (N : ℕ) (E : List ℕ) (r : ℕ) (s : List ℕ) → Bounded (carbon_rows most valence N E r s)
  carbon_bounded N E r s =
      bounded_both (letter_rows most valence N E r s) (row14_atom s ∷ []) (letters_bounded N E r s)
      (λ k. bounded_rows refl ((λ p a. omega (arith, a.1, ((letters_accepted most valence N E r s).0 k).2.many, at_most (others k))), tt))

-- ---- digits

-- there is at most a mark for each digit
marks_few : (ds ls : List ℕ) → length (marks_of ds ls) ≤ length ds
unfolding marks_of
marks_few [] ls = omega arith
marks_few (d ∷ ds) [] = omega arith
marks_few (d ∷ ds) (b ∷ ls) = omega (arith, marks_few ds ls)

-- where row 13 applies there is a digit
larger-digit : (ds ls : List ℕ) (p : ℕ) → Larger atoms.arity (marks_of ds ls) p → p ≤ length ds
larger-digit ds ls p a = omega (arith, larger_within atoms.arity (marks_of ds ls) p a, marks_few ds ls)

pub code_bounded : (ds ls : List ℕ) → Bounded (lettered_code_rows size valence ds ls)
code_bounded ds ls =
    bounded_both (row2-letters ls ∷ row3 size (length ds) ∷ row21-letters (length ds) ls ∷ []) (named_digit_rows valence ds (marks_of ds ls)) (bounded_rows refl (at_0, (at_0, (at_0, tt)))) (λ k.
    let h = at_most (others k) in
    bounded_rows refl (
      (λ p a. omega (arith, a.1)),
      ((λ p a. omega (arith, a.1, marks_few ds ls)), ((λ p a. omega (arith, a.0)), ((λ p a. omega (arith, a.0)), ((λ p a. omega (arith, larger-digit ds ls p a)), tt)))),
    ))

pub form_bounded : (form : ℕ → List ℕ → (ℕ → Atom) → List ℕ → Type 0) (ds ls : List ℕ) → Bounded (lettered_form_rows form size valence ds ls)
form_bounded form ds ls =
    bounded_both (lettered_code_rows size valence ds ls) (row14ₗ atoms form (marks_of ds ls) ∷ []) (code_bounded ds ls) (λ k. bounded_rows refl (at_0, tt))

-- ---- a named line

-- what is refused of it before its digits are judged: 1, 2, 3, 5 and 21
abbrev pub named_front : List ℕ → List Row
named_front t = line_rows (lines_of_named size []) t

-- the rows of its digits with their letters, and 15
abbrev pub behind_named : List ℕ → List (List ℕ) → List Row
behind_named t olds = map (of_line NamedFormed t) (map (through carried) named_table) ++ (line_row15 (lines_of_named size named_table) (named_lent size) t olds ∷ [])

-- where those before do not apply, it has at most 64 digits
module _ (t : List ℕ) (k : Clear (named_front t)) where
  pub named-digits : (q : Parts) → Shaped NamedFormed t q → length q.front.digits ≤ size
  named-digits q s =
      let e = so_many q.front.count q.front.digits (λ p a. never (others (others (others k))) p (record { parts = q; shape = s; holds = a })) in
      omega (arith, e, at_most (clear_one {r = row3 size q.front.count} (λ p a. never (others (others k)) p (record { parts = q; shape = s; holds = a }))))

  -- so a row about them applies there too
  at_named : {P : ℕ → Parts → Type 0} → ((p : ℕ) (q : Parts) → P p q → p ≤ length q.front.digits) → (p : ℕ) → Where NamedFormed t (P p) → p < byte_values
  at_named f p w = omega (arith, f p w.parts w.holds, named-digits w.parts w.shape)

pub line_bounded : (t : List ℕ) (olds : List (List ℕ)) → Bounded (named_front t ++ behind_named t olds)
line_bounded t olds =
    bounded_both (named_front t) (behind_named t olds)
    (bounded_rows refl (at_0, (at_0, ((λ p w. at_0 p w.holds), ((λ p w. at_0 p w.holds), ((λ p w. at_0 p w.holds), tt)))))) (λ k.
    bounded_rows refl (
      at_named t k (λ p q a. a.1),
      (
        at_named t k (λ p q a. omega (arith, a.1, marks_few q.front.digits q.letters)),
        (
          at_named t k (λ p q a. a.0),
          (
            at_named t k (λ p q a. omega (arith, a.0)),
            (at_named t k (λ p q a. larger-digit q.front.digits q.letters p a), (at_named t k (λ p q a. omega (arith, a.0)), (at_named t k (λ p q a. omega (arith, a.0)), tt))),
          ),
        ),
      ),
    ))

-- ---- two lists, and a map

pub lists_bounded : (most : ℕ) → 2 ≤ most → (N : ℕ) (E s : List ℕ) (P : ℕ) (F u : List ℕ) → BoundedBy (SmallOf most) (lists_rows [] (named_list_rows N E s) (named_list_rows P F u))
lists_bounded most h N E s P F u =
    Lists.bounded_lists most [] (named_list_rows N E s) (named_list_rows P F u) h (bounded_none most) refl refl (letters_bounded (omega arith) N E 1 s) (letters_bounded (omega arith) P F 1 u)

-- rs: the rows of the map
pub maps_bounded :
    (N : ℕ) (E s : List ℕ) (P : ℕ) (F u : List ℕ) (rs : List Row) → below22 rs ≡ true → (Clear (named_list_rows N E s) → Bounded rs)
    → BoundedBy (SmallOf 3) (maps_rows [] (named_list_rows N E s) (named_list_rows P F u) rs)
maps_bounded N E s P F u rs t b =
    bounded_both (lists_rows [] (named_list_rows N E s) (named_list_rows P F u)) (of_list 3 rs) (lists_bounded 3 (omega arith) N E s P F u)
    (λ c. bounded_of 3 3 rs (omega arith, omega arith) t (b ((lists_clear [] (named_list_rows N E s) (named_list_rows P F u)).0 c).1))

pub kept_bounded : (N : ℕ) (E s : List ℕ) (P : ℕ) (F u w : List ℕ) → Clear (named_list_rows N E s) → Bounded (kept_rows (atom_at s) (atom_at u) N E P F w)
kept_bounded N E s P F u w k =
    bounded_both (row5_map N P w ∷ []) (row18-kept (atom_at s) (atom_at u) N w ∷ row19 E F w ∷ []) (bounded_rows refl (at_0, tt)) (λ c.
    let x = skeleton_of N E 1 s k in
    let l = (map_sizes N P w c).1 in
    let at : (p : ℕ) → Entry w p → p < byte_values = λ p (a, b). omega (arith, b, x.few) in
    bounded_rows refl ((λ p a. ⊎_elim (λ z. at p z.0) (λ z. at p z.0) a), ((λ p a. omega (arith, a.0.1, x.few, x.tree.edges)), tt)))
