-- The codes as they are written: rooted at a vertex, and the larger of two; the digits over the marks. `at v` is the code at the root v, and
-- `standing v` has the vertices of it.
--
-- In order: the codes of the roots, and one of them written; a code written over another; the digits of marks; the centred code and its numbering.
-- Assumes nothing.
use mathlib.Core.Path.{◌≡◌, refl, sym, ap, ◌∙◌, subst}
use mathlib.Core.Bool.{Bool, true, false, true≢false, false≢true}
use mathlib.Core.List.{List, ◌++◌, map}
use Prim.Native.Nat.{ℕ, ◌+◌, ◌≤◌}
use lib.ListN.{length, get_or, take, drop, replicate, length-append, length-map, length-take}
use native.Mathlib.Nat.{le_refl}
use native.Mathlib.Omega.{arith}
use lib.Seq.{take_all, drop_at, take-length, take-append-le, get_or-append-add, get_or-drop}
use Rattle.laws.specs.document.Order.{◌≽◌}
use Rattle.laws.specs.Sorting.{refl≽, below≽}
use Rattle.laws.specs.document.Laid.{laid_over}
use Rattle.laws.specs.Laying.{Mapped, laid-front}
use Rattle.refusal.specs.document.Table.{Writes}
use Rattle.refusal.specs.Giving.{written}
use Rattle.limits.specs.document.Limits.{size}
use Rattle.skeleton.specs.document.Skeleton.{IsTree, rooted}
use Rattle.skeleton.specs.document.Label.{rootedₗ, digits}
use Rattle.skeleton.specs.document.Atom.{Atom}
use Rattle.skeleton.specs.document.AtomMarks.{atoms}
use Rattle.skeleton.specs.Carbon.{carbon, carbon_mark}
use Rattle.skeleton.proofs.Carbon.{carbon-digits, all-carbon-digits}
use Rattle.skeleton.specs.General.{code_length}
use Rattle.letters.specs.Named.{Ranked, carbon-named}
use Rattle.numbering.proofs.Rewritten.{order-carbon}
use Rattle.longest_path.specs.document.Path.{IsCentre}
use Rattle.longest_path.specs.Theorems.{centre_inside}
use Rattle.form.specs.document.Form.{IsNTuple, IsCentred}
use Rattle.form.specs.document.Labelled.{IsNTupleₗ}
use Rattle.form.specs.One.{at_first, at_second}
use Rattle.form.specs.Root.{root-first, root-second}
use Rattle.form.specs.Rewritten.{n_tuple-carbon, centred-carbon, root-carbon}
use Rattle.form_coder.specs.Raised.{Raised, kept, raised}
use Rattle.form_coder.specs.Numbered.{NumberedBy, Numbered, Numberedₗ}

-- ---- the codes of the roots

-- each has a number for each vertex
pub record Codes (n : ℕ) (at : ℕ → List ℕ) : Type 0 where
  pub long : (v : ℕ) → 1 ≤ v → v ≤ n → length (at v) ≡ n

pub codes_of : {n : ℕ} {E : List ℕ} (label : ℕ → Atom) → IsTree n E → Codes n (rootedₗ atoms label n E)
codes_of {n} {E} label t = record { long = λ v h k. code_length atoms n E v label t h k }

-- the code at v, written over rest
module _ {n : ℕ} {at : ℕ → List ℕ} (a : Codes n at) {v : ℕ} (h : 1 ≤ v) (k : v ≤ n) (rest : List ℕ) {new : List ℕ} (l : new ≡ laid_over (at v) rest) where
  pub rooted-written : Writes (λ c. c ≡ at v) rest n new
  rooted-written = record { result = at v; right = refl; count = sym (a.long v h k); lies = l }

  pub front : take n new ≡ at v
  front = laid-front (at v) rest new n l (a.long v h k)

  pub front-room : n ≤ length new
  unfolding laid_over
  front-room = rw (l, length-append) (omega (arith, a.long v h k))

-- ---- a code over another

-- a list that is copied to the start of another
pub copied : (c old new : List ℕ) → new ≡ take (length c) c ++ drop (length c) old → new ≡ laid_over c old
unfolding laid_over
copied c old new e = e ∙ ap (λ (l : List ℕ). l ++ drop (length c) old) (take_all (length c) c (le_refl (length c)))

-- what is written over as many is gone
laid-over : (a b old : List ℕ) → length a ≡ length b → laid_over b (laid_over a old) ≡ laid_over b old
unfolding laid_over
laid-over a b old e = ap (λ (r : List ℕ). b ++ r) (drop_at a (drop (length a) old) (length b) e ∙ ap (λ (n : ℕ). drop n old) e)

-- a loop that maps a list in its place: what is not passed yet is as it was
pub mapped-behind : {f : ℕ → ℕ} {t old out : List ℕ} {i : ℕ} → Mapped f t old out i → get_or out i 0 ≡ get_or old i 0
unfolding laid_over
mapped-behind {f} {t} {old} {out} {i} m =
    let c : List ℕ = map f (take i t) in
    let n : length c ≡ i = simp (length-map, length-take) (omega (arith, m.within)) in
    let e : i ≡ length c + 0 = omega arith in
    let z : length c + 0 ≡ i = omega arith in
    rw m.lies (ap (λ j. get_or (c ++ drop (length c) old) j 0) e ∙ get_or-append-add c (drop (length c) old) 0 0 ∙ get_or-drop (length c) old 0 0 ∙ ap (λ j. get_or old j 0) z)

-- ---- the digits over the marks

pub digits-written :
    {P Q : List ℕ → Type 0} {old new last : List ℕ} {n : ℕ} → ((c : List ℕ) → P c → Q (digits atoms c)) → Writes P old n new
    → last ≡ laid_over (digits atoms (take n new)) new → Writes Q old n last
unfolding digits
digits-written {old = old} {new = new} f w e =
    let c : List ℕ = w.result in
    let n : length (map atoms.arity c) ≡ length c = length-map c atoms.arity in
    record {
      result = digits atoms c;
      right = f c w.right;
      count = w.count ∙ sym n;
      lies = e ∙ ap (λ l. laid_over (digits atoms l) new) (written w) ∙ ap (laid_over (digits atoms c)) w.lies ∙ laid-over c (digits atoms c) old (sym n);
    }

-- where marks are copied and the copy's digits are read, each mark has its digit beside it
pub digits_beside :
    {n : ℕ} (marks old : List ℕ) {copy last : List ℕ} → n ≡ length (take n marks) → copy ≡ laid_over (take n marks) old → last ≡ laid_over (digits atoms (take n copy)) copy
    → take n last ≡ digits atoms (take n marks)
unfolding digits
digits_beside {n} marks old {copy} {last} l e f =
    let q : take n copy ≡ take n marks = laid-front (take n marks) old copy n e (sym l) in
    laid-front (digits atoms (take n copy)) copy last n f (length-map (take n copy) atoms.arity ∙ ap length q ∙ sym l) ∙ ap (digits atoms) q

-- where every vertex is carbon, the atoms are zeros
pub all-ranked : (n : ℕ) → n ≤ size → Ranked n (replicate size 0)
all-ranked n h = record { label = carbon; named = carbon-named n h }

-- and the digits are of the form
module _ (F : List ℕ → Type 0) {c : List ℕ} where
  told : (d : List ℕ) × (c ≡ map carbon_mark d) × F d → F (digits atoms c)
  told (d, e, x) = subst F (sym (ap (digits atoms) e ∙ carbon-digits d)) x

module _ (N : ℕ) (E : List ℕ) where
  pub rooted-told : (r : ℕ) (c : List ℕ) → c ≡ rootedₗ atoms carbon N E r → digits atoms c ≡ rooted N E r
  rooted-told r c e = ap (digits atoms) e ∙ all-carbon-digits N E r

  pub n_tuple-told : (c : List ℕ) → IsNTupleₗ atoms N E carbon c → IsNTuple N E (digits atoms c)
  n_tuple-told c x = told (IsNTuple N E) ((n_tuple-carbon N E c).0 x)

  pub numbered-told : {o : List ℕ} (c : List ℕ) → Numberedₗ carbon N E o c → Numbered N E o (digits atoms c)
  numbered-told c x =
      record {
        root = x.root;
        inside = x.inside;
        code = rooted-told x.root c x.code;
        right = told (IsCentred N E) ((centred-carbon N E c).0 x.right);
        rule = (root-carbon N E x.root).0 x.rule;
        order = x.order ∙ order-carbon N E x.root;
      }

-- ---- the centred code, of two middle vertices u and v, the lower number first

module _ {n : ℕ} {E : List ℕ} {at : ℕ → List ℕ} (a : Codes n at) (standing : ℕ → List ℕ) (t : IsTree n E) {u v : ℕ} (z : IsCentre n E u v) (up : u ≤ v) where
  first-size : length (at u) ≡ n
  first-size = let ((h, k), g) = centre_inside n E t u v z in a.long u h k

  second-size : length (at v) ≡ n
  second-size = let (g, (h, k)) = centre_inside n E t u v z in a.long v h k

  -- the code at the first middle vertex stands over old, with its order o
  module _ (o old : List ℕ) {best : List ℕ} (e : take n o ≡ standing u) (l : best ≡ laid_over (at u) old) where
    first-larger : at u ≽ at v → Writes (NumberedBy n E at standing (take n o)) old n best
    first-larger g =
        record {
          result = at u;
          right = record { root = u; inside = (centre_inside n E t u v z).0; code = refl; right = at_first z g; rule = root-first t z up g; order = e };
          count = sym first-size;
          lies = l;
        }

    pub one-middle : u ≡ v → Writes (NumberedBy n E at standing (take n o)) old n best
    one-middle q = first-larger (rw q (refl≽ (at v)))

    both : take n best ≡ at u
    both = laid-front (at u) old best n l first-size

    -- the code at the second one stands elsewhere
    module _ (other : List ℕ) (f : take n other ≡ at v) where
      pub first_stays : {new : List ℕ} {r : Bool} → Raised n best other new r → r ≡ false → Writes (NumberedBy n E at standing (take n o)) old n new
      first_stays (kept g k) q = rw k (first-larger (rw (both, f) at g))
      first_stays (raised g k) q = absurd (true≢false q)

      -- and is the larger one: the order its is copied over o
      pub second-rises :
          (its : List ℕ) {p new : List ℕ} {r : Bool} → Raised n best other new r → r ≡ true → take n its ≡ standing v → n ≤ length its
          → p ≡ take (length its) its ++ drop (length its) o → Writes (NumberedBy n E at standing (take n p)) old n new
      second-rises its (kept g k) q i m c = absurd (false≢true q)
      second-rises its {p} (raised g k) q i m c =
          let behind : p ≡ its ++ drop (length its) o = c ∙ ap (λ (s : List ℕ). s ++ drop (length its) o) (take-length its) in
          record {
            result = at v;
            right = record {
              root = v;
              inside = (centre_inside n E t u v z).1;
              code = refl;
              right = at_second z (below≽ (at u) (at v) (rw (both, f) at g));
              rule = root-second t z (rw (both, f) at g);
              order = ap (take n) behind ∙ take-append-le n its (drop (length its) o) m ∙ i;
            };
            count = sym second-size;
            lies = k ∙ rw (f, l) (laid-over (at u) (at v) old (first-size ∙ sym second-size));
          }
