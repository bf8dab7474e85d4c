-- `named::maps::hand_out` keeps its promise. Assumes nothing.
use Rattle.std.specs.Prelude.{Result}
use Rattle.refusal.specs.declared.Refusal.{Refusal}
use mathlib.Core.Path.{◌≡◌, refl, sym, subst}
use Prim.Native.Nat.{ℕ}
use Rattle.refusal.specs.document.Outcome.{told}
use Rattle.limits.specs.document.Limits.{size}
use Rattle.limits.specs.Width.{width}
use Rattle.skeleton.specs.document.Skeleton.{IsSkeleton}
use Rattle.skeleton.specs.document.Atom.{atom_at}
use Rattle.letters.specs.Named.{Named, Ranked}
use Rattle.renumber.specs.Parts.{FoundKept}
use Rattle.zurkhovel.specs.document.Reported.{not_coded}
use Rattle.zurkhovel.specs.Handing.{map_outcome}
use Rattle.named.specs.document.Same.{NamedHandOut, NamedOfBoth}
use Rattle.named.proofs.Naming.{few_letters, named-all, ready}
use Rattle.named.proofs.Judging.{hand_sizes, hand_found, hand_looked}
use Rattle.named.proofs.maps.hand_out.Goals as goal

pub returns-then-n1-n2 : goal.returns-then-n1-n2
returns-then-n1-n2 c = record { promised = hand_sizes c.args.n1 c.args.edges1.now c.args.letters1.now c.args.n2 c.args.edges2.now c.args.letters2.now c.requires.clear c.requires.clear_2 c.if-n1-n2.true; reported = not_coded c.if-n1-n2.true }

pub name-requires : goal.name-requires
name-requires c = (few_letters c.args.n1 c.args.edges1.now 1 c.args.letters1.now c.requires.clear, refl)

pub name-requires-2 : goal.name-requires-2
name-requires-2 c = (few_letters c.args.n2 c.args.edges2.now 1 c.args.letters2.now c.requires.clear_2, refl)

pub hand_out_marks-handed-requires : goal.hand_out_marks-handed-requires
hand_out_marks-handed-requires c = record { skeleton = ready c.args.n1 c.args.edges1.now 1 c.args.letters1.now c.requires.clear c.name.ensures; skeleton_2 = subst (λ (n : ℕ). IsSkeleton size width n c.args.edges2.now × Ranked n c.name-2.new.atoms) (sym c.if-n1-n2.false) (ready c.args.n2 c.args.edges2.now 1 c.args.letters2.now c.requires.clear_2 c.name-2.ensures) }

pub returns-in-Ok : goal.returns-in-Ok
returns-in-Ok c = let named-first : Named c.args.n1 (atom_at c.args.letters1.now) c.name.new.atoms = named-all c.args.n1 c.args.edges1.now 1 c.args.letters1.now c.requires.clear c.name.ensures in
    let named-second : Named c.args.n1 (atom_at c.args.letters2.now) c.name-2.new.atoms = subst (λ (n : ℕ). Named n (atom_at c.args.letters2.now) c.name-2.new.atoms) (sym (c.if-n1-n2.false))
    (named-all c.args.n2 c.args.edges2.now 1 c.args.letters2.now c.requires.clear_2 c.name-2.ensures) in
    let found : (a : Result ℕ Refusal) → c.hand_out_marks-handed.result.answer ≡ a → let s = c.args in NamedHandOut s.n1 s.edges1.now s.letters1.now s.n2 s.edges2.now s.letters2.now s.out.now c.hand_out_marks-handed.new.out (map_outcome (told a)) = λ a q. hand_found c.args.n1 c.args.edges1.now c.args.letters1.now c.args.n2 c.args.edges2.now c.args.letters2.now c.requires.clear c.requires.clear_2 (c.if-n1-n2.false)
    (subst
    (λ (b : Result ℕ Refusal). FoundKept (atom_at c.args.letters1.now) (atom_at c.args.letters2.now) c.args.n1 c.args.edges1.now c.args.edges2.now c.args.out.now c.hand_out_marks-handed.new.out (told b)) q
    (c.hand_out_marks-handed.ensures (atom_at c.args.letters1.now) (atom_at c.args.letters2.now) (named-first) (named-second)).0) in
    let looked : let s = c.args in NamedOfBoth s.n1 s.edges1.now s.letters1.now s.n2 s.edges2.now s.letters2.now c.hand_out_marks-handed.result.pairs = hand_looked c.args.n1 c.args.edges1.now c.args.letters1.now c.args.n2 c.args.edges2.now c.args.letters2.now c.requires.clear c.requires.clear_2 (c.if-n1-n2.false)
    (c.hand_out_marks-handed.ensures (atom_at c.args.letters1.now) (atom_at c.args.letters2.now) (named-first) (named-second)).1 in
    record { promised = found _ c.in-Ok.is; reported = looked }

pub returns-in-Err : goal.returns-in-Err
returns-in-Err c = let named-first : Named c.args.n1 (atom_at c.args.letters1.now) c.name.new.atoms = named-all c.args.n1 c.args.edges1.now 1 c.args.letters1.now c.requires.clear c.name.ensures in
    let named-second : Named c.args.n1 (atom_at c.args.letters2.now) c.name-2.new.atoms = subst (λ (n : ℕ). Named n (atom_at c.args.letters2.now) c.name-2.new.atoms) (sym (c.if-n1-n2.false))
    (named-all c.args.n2 c.args.edges2.now 1 c.args.letters2.now c.requires.clear_2 c.name-2.ensures) in
    let found : (a : Result ℕ Refusal) → c.hand_out_marks-handed.result.answer ≡ a → let s = c.args in NamedHandOut s.n1 s.edges1.now s.letters1.now s.n2 s.edges2.now s.letters2.now s.out.now c.hand_out_marks-handed.new.out (map_outcome (told a)) = λ a q. hand_found c.args.n1 c.args.edges1.now c.args.letters1.now c.args.n2 c.args.edges2.now c.args.letters2.now c.requires.clear c.requires.clear_2 (c.if-n1-n2.false)
    (subst
    (λ (b : Result ℕ Refusal). FoundKept (atom_at c.args.letters1.now) (atom_at c.args.letters2.now) c.args.n1 c.args.edges1.now c.args.edges2.now c.args.out.now c.hand_out_marks-handed.new.out (told b)) q
    (c.hand_out_marks-handed.ensures (atom_at c.args.letters1.now) (atom_at c.args.letters2.now) (named-first) (named-second)).0) in
    record { promised = found _ c.in-Err.is; reported = refl }
