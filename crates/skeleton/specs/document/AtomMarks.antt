-- Document 02, wish 7: "Codes compare by digit first and then by atom". A vertex's mark is three times its digit and its atom's rank, so that marks stand as their digits do, and
-- where those are equal as their atoms do (`by_digit_then_atom` of the crate), and every number is a mark. Assumes nothing.
use Rattle.std.specs.Prelude.{◌+◌, ◌*◌, ◌/◌, ◌%◌, ◌≡◌}
use Rattle.std.proofs.Common.{arith}
use Rattle.skeleton.specs.document.Label.{Marks}
use Rattle.skeleton.specs.document.Atom.{Atom, rank, named}
use Rattle.skeleton.specs.Atoms.{rank-named, rank-under, named-rank}

-- the marks of digit and atom
abbrev pub atoms : Marks
atoms = record {
  Label = Atom;
  mark = λ k a. 3 * k + rank a;
  arity = λ m. m / 3;
  atom = λ m. named (m % 3);
  arity_mark = λ k a. omega (arith, rank-under a);
  atom_mark = λ k a. let e : (3 * k + rank a) % 3 ≡ rank a = omega (arith, rank-under a) in rw e (named-rank a);
  mark_of = λ m. omega (arith, rank-named (m % 3) (omega arith));
}
