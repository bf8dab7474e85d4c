-- The marks of the programs, by kind: plain, where a digit is the mark, or with named atoms. In order: marks, and how far marks with one child more stand apart; then that the program's arithmetic is theirs. Assumes nothing.
use Rattle.std.specs.Prelude.{◌≡◌, refl, Bool, true, false, ℕ, ◌+◌, ◌-◌, ◌≤◌}
use Rattle.std.proofs.Common.{arith}
use Rattle.limits.specs.Atoms.{atom_names}
use Rattle.skeleton.specs.document.Label.{Marks}
use Rattle.skeleton.specs.Label.{more, fewer}
use Rattle.skeleton.specs.Base.{base}
use Rattle.skeleton.specs.document.AtomMarks.{atoms}

abbrev pub kinds : Bool → Marks
kinds false = base
kinds true = atoms

-- between a mark and that of one child more
abbrev pub unit : Bool → ℕ
unit false = 1
unit true = atom_names

pub more_is : (b : Bool) (m : ℕ) → more (kinds b) m ≡ m + unit b
more_is false m = omega arith
more_is true m = omega (arith, atoms.mark_of m)

fewer_is : (b : Bool) (m : ℕ) → 1 ≤ (kinds b).arity m → fewer (kinds b) m ≡ m - unit b
fewer_is false m h = refl
fewer_is true m h = omega (arith, atoms.mark_of m)

-- the same by the unit as it was looked up
pub fewer_by : (b : Bool) (m r : ℕ) → r ≡ unit b → 1 ≤ (kinds b).arity m → fewer (kinds b) m ≡ m - r
fewer_by b m r e h = rw e (fewer_is b m h)

-- a mark that tells of a child is not below the unit
pub unit_fits : (b : Bool) (m : ℕ) → 1 ≤ (kinds b).arity m → unit b ≤ m
unit_fits false m h = h
unit_fits true m h = omega arith
