-- Document 01: how large a skeleton may be, and each form of its code.
--
-- Every definition and law takes such a limit as a parameter; its value is named here alone, and for the code in src/. Assumes nothing.
use Rattle.std.specs.Prelude.{ℕ}

-- "a tree of N vertices, 1 <= N <= 64": vertices, at most
abbrev pub size : ℕ
size = 64

-- "each of degree at most 4": neighbours of a vertex, at most
abbrev pub valence : ℕ
valence = 4

-- "a packed code is empty or over 16 bytes"
abbrev pub packed_bytes : ℕ
packed_bytes = 16

-- the whole-number form: "N carried beside it, N <= 32"
abbrev pub whole_size : ℕ
whole_size = 32

-- the fraction form: "a binary point before the first bit, N <= 27"
abbrev pub fraction_size : ℕ
fraction_size = 27

-- 0A: "N <= 21"
abbrev pub zero_size : ℕ
zero_size = 21

-- A0: "N <= 11"
abbrev pub a_size : ℕ
a_size = 11
