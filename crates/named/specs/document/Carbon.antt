-- Document 02, wish 7: "Bit, fraction and adjacency forms, plain lines and the sheet take carbon only: another atom is 14 (place: the lowest such vertex, before a numbering's 14)." The calls that
-- give these forms of an edge list with letters promise what the plain calls do (`Bits`, `Matrix` and `Lines` of the crate `zurkhovel`), over this table. Assumes nothing.
use Rattle.std.specs.Prelude.{List, ℕ}
use Rattle.limits.specs.document.Limits.{valence}
use Rattle.edge_list.specs.document.Letters.{carbon_rows}
use Rattle.zurkhovel.specs.document.InEdition.{EdgeTable}

-- the table of an edge list with the letters s, of carbon alone
abbrev pub carbon_table : List ℕ → EdgeTable
carbon_table s most N E r = carbon_rows most valence N E r s
