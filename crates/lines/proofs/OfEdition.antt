-- The lines of an edition are the plain lines for its limit, where there is such an edition; else each is 22. Here stands what rests on `tied`; the rest is in
-- `specs.OfEdition`. Assumes nothing.
use Rattle.std.specs.Prelude.{List, ℕ}
use Rattle.edition.specs.document.Edition.{IsEdition, neighbours_in}
use Rattle.edition.specs.Laws.{at_most_nine, edition_clear}
use Rattle.texts.specs.Damage.{Accept}
use Rattle.texts.specs.Sound.{Sound}
use Rattle.lines.specs.document.Reading.{lines_of}
use Rattle.lines.proofs.Judged.{table_sound}
use Rattle.lines.specs.OfEdition.{limited}

module _ (e : ℕ) where
  module _ (i : IsEdition e) where
    accept_of : {c : List ℕ} → Accept (lines_of e) c → Accept (limited e) c
    accept_of a = record { formed = a.formed; clear = a.clear }

    pub edition_sound : Sound (lines_of e)
    edition_sound =
        let s = table_sound (neighbours_in e) (at_most_nine e) in
        record {
          reads = record { first_clear = edition_clear i; once = s.reads.once; read = s.reads.read; back = s.reads.back };
          free = λ c a. s.free c (accept_of a);
          some = λ c a. s.some c (accept_of a);
          apart = λ c d a b. s.apart c d (accept_of a) (accept_of b);
          starts = λ c d z a b. s.starts c d z (accept_of a) (accept_of b);
          ends = λ c d x a b. s.ends c d x (accept_of a) (accept_of b);
        }
