-- A format whose lines are parts set apart by single spaces is sound, where reading undoes writing and the parts are tied. Here stands what rests on `apart_parts`; the
-- rest is in `specs.Parted`. Assumes nothing.
use Rattle.std.specs.Prelude.{List, ◌++◌, ℕ}
use Rattle.std.proofs.Common.{ap, sym, ◌∙◌}
use Rattle.texts.specs.document.Text.{Format}
use Rattle.texts.specs.Sound.{Reads, Sound}
use Rattle.texts.specs.Spaced.{apart_parts, starts-parts, ends_parts, no_feed, some_part}
use Rattle.texts.specs.Parted.{Parted}

pub parted_sound : {A F : Type 0} {format : Format A F} → Reads format → Parted format → Sound format
parted_sound {format = format} r p =
    record {
      reads = r;
      free = λ c a. rw (p.is c) (no_feed (p.front c) (p.more c) (p.marked c a));
      some = λ c a. rw (p.is c) (some_part (p.front c) (p.more c) (p.some c a));
      apart = λ c d a b e.
          apart_parts (p.front c) (p.more c) (p.front d) (p.more d) (p.marked c a) (p.marked d b) (p.sized c d) (p.tied c d a b) (rw (p.is c, p.is d) at e);
      starts = λ c d z a b e.
          starts-parts (p.front c) (p.more c) (p.front d) (p.more d) z (p.marked c a) (p.marked d b) (p.sized c d) (p.tied c d a b)
          (ap (λ (x : List ℕ). x ++ z) (sym (p.is c)) ∙ e ∙ p.is d);
      ends = λ c d x a b e.
          ends_parts (p.front c) (p.more c) (p.front d) (p.more d) x (p.marked c a) (p.marked d b) (p.sized c d) (p.tied c d a b)
          (ap (λ (y : List ℕ). x ++ y) (sym (p.is c)) ∙ e ∙ p.is d);
    }
