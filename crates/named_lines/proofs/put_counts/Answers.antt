-- `named_lines::put_counts` meets its contract: one count behind the other. Assumes nothing.
use Rattle.named_lines.specs.NamedWriting.{room-c, room-n, room_o, counts-put}
use Rattle.named_lines.proofs.put_counts.Goals as goal

pub put_count-b-requires : goal.put_count-b-requires
put_count-b-requires c = record { letters_len_bound = c.requires.letters_len_bound; letters_in_bounds = room-c c.args.letters.now c.args.out.now c.args.at c.requires.letters_in_bounds }

pub put_count-c-requires : goal.put_count-c-requires
put_count-c-requires c = record { letters_len_bound = c.requires.letters_len_bound; letters_in_bounds = room-n c.args.letters.now c.args.out.now c.args.at c.requires.letters_in_bounds c.put_count-b.ensures }

pub put_count-requires : goal.put_count-requires
put_count-requires c = record { letters_len_bound = c.requires.letters_len_bound; letters_in_bounds = room_o c.args.letters.now c.args.out.now c.args.at c.requires.letters_in_bounds c.put_count-b.ensures c.put_count-c.ensures }

pub returns : goal.returns
returns c = counts-put c.args.letters.now c.args.out.now c.args.at c.requires.letters_in_bounds c.put_count-b.ensures c.put_count-c.ensures c.put_count.ensures
