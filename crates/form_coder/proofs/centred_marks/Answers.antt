-- `form_coder::centred_marks` meets its contract. Assumes nothing.
use mathlib.Core.Path.{◌≡◌}
use native.Mathlib.Omega.{arith}
use lib.ListN.{length, take}
use borrow.Author.Rules.{rules}
use Rattle.refusal.specs.Giving.{written_length}
use Rattle.form_coder.proofs.Written.{copied, digits_beside}
use Rattle.form_coder.proofs.centred_marks.Goals as goal

pub numbered_marks-looked-requires : goal.numbered_marks-looked-requires
numbered_marks-looked-requires c = record { skeleton = search rules; order_len = search rules }

pub slice_bounds-copy-end-2 : goal.slice_bounds-copy-end-2
slice_bounds-copy-end-2 c = let counted : c.args.n ≡ length (take c.args.n c.numbered_marks-looked.new.out) = let (s, r) = c.requires.skeleton in written_length (c.numbered_marks-looked.ensures.by_index r.label r.named).0 in
    counted

pub copy-requires : goal.copy-requires
copy-requires c = let counted : c.args.n ≡ length (take c.args.n c.numbered_marks-looked.new.out) = let (s, r) = c.requires.skeleton in written_length (c.numbered_marks-looked.ensures.by_index r.label r.named).0 in
    omega (arith, counted, c.requires.n_in_bounds)

pub returns : goal.returns
returns c = let counted : c.args.n ≡ length (take c.args.n c.numbered_marks-looked.new.out) = let (s, r) = c.requires.skeleton in written_length (c.numbered_marks-looked.ensures.by_index r.label r.named).0 in record {
  ds_after = digits_beside _ _ (counted) (copied _ _ _ c.copy.ensures.bytes) c.read_digits.ensures;
  by_index = λ label q.
      let (w, e) = c.numbered_marks-looked.ensures.by_index label q in
      (record { result = w.result; right = w.right.right; count = w.count; lies = w.lies }, e);
}
