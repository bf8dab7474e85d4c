-- `listings::list` meets its contract. Assumes nothing.
use Rattle.std.proofs.Common.{◌≡◌, ◌+◌, ◌*◌, ◌≤◌, [], ◌++◌, length, take, drop, refl, sym, ap, ◌∙◌, subst, arith}
use Rattle.std.specs.Io.KnownBytes.{Appends}
use Rattle.std.proofs.KnownBytes.{Appends-nil, Appends-trans}
use Rattle.listing_text.specs.Steps.{lines_of_kind}
use Rattle.listing_text.specs.Theorems.{piece-short}
use Rattle.listings.specs.Answered.{most, Begun}
use Rattle.listings.proofs.Growing.{more_written, all_written, once_of, on_err, begins_listing}
use Rattle.listings.proofs.list.Goals as goal

pub loop-i-init : goal.loop-i-init
loop-i-init g c = record { room = refl; some = λ h. absurd (omega arith); written = ([], Appends-nil _, λ m h. refl) }

pub returns-then-n-lt65536-clause-all : goal.returns-then-n-lt65536-clause-all
returns-then-n-lt65536-clause-all g c =
    let kind = c.args.kind in
    let p = c.list_kind-n.ensures in
    let (w, grew, front) = c.loop-i.invariant.written in
    let room : length c.loop-i.piece ≡ 65536 = c.loop-i.invariant.room in
    let e =
    all_written (lines_of_kind kind).format (once_of kind) _ p.listing _ _ _ _ p.right p w (front p.listing p.right)
    (omega (arith, room, c.if-n-lt65536.true))
    (omega (arith, c.if-n-lt65536.true, c.loop-i-test.true)) in
    record { listing = p.listing; right = p.right; grew = subst (Appends _ _) e (Appends-trans _ _ _ _ _ grew c.in_ok-write_full.ensures.all) }

pub loop-i-preserved : goal.loop-i-preserved
loop-i-preserved g c =
    let kind = c.args.kind in
    let p = c.list_kind-n.ensures in
    let (w, grew, front) = c.loop-i.invariant.written in
    let room : length c.loop-i.piece ≡ 65536 = c.loop-i.invariant.room in
    let short : c.list_kind-n.result ≤ length c.loop-i.piece = piece-short (lines_of_kind kind).format p in
    let next : 65536 * c.loop-i.i + c.list_kind-n.result ≡ 65536 * (c.loop-i.i + 1) = omega (arith, room, short, c.if-n-lt65536.false) in
    record {
      room = c.list_kind-n.auto.out ∙ room;
      some = λ h. (p.listing, p.right);
      written = (
        w ++ take c.list_kind-n.result c.list_kind-n.new.out,
        Appends-trans _ _ _ _ _ grew c.in_ok-write_full.ensures.all,
        λ m h. more_written (lines_of_kind kind).format (once_of kind) _ m _ _ _ _ h p w (front m h) ∙ ap (λ n. take n m) next,
      );
    }

pub returns-clause-all : goal.returns-clause-all
returns-clause-all g c =
    let (w, grew, front) = c.loop-i.invariant.written in
    let (m, right) = c.loop-i.invariant.some (omega (arith, c.loop-i-test.false)) in
    let end : 65536 * c.loop-i.i ≡ most = omega (arith, c.loop-i-test.false) in
    record { listing = m; right = right; grew = subst (Appends _ _) (front m right ∙ ap (λ n. take n m) end) grew }

pub returns-in_err-write_full-clause-some : goal.returns-in_err-write_full-clause-some
returns-in_err-write_full-clause-some g c =
    let kind = c.args.kind in
    let p = c.list_kind-n.ensures in
    let (w, grew, front) = c.loop-i.invariant.written in
    let (x, y, e, more) = c.in_err-write_full.ensures.some in
    let h = more_written (lines_of_kind kind).format (once_of kind) _ p.listing _ _ _ _ p.right p w (front p.listing p.right) in
    let parts = begins_listing p.listing w x y _ (ap (λ l. w ++ l) (sym e) ∙ h) in
    let begun : Begun (lines_of_kind kind).format c.args.text.now (g.W.Write.contents c.args.output.now) (g.W.Write.contents c.write_full.new.output) =
    record { listing = p.listing; right = p.right; begins = w ++ x; rest = y ++ drop _ p.listing; parts = parts; grew = Appends-trans _ _ _ _ _ grew more } in
    on_err c.from_residual.result begun
