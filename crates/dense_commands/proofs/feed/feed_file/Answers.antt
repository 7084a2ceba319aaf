use Rattle.std.proofs.Common.{◌≡◌, subst, ◌+◌, sym, arith, ◌≤◌}
use Rattle.qc_io.specs.Shelf.{EndsBy}
use Rattle.dense_commands.specs.Fed.{FedTo}
use Rattle.dense_commands.proofs.Feeding.{fed_whole}
use Rattle.dense_commands.proofs.feed.feed_file.Goals as goal

pub returns-then-count-eq0-clause-fed : goal.returns-then-count-eq0-clause-fed
returns-then-count-eq0-clause-fed g c =
    let told = g.S.Shelf.told c.args.shelf.now c.args.name.now in
    let stays : g.S.Shelf.told c.loop-at.shelf ≡ g.S.Shelf.told c.args.shelf.now = c.loop-at.invariant.stays in
    let count : c.in_ok-count.count ≡ 0 = c.if-count-eq0.true in
    let e = c.in_ok-count.ensures in
    let below : c.loop-at.at ≤ 1073741824 = omega (arith, c.loop-at-test.true, c.loop-at.invariant.same_end) in
    let same : c.loop-at.at + c.in_ok-count.count ≡ c.loop-at.at = omega (arith, count) in
    fed_whole told c.loop-at.at (g.C.ByteChecker.is_checking c.feed_piece.new.checker) below
    (subst (λ f. EndsBy (f c.args.name.now) c.loop-at.at) stays (e.end count))
    (subst (λ n. FedTo told n (g.C.ByteChecker.is_checking c.feed_piece.new.checker)) same (subst (λ f. FedTo (f c.args.name.now) (c.loop-at.at + c.in_ok-count.count) (g.C.ByteChecker.is_checking c.feed_piece.new.checker)) stays (e.fed (subst (λ f. FedTo (f c.args.name.now) c.loop-at.at (g.C.ByteChecker.is_checking c.loop-at.checker)) (sym stays) c.loop-at.invariant.fed))))
