use Rattle.std.proofs.Common.{◌≡◌, ◌+◌, ◌<◌, ◌∙◌, length, arith}
use Rattle.qc_model.specs.Demands.{demands}
use Rattle.dense_box.specs.Wished.{told, tracked_at}
use Rattle.dense_box.proofs.Tracking.{tracked_is, told_more}
use Rattle.dense_box.proofs.wishes.Wishes.new.Goals as goal

pub loop-i-preserved : goal.loop-i-preserved
loop-i-preserved c =
    let g = c.args.problem.now in
    let i = c.loop-i.i in
    let there : i < length g.scopes = omega (arith, c.loop-i-test.true, c.scopes-i-end.ensures) in
    let list : c.list-after.result.now ≡ demands g (i + 1) = c.list-after.ensures g c.in_ok-demands.ensures in
    let here : told c.wish_of.result ≡ tracked_at g i = c.wish_of.ensures ∙ tracked_is g i c.list-after.result.now there list in
    let more = told_more g c.loop-i.wishes.items c.push.new.self.items c.wish_of.result i c.in_ok-push.ensures.items c.loop-i.invariant.count here c.loop-i.invariant.each in
    record { count = more.0; each = more.1 }
