use Rattle.fd_store.proofs.Dense.{longer_none, longer_more}
use Rattle.fd_store.proofs.build.fill.Goals as goal

pub loop-added-init : goal.loop-added-init
loop-added-init c = longer_none c.args.words.now.items c.args.word

pub loop-added-preserved : goal.loop-added-preserved
loop-added-preserved c =
    longer_more c.args.words.now.items c.loop-added.words.items _ c.loop-added._added c.args.word c.loop-added.invariant c.in_ok-push.ensures.items
