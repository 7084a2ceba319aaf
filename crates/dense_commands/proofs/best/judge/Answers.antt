use Rattle.std.proofs.Common.{inr}
use Rattle.qecode_commands.proofs.Written.{Wrote-weaker}
use Rattle.dense_commands.proofs.best.judge.Goals as goal

pub returns-in-Ok-clause-wrote : goal.returns-in-Ok-clause-wrote
returns-in-Ok-clause-wrote g c = Wrote-weaker _ _ _ _ c.tell.result _ _ (λ s t h. inr (h c.args.problem.now c.args.bytes.now c.in-Ok.ensures)) c.tell.ensures.wrote
