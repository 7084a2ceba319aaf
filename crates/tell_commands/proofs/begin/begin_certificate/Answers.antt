use Rattle.std.proofs.Common.{subst}
use Rattle.qc_play.specs.Evidence.{IsEvidence}
use Rattle.qecode_commands.proofs.Written.{Wrote-weaker}
use Rattle.tell_commands.proofs.Begun.{plan_begun, counter_begun, left_open, not_shown}
use Rattle.tell_commands.proofs.begin.begin_certificate.Goals as goal

pub returns-in-Plan-clause-wrote : goal.returns-in-Plan-clause-wrote
returns-in-Plan-clause-wrote g c =
    Wrote-weaker _ _ _ _ c.begin_side.result _ _ (λ s t h root lines. plan_begun c.args.problem.now c.args.cert.now.outcome c.args.cert.now.optimum root c.in-Plan.plan (subst (IsEvidence c.args.problem.now c.args.cert.now.outcome c.args.cert.now.optimum root) c.in-Plan.is (c.in-Ok.ensures.shows root lines)) s t h) c.begin_side.ensures.wrote

pub returns-in-Counter-clause-wrote : goal.returns-in-Counter-clause-wrote
returns-in-Counter-clause-wrote g c =
    Wrote-weaker _ _ _ _ c.begin_side-in-Counter.result _ _ (λ s t h root lines. counter_begun c.args.problem.now c.args.cert.now.outcome c.args.cert.now.optimum root c.in-Counter.counter (subst (IsEvidence c.args.problem.now c.args.cert.now.outcome c.args.cert.now.optimum root) c.in-Counter.is (c.in-Ok.ensures.shows root lines)) s t h)
    c.begin_side-in-Counter.ensures.wrote

pub returns-in-Open-clause-wrote : goal.returns-in-Open-clause-wrote
returns-in-Open-clause-wrote g c =
    Wrote-weaker _ _ _ _ c.tell_open.result _ _ (λ s t h root lines. left_open c.args.problem.now c.args.cert.now.outcome c.args.cert.now.optimum root c.in-Open.turns (subst (IsEvidence c.args.problem.now c.args.cert.now.outcome c.args.cert.now.optimum root) c.in-Open.is (c.in-Ok.ensures.shows root lines)) s t h) c.tell_open.ensures.wrote

pub returns-in-NotProved-clause-wrote : goal.returns-in-NotProved-clause-wrote
returns-in-NotProved-clause-wrote g c =
    Wrote-weaker _ _ _ _ c.finish.result _ _ (λ s t h root lines. not_shown c.args.problem.now c.args.cert.now.outcome c.args.cert.now.optimum root (subst (IsEvidence c.args.problem.now c.args.cert.now.outcome c.args.cert.now.optimum root) c.in-NotProved.is (c.in-Ok.ensures.shows root lines)) s t h) c.finish.ensures.wrote
