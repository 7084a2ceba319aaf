use Rattle.std.proofs.Common.{subst}
use Rattle.qc_play.specs.Evidence.{IsEvidence}
use Rattle.qecode_commands.proofs.Written.{Wrote-weaker}
use Rattle.qecode_commands.proofs.Played.{plan_played, counter_played, opened, not_proved}
use Rattle.qecode_commands.proofs.play.play_certificate.Goals as goal

pub play_file-requires : goal.play_file-requires
play_file-requires g c = let r = c.requires in (subst (IsEvidence c.args.problem.now c.args.cert.now.outcome c.args.cert.now.optimum r.tree) c.in-Plan.is (c.in-Ok.ensures.shows r.tree r.is)).optimal

pub play_file-requires-in-Counter : goal.play_file-requires-in-Counter
play_file-requires-in-Counter g c = let r = c.requires in (subst (IsEvidence c.args.problem.now c.args.cert.now.outcome c.args.cert.now.optimum r.tree) c.in-Counter.is (c.in-Ok.ensures.shows r.tree r.is)).winning

pub returns-in-Plan-clause-wrote : goal.returns-in-Plan-clause-wrote
returns-in-Plan-clause-wrote g c =
    Wrote-weaker _ _ _ _ c.play_file.result _ _
    (λ s t h root lines. plan_played c.args.problem.now c.args.cert.now.outcome c.args.cert.now.optimum root c.in-Plan.plan (subst (IsEvidence c.args.problem.now c.args.cert.now.outcome c.args.cert.now.optimum root) c.in-Plan.is (c.in-Ok.ensures.shows root lines)) _ _ _ s t h)
    c.play_file.ensures.wrote

pub returns-in-Counter-clause-wrote : goal.returns-in-Counter-clause-wrote
returns-in-Counter-clause-wrote g c =
    Wrote-weaker _ _ _ _ c.play_file-in-Counter.result _ _
    (λ s t h root lines. counter_played c.args.problem.now c.args.cert.now.outcome c.args.cert.now.optimum root c.in-Counter.counter (subst (IsEvidence c.args.problem.now c.args.cert.now.outcome c.args.cert.now.optimum root) c.in-Counter.is (c.in-Ok.ensures.shows root lines)) _ _ _ s t h)
    c.play_file-in-Counter.ensures.wrote

pub returns-in-Open-clause-wrote : goal.returns-in-Open-clause-wrote
returns-in-Open-clause-wrote g c =
    Wrote-weaker _ _ _ _ c.tell_open.result _ _
    (λ s t h root lines. opened c.args.problem.now c.args.cert.now.outcome c.args.cert.now.optimum root c.in-Open.turns (subst (IsEvidence c.args.problem.now c.args.cert.now.outcome c.args.cert.now.optimum root) c.in-Open.is (c.in-Ok.ensures.shows root lines)) _ _ _ s t h)
    c.tell_open.ensures.wrote

pub returns-in-NotProved-clause-wrote : goal.returns-in-NotProved-clause-wrote
returns-in-NotProved-clause-wrote g c =
    Wrote-weaker _ _ _ _ c.finish.result _ _
    (λ s t h root lines. not_proved c.args.problem.now c.args.cert.now.outcome c.args.cert.now.optimum root (subst (IsEvidence c.args.problem.now c.args.cert.now.outcome c.args.cert.now.optimum root) c.in-NotProved.is (c.in-Ok.ensures.shows root lines)) _ _ _ s t h)
    c.finish.ensures.wrote
