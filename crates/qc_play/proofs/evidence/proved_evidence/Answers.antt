use Rattle.std.proofs.Common.{◌∙◌}
use Rattle.proof_tree.specs.declared.tree.Outcome.TheVariants.{True, False}
use Rattle.qc_play.proofs.Judging.{root_reads}
use Rattle.qc_play.proofs.Making.{states, placed, won_exact, lost_lost, plan_made, counter_made}
use Rattle.qc_play.proofs.evidence.proved_evidence.Goals as goal

pub plan_of_root-requires : goal.plan_of_root-requires
plan_of_root-requires c =
    let cert = c.args.cert.now in
    let l = c.requires.listed in
    let on = placed c.args.problem.now cert.optimum l.tree cert.outcome (c.requires.proved l.tree l.is) in
    (l.tree, c.as_slice.ensures.value ∙ l.is, root_reads c.args.problem.now cert.outcome cert.optimum cert.lines.items l l.tree l.is on (c.trees_answer_all_tuples.ensures c.args.problem.now l.tree c.known.ensures on))

pub returns-in_ok-plan-in-True : goal.returns-in_ok-plan-in-True
returns-in_ok-plan-in-True c = λ t lines.
    let cert = c.args.cert.now in
    let shown = c.requires.proved t lines in
    let on = placed c.args.problem.now cert.optimum t cert.outcome shown in
    let e = states c.args.problem.now cert.optimum t cert.outcome True c.in-True.is shown in
    let root = root_reads c.args.problem.now cert.outcome cert.optimum cert.lines.items c.requires.listed t lines on (c.trees_answer_all_tuples.ensures c.args.problem.now t c.known.ensures on) in
    plan_made c.args.problem.now cert.optimum t cert.outcome c.in_ok-plan-in-True.plan c.in-True.is e (c.outcomes_are_true.ensures c.args.problem.now True cert.optimum t c.known.ensures e) (c.in_ok-plan-in-True.ensures t (c.as_slice.ensures.value ∙ lines) root (won_exact c.args.problem.now cert.optimum t cert.outcome e))

pub counter_of_root-requires : goal.counter_of_root-requires
counter_of_root-requires c =
    let cert = c.args.cert.now in
    let l = c.requires.listed in
    let on = placed c.args.problem.now cert.optimum l.tree cert.outcome (c.requires.proved l.tree l.is) in
    (l.tree, c.as_slice-in-False.ensures.value ∙ l.is, root_reads c.args.problem.now cert.outcome cert.optimum cert.lines.items l l.tree l.is on (c.trees_answer_all_tuples.ensures c.args.problem.now l.tree c.known.ensures on))

pub returns-in_ok-counter-in-False : goal.returns-in_ok-counter-in-False
returns-in_ok-counter-in-False c = λ t lines.
    let cert = c.args.cert.now in
    let shown = c.requires.proved t lines in
    let on = placed c.args.problem.now cert.optimum t cert.outcome shown in
    let e = states c.args.problem.now cert.optimum t cert.outcome False c.in-False.is shown in
    let root = root_reads c.args.problem.now cert.outcome cert.optimum cert.lines.items c.requires.listed t lines on (c.trees_answer_all_tuples.ensures c.args.problem.now t c.known.ensures on) in
    counter_made c.args.problem.now cert.optimum t cert.outcome c.in_ok-counter-in-False.counter c.in-False.is e (c.outcomes_are_true.ensures c.args.problem.now False cert.optimum t c.known.ensures e) (c.in_ok-counter-in-False.ensures t (c.as_slice-in-False.ensures.value ∙ lines) root (lost_lost c.args.problem.now cert.optimum t cert.outcome e))

pub returns-in-Open : goal.returns-in-Open
returns-in-Open c = λ t lines. record { proves = c.requires.proved t lines; outcome_is = c.in-Open.is }
