use Rattle.std.proofs.Common.{◌∙◌, sym}
use Rattle.qc_play.proofs.Making.{not_proved}
use Rattle.qc_play.proofs.Outcomes.{err_each}
use Rattle.qc_play.proofs.Proving.{head_of_proved}
use Rattle.qc_play.proofs.evidence.make_evidence.Goals as goal

pub returns-then-not-proved-clause-shows : goal.returns-then-not-proved-clause-shows
returns-then-not-proved-clause-shows c = λ t lines.
    let cert = c.args.cert.now in
    not_proved c.args.problem.now cert.optimum t cert.outcome (sym (c.in_ok-proved.ensures.told t lines) ∙ c.if-not-proved.true)

pub proved_evidence-requires-clause-proved : goal.proved_evidence-requires-clause-proved
proved_evidence-requires-clause-proved c = λ t lines. sym (c.in_ok-proved.ensures.told t lines) ∙ c.if-not-proved.false

pub returns-clause-asked : goal.returns-clause-asked
returns-clause-asked c =
    let cert = c.args.cert.now in
    let l = c.requires in
    err_each c.proved_evidence.result (head_of_proved c.args.problem.now l.tree cert.outcome cert.optimum (sym (c.in_ok-proved.ensures.told l.tree l.is) ∙ c.if-not-proved.false))
