use Rattle.std.proofs.Common.{◌∙◌, sym}
use Rattle.qc_play.proofs.Judging.{none_proves, some_proves}
use Rattle.qc_play.proofs.Proving.{no_head_proves}
use Rattle.qc_play.proofs.judged.lines_prove.Goals as goal

pub returns-then-not-is_head-clause-told : goal.returns-then-not-is_head-clause-told
returns-then-not-is_head-clause-told c = λ t e.
    let cert = c.args.cert.now in
    sym (no_head_proves c.args.problem.now t cert.outcome cert.optimum (sym c.is_head.ensures ∙ c.if-not-is_head.true))

pub returns-in-None-clause-told : goal.returns-in-None-clause-told
returns-in-None-clause-told c = λ t e.
    let cert = c.args.cert.now in
    none_proves c.args.problem.now cert.outcome cert.optimum cert.lines.items c.requires t e c.in_ok-judge_lines.field-0 c.in-None.is (λ u q. c.in_ok-judge_lines.ensures.all u (c.as_slice.ensures.value ∙ q))

pub returns-in-Some-clause-told : goal.returns-in-Some-clause-told
returns-in-Some-clause-told c = λ t e.
    let cert = c.args.cert.now in
    some_proves c.args.problem.now cert.outcome cert.optimum cert.lines.items c.requires t e c.in_ok-judge_lines.field-0 c.in-Some.answer c.shows.result c.in-Some.is (λ a q. let k = c.in_ok-judge_lines.ensures.right a q in (k.0, sym c.as_slice.ensures.value ∙ k.1, k.2)) c.shows.ensures
