use Rattle.std.proofs.Common.{◌≡◌, ◌∙◌, ◌↔◌, sym, subst, IsTrue}
use Rattle.proof_tree.specs.Proves.{proves}
use Rattle.proof_tree.specs.Shape.{tree_of}
use Rattle.qc_check.specs.declared.finding.Answer.TheVariants.{Yes, NotProved}
use Rattle.qc_play.proofs.Proving.{no_head_proves, yes_proves, other_proves}
use Rattle.qc_play.proofs.judged.proves.Goals as goal

pub returns-then-not-is_head-clause-told : goal.returns-then-not-is_head-clause-told
returns-then-not-is_head-clause-told c =
    let cert = c.args.cert.now in
    sym (no_head_proves c.args.problem.now (tree_of cert.root) cert.outcome cert.optimum (sym c.is_head.ensures ∙ c.if-not-is_head.true))

pub returns-in-Yes-clause-told : goal.returns-in-Yes-clause-told
returns-in-Yes-clause-told c =
    let cert = c.args.cert.now in
    let t = tree_of cert.root in
    yes_proves (proves c.args.problem.now cert.outcome cert.optimum t) (subst (λ g. (Yes ≡ Yes) ↔ IsTrue (proves g cert.outcome cert.optimum t)) c.in_ok-space.ensures.same c.in-Yes.ensures.yes)

pub returns-clause-told : goal.returns-clause-told
returns-clause-told c =
    let cert = c.args.cert.now in
    let t = tree_of cert.root in
    other_proves (proves c.args.problem.now cert.outcome cert.optimum t) (subst (λ g. (NotProved ≡ Yes) ↔ IsTrue (proves g cert.outcome cert.optimum t)) c.in_ok-space.ensures.same c.in-NotProved.ensures.yes)
