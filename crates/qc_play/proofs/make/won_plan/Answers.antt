use Rattle.std.proofs.Common.{◌≡◌, ◌∙◌, sym, true}
use Rattle.proof_tree.specs.Proves.{proves}
use Rattle.proof_tree.specs.Shape.{tree_of}
use Rattle.proof_tree.specs.declared.tree.Outcome.TheVariants.{True}
use Rattle.qc_play.specs.Roots.{CanReadRoot}
use Rattle.qc_play.proofs.Making.{not_proved, states, placed, won_exact, plan_made}
use Rattle.qc_play.proofs.make.won_plan.Goals as goal
use Rattle.qc_play.proofs.make.won_plan.Goals.{Else-not-won}

pub returns-then-not-won-clause-makes : goal.returns-then-not-won-clause-makes
returns-then-not-won-clause-makes c = λ e q.
    let cert = c.args.cert.now in
    not_proved c.args.problem.now cert.optimum (tree_of cert.root) cert.outcome (sym c.in_ok-won.ensures.told ∙ c.if-not-won.true) e

proved : (c : Else-not-won) → proves c.args.problem.now c.args.cert.now.outcome c.args.cert.now.optimum (tree_of c.args.cert.now.root) ≡ true
proved c = sym c.in_ok-won.ensures.told ∙ c.if-not-won.false

pub plan_of_root-requires : goal.plan_of_root-requires
plan_of_root-requires c =
    let cert = c.args.cert.now in
    let on = placed c.args.problem.now cert.optimum (tree_of cert.root) cert.outcome (proved (goal.at.plan_of_root-requires c).Else-not-won) in
    (tree_of cert.root, c.as_slice.ensures.value ∙ c.in_ok-lines.ensures, record { placed = on; answered = c.trees_answer_all_tuples.ensures c.args.problem.now (tree_of cert.root) c.known.ensures on; few = cert.few_ends })

pub returns-clause-makes : goal.returns-clause-makes
returns-clause-makes c =
    let cert = c.args.cert.now in
    let t = tree_of cert.root in
    let shown = proved (goal.at.returns-clause-makes c).Else-not-won in
    let on = placed c.args.problem.now cert.optimum (tree_of cert.root) cert.outcome shown in
    let e = states c.args.problem.now cert.optimum (tree_of cert.root) cert.outcome True c.requires shown in
    let root : CanReadRoot c.args.problem.now t = record { placed = on; answered = c.trees_answer_all_tuples.ensures c.args.problem.now t c.known.ensures on; few = cert.few_ends } in
    plan_made c.args.problem.now cert.optimum (tree_of cert.root) cert.outcome c.in_ok-plan.plan c.requires e (c.outcomes_are_true.ensures c.args.problem.now True cert.optimum t c.known.ensures e)
    (c.in_ok-plan.ensures t (c.as_slice.ensures.value ∙ c.in_ok-lines.ensures) root (won_exact c.args.problem.now cert.optimum (tree_of cert.root) cert.outcome e))
