use Rattle.std.proofs.Common.{◌≡◌, ◌∙◌, sym, true}
use Rattle.proof_tree.specs.Proves.{proves}
use Rattle.proof_tree.specs.Shape.{tree_of}
use Rattle.proof_tree.specs.declared.tree.Outcome.TheVariants.{False}
use Rattle.qc_play.specs.Roots.{CanReadRoot}
use Rattle.qc_play.proofs.Making.{not_proved, states, placed, lost_lost, counter_made}
use Rattle.qc_play.proofs.make.lost_counter.Goals as goal
use Rattle.qc_play.proofs.make.lost_counter.Goals.{Else-not-lost}

pub returns-then-not-lost-clause-makes : goal.returns-then-not-lost-clause-makes
returns-then-not-lost-clause-makes c = λ e q.
    let cert = c.args.cert.now in
    not_proved c.args.problem.now cert.optimum (tree_of cert.root) cert.outcome (sym c.in_ok-lost.ensures.told ∙ c.if-not-lost.true) e

proved : (c : Else-not-lost) → proves c.args.problem.now c.args.cert.now.outcome c.args.cert.now.optimum (tree_of c.args.cert.now.root) ≡ true
proved c = sym c.in_ok-lost.ensures.told ∙ c.if-not-lost.false

pub counter_of_root-requires : goal.counter_of_root-requires
counter_of_root-requires c =
    let cert = c.args.cert.now in
    let on = placed c.args.problem.now cert.optimum (tree_of cert.root) cert.outcome (proved (goal.at.counter_of_root-requires c).Else-not-lost) in
    (tree_of cert.root, c.as_slice.ensures.value ∙ c.in_ok-lines.ensures, record { placed = on; answered = c.trees_answer_all_tuples.ensures c.args.problem.now (tree_of cert.root) c.known.ensures on; few = cert.few_ends })

pub returns-clause-makes : goal.returns-clause-makes
returns-clause-makes c =
    let cert = c.args.cert.now in
    let t = tree_of cert.root in
    let shown = proved (goal.at.returns-clause-makes c).Else-not-lost in
    let on = placed c.args.problem.now cert.optimum (tree_of cert.root) cert.outcome shown in
    let e = states c.args.problem.now cert.optimum (tree_of cert.root) cert.outcome False c.requires shown in
    let root : CanReadRoot c.args.problem.now t = record { placed = on; answered = c.trees_answer_all_tuples.ensures c.args.problem.now t c.known.ensures on; few = cert.few_ends } in
    counter_made c.args.problem.now cert.optimum (tree_of cert.root) cert.outcome c.in_ok-counter.counter c.requires e (c.outcomes_are_true.ensures c.args.problem.now False cert.optimum t c.known.ensures e)
    (c.in_ok-counter.ensures t (c.as_slice.ensures.value ∙ c.in_ok-lines.ensures) root (lost_lost c.args.problem.now cert.optimum (tree_of cert.root) cert.outcome e))
