use Rattle.std.proofs.Common.{subst}
use Rattle.qc_refuter.proofs.Ready.{rule_met}
use Rattle.dense_quiet.specs.Clauses.{FoundTells}
use Rattle.dense_quiet.proofs.clauses.is_quiet_clause.Goals as goal

pub with_array-found-requires-clause-met : goal.with_array-found-requires-clause-met
with_array-found-requires-clause-met c =
    rw c.arguments-args.ensures (rule_met c.args.problem.now c.args.store.now.box c.known.ensures.domains c.requires.asked.declared c.requires.asked.full c.args.rule.now c.requires.asked.rule)

pub returns-then-is_enough : goal.returns-then-is_enough
returns-then-is_enough c = λ h takes.
    subst (λ f. FoundTells f c.args.rule.now c.args.store.now.box) (c.is_enough.ensures c.if-is_enough.true) c.with_array-found.ensures takes

pub with_array-requires-clause-met : goal.with_array-requires-clause-met
with_array-requires-clause-met c =
    rw c.arguments-args.ensures (rule_met c.args.problem.now c.args.store.now.box c.known.ensures.domains c.requires.asked.declared c.requires.asked.full c.args.rule.now c.requires.asked.rule)

pub returns : goal.returns
returns c = λ h takes.
    subst (λ f. FoundTells f c.args.rule.now c.args.store.now.box) (c.is_enough-2.ensures h) c.with_array.ensures takes
