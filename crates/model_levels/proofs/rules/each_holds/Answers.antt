use Rattle.qc_model.specs.Valid.{is_constraint}
use Rattle.model_levels.proofs.Items.{all_item}
use Rattle.model_levels.proofs.rules.each_holds.Goals as goal

pub satisfies-requires-clause-rule : goal.satisfies-requires-clause-rule
satisfies-requires-clause-rule c =
    all_item (is_constraint c.args.problem.now.variables) c.args.rules.now c.loop-rule.rule-index c.rule-item.result c.requires.rules c.loop-rule-test.true c.rule-item.is
