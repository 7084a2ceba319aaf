use Rattle.model_evaluation.proofs.Readable.{constraint_readable}
use Rattle.model_evaluation.proofs.evaluate.satisfies.Goals as goal

pub holds_plainly-requires : goal.holds_plainly-requires
holds_plainly-requires c =
    rw c.arguments-args.ensures
    (constraint_readable c.args.problem.now.variables c.args.rule.now c.args.values.now c.requires.rule c.requires.values)

pub holds_reified-requires : goal.holds_reified-requires
holds_reified-requires c =
    rw c.arguments-args.ensures
    (constraint_readable c.args.problem.now.variables c.args.rule.now c.args.values.now c.requires.rule c.requires.values)
