use Rattle.model_levels.proofs.SpanLaws.{variables_all}
use Rattle.model_levels.proofs.levels.Levels.new.Goals as goal

pub invariant_of-result-clause-has_all : goal.invariant_of-result-clause-has_all
invariant_of-result-clause-has_all c = variables_all c.args.problem.now c.known.ensures
