use Rattle.std.proofs.Common.{subst}
use Rattle.model_levels.specs.Spans.{IsSpanOf}
use Rattle.dense_close.proofs.Found.{empty_span}
use Rattle.dense_close.proofs.closer.span_of.Goals as goal

pub returns-then-from-stop : goal.returns-then-from-stop
returns-then-from-stop c = subst (λ n. IsSpanOf c.args.levels.now.problem.now c.args.from n 0 0) c.if-from-stop.true (empty_span c.args.levels.now.problem.now c.args.from)
