use Rattle.qc_model.proofs.Scopes.{block_end_at}
use Rattle.qc_model.proofs.valid_problem.Problem.block_end.Goals as goal

pub returns : goal.returns
returns c = rw (c.count_existential.ensures.count, c.split_at.ensures.back, c.all_scopes.ensures) (block_end_at c.args.self.now c.args.i.0 c.requires)
