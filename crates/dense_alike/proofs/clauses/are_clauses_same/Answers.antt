use Rattle.std.proofs.Common.{not, sym}
use Rattle.proof_alike.specs.Alike.{is_looked_at}
use Rattle.dense_alike.proofs.clauses.are_clauses_same.Goals as goal

pub returns-then-has_same_values : goal.returns-then-has_same_values
returns-then-has_same_values c = sym (c.has_same_values.ensures c.if-has_same_values.true (λ x. not (is_looked_at c.args.reads.now c.args.i.0 x)))
