use Rattle.qc_model.specs.declared.problem.Arg.TheVariants.{Var}
use Rattle.prop_bool.proofs.Places.{plain_at, negated_at}
use Rattle.prop_bool.proofs.literals.literal_at.Goals as goal

pub returns-then-k-plain : goal.returns-then-k-plain
returns-then-k-plain c = plain_at c.args.plain.now c.args.negated.now c.args.k (Var (record { 0 = 0 })) c.if-k-plain.true

pub returns-else-k-plain : goal.returns-else-k-plain
returns-else-k-plain c = negated_at c.args.plain.now c.args.negated.now c.args.k (Var (record { 0 = 0 })) c.if-k-plain.false c.requires
