use Rattle.prop_engine.proofs.Passed.{passed_more}
use Rattle.prop_engine.proofs.Watched.{rule_sees}
use Rattle.prop_engine.proofs.skipping.first_from.Goals as goal

pub is_always_idle-requires : goal.is_always_idle-requires
is_always_idle-requires c = record { sees = rule_sees c.args.problem.now c.args.k c.constraint.result.now c.known.ensures c.constraint.ensures }

pub returns-then-is_always_idle-clause-passed : goal.returns-then-is_always_idle-clause-passed
returns-then-is_always_idle-clause-passed c =
    passed_more c.args.problem.now c.args.k c.args.later c.constraint.result.now c.constraint.ensures (c.is_always_idle.ensures c.if-is_always_idle.true) c.requires.passed
