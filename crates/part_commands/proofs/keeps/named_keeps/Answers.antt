use Rattle.std.proofs.lemmas.Result.{IfOk-weaker}
use Rattle.part_commands.proofs.Naming.{are_keeps}
use Rattle.part_commands.proofs.keeps.named_keeps.Goals as goal

pub returns-clause-kept : goal.returns-clause-kept
returns-clause-kept c = IfOk-weaker c.find_keeps.result _ _ (λ found e. are_keeps c.args.problem.now c.args.keeps.now found.items c.requires.ranges e) c.find_keeps.ensures.named
