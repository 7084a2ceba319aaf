use Rattle.std.proofs.Common.{◌+◌, arith}
use Rattle.proof_text.proofs.LevelsKept.{entered_at}
use Rattle.proof_text.proofs.levels.mark.Goals as goal

pub returns : goal.returns
returns c = λ version. entered_at version c.args.marks.now c.args.level (c.from.result + 1) c.args.branch (omega arith) c.requires
