use Rattle.std.proofs.Common.{sym, append-nil}
use Rattle.qc_io.proofs.Known.{moves_none}
use Rattle.qecode_commands.proofs.gap.put_if_open.Goals as goal

pub returns-in-True-clause-ok : goal.returns-in-True-clause-ok
returns-in-True-clause-ok g c = rw c.in-True.is (moves_none _ _ _ (sym (append-nil c.args.pieces.now)))

pub returns-in-False-clause-ok : goal.returns-in-False-clause-ok
returns-in-False-clause-ok g c = rw c.in-False.is (moves_none _ _ _ (sym (append-nil c.args.pieces.now)))
