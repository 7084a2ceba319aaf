use Rattle.std.proofs.Common.{sym, subst}
use Rattle.likeness.specs.Likeness.{IsLike}
use Rattle.check_lines.specs.Machine.{game_of}
use Rattle.qc_check.specs.Keeping.{values_due}
use Rattle.qc_check.proofs.Beginning.{like_due}
use Rattle.qc_check.proofs.progress.Checker.look_up.Goals as goal

pub returns-clause-like : goal.returns-clause-like
returns-clause-like c =
    let m = c.args.self.now.machine in
    let due = c.requires.due in
    subst (λ i. IsLike (game_of m) i (values_due m) m.remains.box) (sym due.scope) (like_due m c.requires.ready due.due (c.is_fresh.ensures c.if-not-is_fresh.false))
