use Rattle.std.proofs.Common.{sym}
use Rattle.dense_board.proofs.Marks.{saved_pushed}
use Rattle.dense_board.proofs.board.Board.save.Goals as goal

pub invariant_of-self-clause-saves : goal.invariant_of-self-clause-saves
invariant_of-self-clause-saves c =
    let b = c.args.self.now in
    saved_pushed b.levels.problem.now b.remains b.saved.items c.push_mark.new.marks.items c.mark-mark.result b.saves c.mark-mark.ensures b.declared (sym c.if-is_empty.ensures) c.push_mark.ensures
