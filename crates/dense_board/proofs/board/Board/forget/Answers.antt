use Rattle.dense_board.proofs.Marks.{saved_popped}
use Rattle.dense_board.proofs.board.Board.forget.Goals as goal

pub invariant_of-self-clause-saves : goal.invariant_of-self-clause-saves
invariant_of-self-clause-saves c =
    let b = c.args.self.now in
    saved_popped b.levels.problem.now b.remains b.saved.items c.pop_mark.new.marks.items c.pop_mark.result c.pop_mark.ensures.none c.pop_mark.ensures.some b.saves
