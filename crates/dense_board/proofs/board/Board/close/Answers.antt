use Rattle.dense_board.proofs.Marks.{saved_on}
use Rattle.dense_board.proofs.board.Board.close.Goals as goal

pub invariant_of-self-clause-declared : goal.invariant_of-self-clause-declared
invariant_of-self-clause-declared c = c.close.ensures.declared

pub invariant_of-self-clause-saves : goal.invariant_of-self-clause-saves
invariant_of-self-clause-saves c = saved_on _ _ _ _ c.args.self.now.saves c.close.ensures.past
