use Rattle.dense_board.proofs.Marks.{saved_on}
use Rattle.dense_board.proofs.board.Board.take.Goals as goal

pub invariant_of-self-2-clause-declared : goal.invariant_of-self-2-clause-declared
invariant_of-self-2-clause-declared c = c.take_tuple.ensures.fewer _ c.args.self.now.declared

pub invariant_of-self-2-clause-saves : goal.invariant_of-self-2-clause-saves
invariant_of-self-2-clause-saves c = saved_on _ _ _ _ c.args.self.now.saves c.take_tuple.ensures.past
