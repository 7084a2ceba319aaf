use Rattle.std.proofs.Common.{◌≡◌, true, sym, subst, List}
use Rattle.fd_store.specs.declared.store.Mark.{Mark}
use Rattle.model_arguments.specs.Asked.{is_box_of}
use Rattle.dense_board.specs.Saved.{AreSaved}
use Rattle.dense_board.proofs.Marks.{saved_last, saved_back}
use Rattle.dense_board.proofs.board.Board.restore.Goals as goal

pub undo_to-requires-clause-at : goal.undo_to-requires-clause-at
undo_to-requires-clause-at c =
    let b = c.args.self.now in
    let h = subst (λ (ms : List Mark). AreSaved b.levels.problem.now b.remains ms) c.in-Some.ensures.some b.saves in
    (saved_last b.levels.problem.now b.remains c.pop_mark.new.marks.items c.in-Some.mark h).at

pub undo_to-requires-clause-full : goal.undo_to-requires-clause-full
undo_to-requires-clause-full c =
    let b = c.args.self.now in
    let h = subst (λ (ms : List Mark). AreSaved b.levels.problem.now b.remains ms) c.in-Some.ensures.some b.saves in
    (saved_last b.levels.problem.now b.remains c.pop_mark.new.marks.items c.in-Some.mark h).full

pub invariant_of-self-in-Some-clause-declared : goal.invariant_of-self-in-Some-clause-declared
invariant_of-self-in-Some-clause-declared c =
    let b = c.args.self.now in
    let h = subst (λ (ms : List Mark). AreSaved b.levels.problem.now b.remains ms) c.in-Some.ensures.some b.saves in
    subst (λ box. is_box_of b.levels.problem.now box ≡ true) (sym c.undo_to.ensures.content) (saved_last b.levels.problem.now b.remains c.pop_mark.new.marks.items c.in-Some.mark h).declared

pub invariant_of-self-in-Some-clause-saves : goal.invariant_of-self-in-Some-clause-saves
invariant_of-self-in-Some-clause-saves c =
    let b = c.args.self.now in
    let h = subst (λ (ms : List Mark). AreSaved b.levels.problem.now b.remains ms) c.in-Some.ensures.some b.saves in
    saved_back b.levels.problem.now b.remains c.undo_to.new.self c.pop_mark.new.marks.items c.in-Some.mark h c.undo_to.ensures.past
