use Rattle.std.proofs.Common.{◌≡◌, true, sym, subst, List}
use Rattle.fd_store.specs.declared.store.Mark.{Mark}
use Rattle.qc_model.specs.Content.{Game}
use Rattle.std.specs.List.{list_all}
use Rattle.qc_model.specs.Valid.{is_domain}
use Rattle.box_laws.proofs.Declared.{declared_is}
use Rattle.dense_board.specs.Saved.{AreSaved}
use Rattle.dense_board.proofs.Marks.{saved_none}
use Rattle.dense_board.proofs.board.Board.new.Goals as goal

pub invariant_of-result-clause-declared : goal.invariant_of-result-clause-declared
invariant_of-result-clause-declared c =
    let e : c.in_ok-levels.levels.problem.now ≡ c.args.problem.now = c.in_ok-levels.ensures in
    declared_is c.in_ok-levels.levels.problem.now c.give_each.new.remains.box (subst (λ (g : Game). list_all (λ x. is_domain x.domain) g.variables ≡ true) (sym e) c.known.ensures.domains) c.give_each.ensures.content

pub invariant_of-result-clause-saves : goal.invariant_of-result-clause-saves
invariant_of-result-clause-saves c =
    subst (λ (ms : List Mark). AreSaved c.in_ok-levels.levels.problem.now c.give_each.new.remains ms) (sym c.new-9.ensures.items) (saved_none c.in_ok-levels.levels.problem.now c.give_each.new.remains)
