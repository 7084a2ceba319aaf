use Rattle.prop_yard.proofs.Boxes.{undone}
use Rattle.prop_yard.proofs.closing.lose_and_undo.Goals as goal

pub returns-clause-content : goal.returns-clause-content
returns-clause-content g c =
    undone c.args.store.now c.lose_least.new.store c.undo_to.new.self c.mark-mark.result.at c.mark-mark.ensures c.lose_least.ensures.past c.undo_to.ensures.content
