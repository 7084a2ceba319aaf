use Rattle.std.proofs.Common.{subst}
use Rattle.fd_store.specs.Held.{IsUndone}
use Rattle.qc_cascade.proofs.Back.{box_back, past_back}
use Rattle.qc_cascade.proofs.entering.look_ahead.Goals as goal

pub returns-clause-content : goal.returns-clause-content
returns-clause-content g c =
    let led = c.first_empty-entered.new.store in
    let left = c.undo_to.new.self in
    box_back c.args.store.now led left c.first_empty-entered.ensures.follows (subst (λ n. IsUndone n led left) c.mark-mark.ensures c.undo_to.ensures.past)

pub returns-clause-past : goal.returns-clause-past
returns-clause-past g c =
    let led = c.first_empty-entered.new.store in
    let left = c.undo_to.new.self in
    past_back c.args.store.now led left c.first_empty-entered.ensures.follows (subst (λ n. IsUndone n led left) c.mark-mark.ensures c.undo_to.ensures.past)
