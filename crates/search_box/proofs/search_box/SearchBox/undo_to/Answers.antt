use Rattle.std.proofs.Common.{sym, subst}
use Rattle.fd_store.specs.Held.{Follows}
use Rattle.search_box.specs.Boxed.{Boxed}
use Rattle.box_laws.proofs.Trails.{box_back, past_back}
use Rattle.search_box.proofs.search_box.SearchBox.undo_to.Goals as goal

pub returns-clause-back : goal.returns-clause-back
returns-clause-back c = λ s at f.
    let on = subst (λ (b : Boxed). Follows s b.store) (sym c.self.view_is) f in
    (box_back s c.self.inside.store c.undo_to.new.self c.args.mark.at at on c.undo_to.ensures.past, past_back s c.self.inside.store c.undo_to.new.self c.args.mark.at at on c.undo_to.ensures.past)
