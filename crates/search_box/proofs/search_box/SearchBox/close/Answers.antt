use Rattle.std.proofs.Common.{◌≡◌, ap, subst, true}
use Rattle.qc_model.specs.Domains.{is_sub_box}
use Rattle.fd_store.specs.Held.{Follows}
use Rattle.search_box.specs.Boxed.{Boxed}
use Rattle.search_box.proofs.Entering.{entered_on}
use Rattle.search_box.proofs.search_box.SearchBox.close.Goals as goal

pub returns-clause-here : goal.returns-clause-here
returns-clause-here c = λ full.
    entered_on c.args.level.now.problem.now c.args.level.now.number c.args.self.now _ c.requires
    (record {
      game = ap (λ (b : Boxed). b.game) c.self.view_is;
      values = ap (λ (b : Boxed). b.values) c.self.view_is;
      follows = subst (λ (b : Boxed). Follows b.store c.close_once.new.store) c.self.view_is c.close_once.ensures.follows;
      fewer = subst (λ (b : Boxed). is_sub_box c.close_once.new.store.box b.store.box ≡ true) c.self.view_is c.close_once.ensures.fewer;
    })
    full
