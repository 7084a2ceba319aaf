use Rattle.std.proofs.Common.{◌≡◌, true, subst}
use Rattle.model_arguments.specs.Asked.{is_box_of}
use Rattle.search_box.specs.Boxed.{Boxed}
use Rattle.box_laws.proofs.Readings.{box_size}
use Rattle.search_box.proofs.search_box.SearchBox.known.Goals as goal

pub returns-clause-size : goal.returns-clause-size
returns-clause-size c =
    let P : Boxed → Type 0 = λ b. is_box_of b.game b.store.box ≡ true in
    box_size c.args.self.now.game c.args.self.now.store.box (subst P c.self.view_is c.self.invariant.declared)
