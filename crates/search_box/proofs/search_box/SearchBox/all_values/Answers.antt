use Rattle.std.proofs.Common.{◌≡◌, ◌∙◌, ap, length, subst}
use Rattle.qc_model.specs.Valid.{IsValid}
use Rattle.search_box.specs.Boxed.{Boxed}
use Rattle.search_box.proofs.Entering.{all_stand}
use Rattle.search_box.proofs.search_box.SearchBox.all_values.Goals as goal

pub returns : goal.returns
returns c = λ g h.
    let P : Boxed → Type 0 = λ b. length b.values ≡ length b.game.variables in
    c.as_slice.ensures.value
    ∙ (ap (λ (b : Boxed). b.values) c.self.view_is
    ∙ all_stand g c.args.self.now (subst (λ (b : Boxed). IsValid b.game) c.self.view_is c.known.ensures) (subst P c.self.view_is c.self.invariant.value_each) h)
