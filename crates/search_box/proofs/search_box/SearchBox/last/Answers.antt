use Rattle.std.proofs.Common.{◌≡◌, ◌∙◌, ap, subst, rules}
use Rattle.std.proofs.lemmas.Int.{to_z-of_z}
use mir.Val.{SFits}
use mir.Syntax.{w64}
use Rattle.qc_model.specs.Domains.{is_none_left, values_left}
use Rattle.model_arguments.proofs.Boxes.{some_left}
use Rattle.search_box.specs.Boxed.{Boxed}
use Rattle.search_box.specs.Rests.{IsLast}
use Rattle.search_box.proofs.Orders.{last_is}
use Rattle.search_box.proofs.search_box.SearchBox.last.Goals as goal

pub returns : goal.returns
returns c =
    let fits : SFits w64 c.max.result = search rules in
    let x = c.args.x.0 in
    let left : values_left c.self.inside.store.box x ≡ values_left c.args.self.now.store.box x = ap (λ (b : Boxed). values_left b.store.box x) c.self.view_is in
    let is : IsLast (values_left c.args.self.now.store.box x) c.max.result =
    subst (λ vs. IsLast vs c.max.result) left (last_is (values_left c.self.inside.store.box x) c.max.result c.known.ensures.ascending (ap is_none_left left ∙ some_left c.args.self.now.store.box x c.requires.full c.requires.var) c.max.ensures) in
    simp to_z-of_z is
