use Rattle.std.proofs.Common.{◌≡◌, ◌∙◌, ◌-ℤ◌, ap, subst, true, pos}
use Rattle.qc_model.specs.Domains.{values_left, has_value}
use Rattle.qc_model.specs.Valid.{is_number}
use Rattle.model_arguments.proofs.Values.{value_passes}
use Rattle.fd_store.specs.Held.{values_up_to, greatest_of}
use Rattle.search_box.specs.Boxed.{Boxed}
use Rattle.search_box.specs.Rests.{IsPrevious}
use Rattle.box_laws.proofs.Numbers.{fits_before, passed_before}
use Rattle.search_box.proofs.Orders.{previous_is}
use Rattle.search_box.proofs.search_box.SearchBox.previous.Goals as goal

pub overflow_sub-v : goal.overflow_sub-v
overflow_sub-v c =
    let x = c.args.x.0 in
    let left : has_value (values_left c.self.inside.store.box x) c.args.v ≡ true = ap (λ (b : Boxed). has_value (values_left b.store.box x) c.args.v) c.self.view_is ∙ c.requires.left in
    fits_before c.args.v (value_passes is_number (values_left c.self.inside.store.box x) c.args.v c.known.ensures.numbers left)

pub returns : goal.returns
returns c =
    let x = c.args.x.0 in
    let v = c.args.v in
    let vs = values_left c.self.inside.store.box x in
    let left : has_value vs v ≡ true = ap (λ (b : Boxed). has_value (values_left b.store.box x) v) c.self.view_is ∙ c.requires.left in
    let small : is_number v ≡ true = value_passes is_number vs v c.known.ensures.numbers left in
    let found : c.prev.result ≡ greatest_of (values_up_to (v -ℤ pos 1) vs) = c.prev.ensures ∙ ap (λ n. greatest_of (values_up_to n vs)) (passed_before v small) in
    subst (λ (b : Boxed). IsPrevious (values_left b.store.box x) v c.prev.result) c.self.view_is (previous_is vs v c.prev.result c.known.ensures.ascending left found)
