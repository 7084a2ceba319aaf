use Rattle.std.proofs.Common.{◌≡◌, ◌∙◌, ◌+ℤ◌, ap, subst, true, pos}
use Rattle.qc_model.specs.Domains.{values_left, has_value}
use Rattle.qc_model.specs.Valid.{is_number}
use Rattle.model_arguments.proofs.Values.{value_passes}
use Rattle.fd_store.specs.Held.{values_from, least_of}
use Rattle.search_box.specs.Boxed.{Boxed}
use Rattle.search_box.specs.Rests.{IsNext}
use Rattle.box_laws.proofs.Numbers.{fits_after, passed_after}
use Rattle.search_box.proofs.Orders.{next_is}
use Rattle.search_box.proofs.search_box.SearchBox.next.Goals as goal

pub overflow_add-v : goal.overflow_add-v
overflow_add-v c =
    let x = c.args.x.0 in
    let left : has_value (values_left c.self.inside.store.box x) c.args.v ≡ true = ap (λ (b : Boxed). has_value (values_left b.store.box x) c.args.v) c.self.view_is ∙ c.requires.left in
    fits_after c.args.v (value_passes is_number (values_left c.self.inside.store.box x) c.args.v c.known.ensures.numbers left)

pub returns : goal.returns
returns c =
    let x = c.args.x.0 in
    let v = c.args.v in
    let vs = values_left c.self.inside.store.box x in
    let left : has_value vs v ≡ true = ap (λ (b : Boxed). has_value (values_left b.store.box x) v) c.self.view_is ∙ c.requires.left in
    let small : is_number v ≡ true = value_passes is_number vs v c.known.ensures.numbers left in
    let found : c.next.result ≡ least_of (values_from (v +ℤ pos 1) vs) = c.next.ensures ∙ ap (λ n. least_of (values_from n vs)) (passed_after v small) in
    subst (λ (b : Boxed). IsNext (values_left b.store.box x) v c.next.result) c.self.view_is (next_is vs v c.next.result c.known.ensures.ascending left found)
