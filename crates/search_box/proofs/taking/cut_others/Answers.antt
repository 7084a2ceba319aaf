use Rattle.std.proofs.Common.{◌≡◌, ◌∙◌, sym, ap, subst, true}
use Rattle.std.specs.Prelude.{negsuc, pos, ◌+ℤ◌, ◌-ℤ◌}
use Rattle.qc_model.specs.Domains.{values_left, has_value, box_without}
use Rattle.qc_model.specs.Valid.{is_number}
use Rattle.model_arguments.proofs.Values.{value_passes}
use Rattle.search_box.proofs.Keeping.{passed_number, left_above, one_kept}
use Rattle.search_box.proofs.taking.cut_others.Goals as goal

pub cut_below-requires-clause-left : goal.cut_below-requires-clause-left
cut_below-requires-clause-left c =
    let vs = values_left c.args.store.now.box c.args.x.0 in
    let small : is_number c.args.v ≡ true = value_passes is_number vs c.args.v c.known.ensures.numbers c.requires.left in
    subst (λ z. has_value vs z ≡ true) (sym (passed_number c.args.v small)) c.requires.left

pub cut_above-requires-clause-left : goal.cut_above-requires-clause-left
cut_above-requires-clause-left c =
    let x = c.args.x.0 in
    let v = c.args.v in
    let box = c.args.store.now.box in
    let small : is_number v ≡ true = value_passes is_number (values_left box x) v c.known.ensures.numbers c.requires.left in
    let low = c.in_ok-cut_below.ensures.content ∙ ap (λ z. box_without box x (negsuc 999999999) (z -ℤ pos 1)) (passed_number v small) in
    subst (λ z. has_value (values_left c.cut_below.new.store.box x) z ≡ true) (sym (passed_number v small)) (left_above box c.cut_below.new.store.box x v c.requires.var low c.requires.left)

pub returns-clause-content : goal.returns-clause-content
returns-clause-content c =
    let x = c.args.x.0 in
    let v = c.args.v in
    let box = c.args.store.now.box in
    let small : is_number v ≡ true = value_passes is_number (values_left box x) v c.known.ensures.numbers c.requires.left in
    let low = c.in_ok-cut_below.ensures.content ∙ ap (λ z. box_without box x (negsuc 999999999) (z -ℤ pos 1)) (passed_number v small) in
    let high = c.in_ok-cut_above.ensures.content ∙ ap (λ z. box_without c.cut_below.new.store.box x (z +ℤ pos 1) (pos 1000000000)) (passed_number v small) in
    one_kept box c.cut_below.new.store.box c.cut_above.new.store.box x v c.requires.var c.known.ensures.numbers c.known.ensures.ascending c.requires.left low high
