use Rattle.std.proofs.Common.{◌≡◌, ◌∙◌, sym, ap, rules, true}
use Rattle.std.specs.Prelude.{int_lt, ◌-ℤ◌}
use Rattle.std.proofs.lemmas.Int.{to_z-of_z}
use mir.Val.{SFits}
use mir.Syntax.{w64}
use Rattle.qc_model.specs.Domains.{values_left, least_value, greatest_value}
use Rattle.qc_model.specs.Valid.{is_number}
use Rattle.model_arguments.proofs.Values.{value_passes, has_least, has_greatest}
use Rattle.search_joint.proofs.Among.{all_between}
use Rattle.search_joint.proofs.Sizes.{difference_fits}
use Rattle.search_joint.proofs.narrowing.is_whole.Goals as goal

pub overflow_sub-result : goal.overflow_sub-result
overflow_sub-result c =
    let most_fits : SFits w64 c.max.result = search rules in
    let least_fits : SFits w64 c.min.result = search rules in
    let vs = values_left c.args.store.now.box c.args.x.0 in
    let least : is_number c.min.result ≡ true = ap is_number c.min.ensures ∙ value_passes is_number vs (least_value vs) c.known.ensures.numbers (has_least vs c.requires.some) in
    let most : is_number c.max.result ≡ true = ap is_number c.max.ensures ∙ value_passes is_number vs (greatest_value vs) c.known.ensures.numbers (has_greatest vs c.requires.some) in
    simp to_z-of_z (difference_fits c.max.result c.min.result most least)

pub returns : goal.returns
returns c = λ h.
    let most_fits : SFits w64 c.max.result = search rules in
    let least_fits : SFits w64 c.min.result = search rules in
    let size_fits : SFits w64 c.from.result = search rules in
    let vs = values_left c.args.store.now.box c.args.x.0 in
    let least : is_number c.min.result ≡ true = ap is_number c.min.ensures ∙ value_passes is_number vs (least_value vs) c.known.ensures.numbers (has_least vs c.requires.some) in
    let most : is_number c.max.result ≡ true = ap is_number c.max.ensures ∙ value_passes is_number vs (greatest_value vs) c.known.ensures.numbers (has_greatest vs c.requires.some) in
    let span_fits : SFits w64 (c.max.result -ℤ c.min.result) = difference_fits c.max.result c.min.result most least in
    let few : int_lt (c.max.result -ℤ c.min.result) c.from.result ≡ true = simp to_z-of_z at h in
    all_between vs c.min.result c.max.result c.size.result c.known.ensures.ascending c.requires.some c.min.ensures c.max.ensures c.size.ensures (sym (ap (int_lt (c.max.result -ℤ c.min.result)) c.from.ensures) ∙ few)
