use Rattle.std.proofs.Common.{◌≡◌, ◌∙◌, ap, rules, true}
use Rattle.std.proofs.lemmas.Int.{to_z-of_z}
use mir.Val.{SFits}
use mir.Syntax.{w64}
use Rattle.qc_model.specs.Domains.{values_left, least_value, greatest_value}
use Rattle.qc_model.specs.Valid.{is_number}
use Rattle.model_arguments.proofs.Values.{value_passes, has_least, has_greatest}
use Rattle.search_joint.proofs.narrowing.narrow.Goals as goal

pub keep_between-requires-clause-lo : goal.keep_between-requires-clause-lo
keep_between-requires-clause-lo c =
    let fits : SFits w64 c.min.result = search rules in
    let vs = values_left c.args.to.now.box c.args.x.0 in
    let least : is_number c.min.result ≡ true = ap is_number c.min.ensures ∙ value_passes is_number vs (least_value vs) c.known.ensures.numbers (has_least vs c.requires.some_there) in
    simp to_z-of_z least

pub keep_between-requires-clause-hi : goal.keep_between-requires-clause-hi
keep_between-requires-clause-hi c =
    let fits : SFits w64 c.max.result = search rules in
    let vs = values_left c.args.to.now.box c.args.x.0 in
    let most : is_number c.max.result ≡ true = ap is_number c.max.ensures ∙ value_passes is_number vs (greatest_value vs) c.known.ensures.numbers (has_greatest vs c.requires.some_there) in
    simp to_z-of_z most
