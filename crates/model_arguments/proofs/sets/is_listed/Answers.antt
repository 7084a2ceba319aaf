use Rattle.std.proofs.Common.{◌∙◌, ap}
use Rattle.std.specs.List.{list_any}
use Rattle.std.specs.Ordering.{int_eq}
use Rattle.std.proofs.lemmas.Int.{to_z-of_z}
use mir.Val.{to_z, of_z}
use mir.Syntax.{w64}
use Rattle.qc_model.proofs.Places.{found_in_order}
use Rattle.model_arguments.proofs.sets.is_listed.Goals as goal

pub returns : goal.returns
returns c =
    c.is_ok.ensures.value
    ∙ found_in_order c.args.numbers.now (to_z w64 (of_z w64 c.args.number)) c.binary_search.result c.requires c.binary_search.ensures.bound c.binary_search.ensures.position
    ∙ ap (λ x. list_any (int_eq x) c.args.numbers.now) (to_z-of_z w64 c.args.number c.ranges.number)
