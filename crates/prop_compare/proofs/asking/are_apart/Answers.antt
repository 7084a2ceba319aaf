use Rattle.qc_model.specs.Refuted.{left_to}
use Rattle.prop_compare.proofs.Decided.{none_apart}
use Rattle.prop_compare.proofs.asking.are_apart.Goals as goal

pub returns : goal.returns
returns c =
    let box = c.args.store.now.box in
    none_apart (left_to box c.args.a) (left_to box c.args.b) c.least_common.result c.least_common.ensures.none c.least_common.ensures.some c.is_none.result c.is_none.ensures
