use Rattle.std.proofs.Common.{◌∙◌, rules, tests}
use Rattle.std.proofs.lemmas.Iterator.{YieldsList-from_slice}
use Rattle.std.proofs.lemmas.Iterator.Search.{any_from_yields_List}
use Rattle.qc_model.specs.Holds.{arg_value, is_zero}
use Rattle.model_evaluation.proofs.Items.{list_any-map}
use Rattle.model_evaluation.proofs.truths.some_zero.Goals as goal

pub returns : goal.returns
returns c =
    let f = arg_value c.args.values.now in
    any_from_yields_List (λ x. is_zero (f x)) _ _ _ c.any.ensures.ran (YieldsList-from_slice c.args.items.now cc) (λ x b q k. search (rules, tests))
    ∙ list_any-map is_zero f c.args.items.now
