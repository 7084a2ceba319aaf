use Rattle.std.proofs.Common.{◌∙◌, rules, tests}
use Rattle.std.proofs.lemmas.Iterator.{YieldsList-from_slice}
use Rattle.std.proofs.lemmas.Iterator.Search.{all_from_yields_List}
use Rattle.qc_model.specs.Holds.{arg_value, is_one}
use Rattle.model_evaluation.proofs.Items.{list_all-map}
use Rattle.model_evaluation.proofs.truths.all_ones.Goals as goal

pub returns : goal.returns
returns c =
    let f = arg_value c.args.values.now in
    all_from_yields_List (λ x. is_one (f x)) _ _ _ c.all.ensures.ran (YieldsList-from_slice c.args.items.now cc) (λ x b q k. search (rules, tests))
    ∙ list_all-map is_one f c.args.items.now
