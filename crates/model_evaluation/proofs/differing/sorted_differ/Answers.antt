use Rattle.std.proofs.Common.{◌∙◌, subst}
use Rattle.std.specs.List.Sorted.{IsPermutation}
use Rattle.model_evaluation.specs.Evaluation.{item_values}
use Rattle.model_evaluation.proofs.Distinct.{differ_sorted}
use Rattle.model_evaluation.proofs.differing.sorted_differ.Goals as goal

pub returns : goal.returns
returns c =
    let vs = item_values c.args.values.now c.args.items.now in
    let sorted = c.sort_unstable.new.self in
    c.ascends.ensures
    ∙ differ_sorted vs sorted (subst (λ xs. IsPermutation xs sorted) c.write_values.ensures c.sort_unstable.ensures.permutation) c.sort_unstable.ensures.sorted
