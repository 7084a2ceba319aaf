use Rattle.std.proofs.Common.{◌∙◌, ap, List}
use Rattle.qc_model.specs.Content.{Rule}
use Rattle.dense_tree.specs.Tuples.{all_hold}
use Rattle.dense_box.proofs.constraints.all_entailed.Goals as goal

pub span_entailed-requires-clause-within : goal.span_entailed-requires-clause-within
span_entailed-requires-clause-within c = c.constraints_between.ensures.within

pub returns : goal.returns
returns c = c.span_entailed.ensures ∙ ap (λ (cs : List Rule). all_hold cs c.args.store.now.box) c.constraints_between.ensures.slice
