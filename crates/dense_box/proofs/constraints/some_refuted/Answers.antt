use Rattle.std.proofs.Common.{◌∙◌, ap, List}
use Rattle.qc_model.specs.Content.{Rule}
use Rattle.dense_tree.specs.Tuples.{some_fails}
use Rattle.dense_box.proofs.Rows.{own_rules}
use Rattle.dense_box.proofs.constraints.some_refuted.Goals as goal

pub span_refuted-requires-clause-within : goal.span_refuted-requires-clause-within
span_refuted-requires-clause-within c = c.constraints_between.ensures.within

pub returns : goal.returns
returns c =
    c.span_refuted.ensures
    ∙ (ap (λ (cs : List Rule). some_fails cs c.args.store.now.box) c.constraints_between.ensures.slice
    ∙ ap (λ (cs : List Rule). some_fails cs c.args.store.now.box) (own_rules c.args.levels.now.problem.now c.args.i.0))
