use Rattle.std.proofs.Common.{◌∙◌, ap, List}
use Rattle.qc_model.specs.Content.{Rule}
use Rattle.dense_tree.specs.Tuples.{all_hold}
use Rattle.dense_box.proofs.Rows.{own_rules}
use Rattle.dense_box.proofs.constraints.is_entailed_throughout.Goals as goal

pub returns : goal.returns
returns c = c.all_entailed.ensures ∙ ap (λ (cs : List Rule). all_hold cs c.args.store.now.box) (own_rules c.args.levels.now.problem.now c.args.i.0)
