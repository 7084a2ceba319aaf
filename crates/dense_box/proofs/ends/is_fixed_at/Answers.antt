use Rattle.std.proofs.Common.{◌∙◌}
use Rattle.dense_box.proofs.Known.{fixed_told}
use Rattle.dense_box.proofs.ends.is_fixed_at.Goals as goal

pub returns : goal.returns
returns c =
    let l = c.level.result.now in
    c.is_fixed.ensures ∙ fixed_told c.args.levels.now.problem.now l.problem.now c.args.i.0 l.number c.level.ensures.problem c.level.ensures.number c.store.result.now c.args.remains.now c.store.ensures
