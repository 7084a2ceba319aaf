use Rattle.std.proofs.Common.{◌∙◌, sym}
use Rattle.dense_close.proofs.Found.{found_none, lost_empty}
use Rattle.dense_close.proofs.closer.Closer.close.Goals as goal

pub returns-then-is_empty-clause-closed : goal.returns-then-is_empty-clause-closed
returns-then-is_empty-clause-closed c =
    let g = c.args.levels.now.problem.now in
    found_none c.args.taking g c.known.ensures c.args.from c.args.stop c.args.remains.now.box c.requires.declared (lost_empty c.args.taking g c.args.from c.args.stop c.args.remains.now.box (sym c.is_empty.ensures ∙ c.if-is_empty.true))
