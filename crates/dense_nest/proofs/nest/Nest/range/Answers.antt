use Rattle.std.proofs.Common.{rules}
use Rattle.std.proofs.lemmas.Int.{to_z-of_z}
use mir.Val.{SFits}
use mir.Syntax.{w64}
use Rattle.dense_nest.proofs.Casing.{range_tells}
use Rattle.dense_nest.proofs.nest.Nest.range.Goals as goal

pub returns-clause-goes : goal.returns-clause-goes
returns-clause-goes c = λ us boxes d w.
    let fits : SFits w64 c.args.high = search rules in
    simp to_z-of_z (range_tells c.args.self.now us boxes d w c.args.high)
