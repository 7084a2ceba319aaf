use Rattle.std.proofs.Common.{refl}
use Rattle.qc_model.specs.Verdict.{lost}
use Rattle.joins.specs.declared.leaves.Found.TheVariants.{Lost}
use Rattle.dense_nest.specs.declared.nest.Nest.{Nest}
use Rattle.dense_nest.proofs.NodeFinds.{finds_plain, over_goes}
use Rattle.dense_nest.proofs.nest.Nest.lose.Goals as goal

pub returns-clause-goes : goal.returns-clause-goes
returns-clause-goes c =
    let m = c.args.self.now in
    let e = c.args.e in
    let m1 : Nest = record m { found = Lost } in
    over_goes c.node_over.result m m1 c.node_over.new.self e (λ us d. lost) refl refl (finds_plain m e Lost (λ us d. lost) (λ us boxes d h. (refl, tt))) c.node_over.ensures.goes
