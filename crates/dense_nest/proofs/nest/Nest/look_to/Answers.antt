use Rattle.std.proofs.Common.{refl, Some}
use Rattle.dense_ledger.specs.Ledger.{body_due, with_horizon_at}
use Rattle.dense_nest.specs.declared.place.Due.TheVariants as due_as
use Rattle.dense_nest.specs.Places.{entry_told}
use Rattle.dense_nest.specs.Telling.{game_of}
use Rattle.dense_nest.proofs.NodeFinds.{look_here}
use Rattle.dense_nest.proofs.nest.Nest.look_to.Goals as goal

pub returns-clause-goes : goal.returns-clause-goes
returns-clause-goes c = λ us boxes d h.
    let m = c.args.self.now in
    let e = c.args.e in
    let k = c.args.k in
    (refl, look_here m e k.0 (due_as.Body (record e { horizon = Some k.0 })) (body_due (with_horizon_at k (entry_told (game_of m) m.remains e))) c.requires.inside us boxes d h)
