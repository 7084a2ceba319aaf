use Rattle.fd_store.proofs.Answered.{few_places}
use Rattle.fd_store.proofs.store.Store.trail_known.Goals as goal

pub returns : goal.returns
returns c =
    let t = c.self.inside.table in
    few_places t.words.items t.cells.items t.trail.items t.trail.spare c.args.self.now c.self.invariant c.self.view_is
