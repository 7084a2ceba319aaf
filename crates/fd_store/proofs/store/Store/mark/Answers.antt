use Rattle.std.proofs.Common.{◌∙◌, sym}
use Rattle.fd_store.proofs.Answered.{held_trail}
use Rattle.fd_store.proofs.store.Store.mark.Goals as goal

pub returns : goal.returns
returns c =
    let t = c.self.inside.table in
    c.len.ensures ∙ sym (held_trail t.words.items t.cells.items t.trail.items t.trail.spare c.args.self.now c.self.view_is)
