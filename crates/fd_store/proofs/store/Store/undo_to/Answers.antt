use Rattle.std.proofs.Common.{◌≤◌, length, refl, sym, arith}
use Rattle.fd_store.proofs.Past.{undone, past_is}
use Rattle.fd_store.proofs.Undoing.{sound_undone}
use Rattle.fd_store.proofs.Answered.{held_trail, held_spare}
use Rattle.fd_store.proofs.store.Store.undo_to.Goals as goal

pub undo-requires-clause-at : goal.undo-requires-clause-at
undo-requires-clause-at c =
    let t = c.self.inside.table in
    omega (arith, c.requires, held_trail t.words.items t.cells.items t.trail.items t.trail.spare c.args.self.now c.self.view_is)

pub invariant_of-self : goal.invariant_of-self
invariant_of-self c =
    let t = c.self.inside.table in
    let at : c.args.mark.at ≤ length t.trail.items = omega (arith, c.requires, held_trail t.words.items t.cells.items t.trail.items t.trail.spare c.args.self.now c.self.view_is) in
    rw (c.undo.ensures.words, c.undo.ensures.cells, c.undo.ensures.trail) (sound_undone t.words.items t.cells.items t.trail.items c.args.mark.at at c.self.invariant)

pub returns-clause-past : goal.returns-clause-past
returns-clause-past c =
    let t = c.self.inside.table in
    let at : c.args.mark.at ≤ length t.trail.items = omega (arith, c.requires, held_trail t.words.items t.cells.items t.trail.items t.trail.spare c.args.self.now c.self.view_is) in
    rw (c.undo.ensures.words, c.undo.ensures.cells, c.undo.ensures.trail, ← c.self.view_is) (undone t.words.items t.cells.items t.trail.items c.args.mark.at t.trail.spare _ at)

pub returns-clause-content : goal.returns-clause-content
returns-clause-content c =
    let t = c.self.inside.table in
    let at : c.args.mark.at ≤ length t.trail.items = omega (arith, c.requires, held_trail t.words.items t.cells.items t.trail.items t.trail.spare c.args.self.now c.self.view_is) in
    rw (c.undo.ensures.words, c.undo.ensures.cells, ← c.self.view_is) (sym (past_is t.trail.items t.words.items t.cells.items c.args.mark.at at))

pub returns-clause-spare : goal.returns-clause-spare
returns-clause-spare c =
    let t = c.self.inside.table in
    let u = c.undo.new.self in
    omega (
      arith,
      c.undo.ensures.spare,
      held_trail t.words.items t.cells.items t.trail.items t.trail.spare c.args.self.now c.self.view_is,
      held_spare t.words.items t.cells.items t.trail.items t.trail.spare c.args.self.now c.self.view_is,
      held_trail u.words.items u.cells.items u.trail.items u.trail.spare _ refl,
    )
