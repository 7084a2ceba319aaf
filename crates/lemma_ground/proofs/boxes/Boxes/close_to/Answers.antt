use Rattle.std.proofs.Common.{sym, subst, List}
use Rattle.fd_store.specs.declared.store.Mark.{Mark}
use Rattle.lemma_ground.specs.Steady.{IsSteady}
use Rattle.lemma_ground.proofs.Stacks.{steady_back}
use Rattle.lemma_ground.proofs.boxes.Boxes.close_to.Goals as goal

pub undo_to-requires : goal.undo_to-requires
undo_to-requires c = (c.self.invariant.each c.args.levels _ c.mark_at-mark.ensures).at

pub invariant_of-self : goal.invariant_of-self
invariant_of-self c =
    let g = c.self.inside.problem.now in
    let s = c.self.inside.store in
    subst (λ (ms : List Mark). IsSteady g c.undo_to.new.self ms) (sym c.truncate.ensures.items)
    (steady_back g s c.undo_to.new.self c.self.inside.marks.items c.args.levels _ c.self.invariant c.mark_at-mark.ensures c.undo_to.ensures.past c.undo_to.ensures.content)
