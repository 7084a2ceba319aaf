use Rattle.lemma_ground.proofs.Stacks.{steady_pushed}
use Rattle.lemma_ground.proofs.boxes.Boxes.open_level.Goals as goal

pub invariant_of-self : goal.invariant_of-self
invariant_of-self c =
    steady_pushed c.self.inside.problem.now c.self.inside.store c.self.inside.marks.items c.push_mark.new.marks.items c.mark-mark.result c.self.invariant c.mark-mark.ensures c.push_mark.ensures
