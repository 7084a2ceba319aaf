use Rattle.lemma_ground.proofs.Stacks.{steady_on}
use Rattle.lemma_ground.proofs.boxes.Boxes.cut.Goals as goal

pub invariant_of-self : goal.invariant_of-self
invariant_of-self c =
    steady_on c.self.inside.problem.now c.self.inside.store c.cut_from.new.store c.self.inside.marks.items c.self.invariant c.cut_from.ensures.goes c.cut_from.ensures.full
