use Rattle.lemma_ground.proofs.Going.{goes_same}
use Rattle.lemma_ground.proofs.Stacks.{steady_on}
use Rattle.std.proofs.Common.{ap, ◌∙◌}
use Rattle.qc_model.specs.Domains.{has_empty}
use Rattle.lemma_ground.proofs.boxes.Boxes.filter.Goals as goal

pub invariant_of-self-2 : goal.invariant_of-self-2
invariant_of-self-2 c =
    let s = c.self.inside.store in
    let t = c.filtered.new.store in
    steady_on c.self.inside.problem.now s t c.self.inside.marks.items c.self.invariant (goes_same s t c.filtered.ensures.content c.filtered.ensures.past) (λ f. ap has_empty c.filtered.ensures.content ∙ f)
