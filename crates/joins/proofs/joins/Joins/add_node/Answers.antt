use Rattle.joins.proofs.Placed.{placed, stands_other}
use Rattle.joins.proofs.AtScope.{node_here}
use Rattle.joins.proofs.joins.Joins.add_node.Goals as goal

pub invariant_of-self-clause-joined : goal.invariant_of-self-clause-joined
invariant_of-self-clause-joined c =
    let j = c.args.self.now in
    placed j.problem.now j.joins.items c.args.i.0 c.index_mut.result.now c.add_node.new.self j.joined c.requires c.index_mut.ensures.value c.add_node.ensures.scope

pub returns-clause-stands : goal.returns-clause-stands
returns-clause-stands c =
    let j = c.args.self.now in
    λ xs t l.
    node_here j.problem.now j.joins.items c.args.i.0 c.index_mut.result.now c.add_node.new.self c.args.found c.items.result.now j.out.list.items xs j.joined c.requires c.index_mut.ensures.value c.items.ensures c.add_node.ensures.stands t l

pub returns-clause-others : goal.returns-clause-others
returns-clause-others c = λ k xs n t. stands_other c.args.self.now.joins.items c.args.i.0 c.add_node.new.self k xs n t
