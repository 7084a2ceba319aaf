use Rattle.std.proofs.Common.{[]}
use Rattle.joins.proofs.Placed.{placed, stands_here, stands_other}
use Rattle.joins.proofs.joins.Joins.clear.Goals as goal

pub invariant_of-self-clause-joined : goal.invariant_of-self-clause-joined
invariant_of-self-clause-joined c =
    let j = c.args.self.now in
    placed j.problem.now j.joins.items c.args.i.0 c.index_mut.result.now c.clear.new.self j.joined c.requires c.index_mut.ensures.value c.clear.ensures.scope

pub returns-clause-stands : goal.returns-clause-stands
returns-clause-stands c =
    let j = c.args.self.now in
    stands_here j.problem.now j.joins.items c.args.i.0 c.clear.new.self [] j.joined c.requires c.clear.ensures.stands

pub returns-clause-others : goal.returns-clause-others
returns-clause-others c = λ k xs n t. stands_other c.args.self.now.joins.items c.args.i.0 c.clear.new.self k xs n t
