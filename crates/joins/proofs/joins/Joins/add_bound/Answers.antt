use Rattle.std.proofs.Common.{[], ◌∷◌, ◌++◌}
use Rattle.std.proofs.lemmas.Int.{to_z-of_z}
use Rattle.qc_model.specs.Verdict.{seen_bound}
use Rattle.joins.proofs.Placed.{placed, stands_read, stands_here, stands_other}
use Rattle.joins.proofs.joins.Joins.add_bound.Goals as goal

pub invariant_of-self-clause-joined : goal.invariant_of-self-clause-joined
invariant_of-self-clause-joined c =
    let j = c.args.self.now in
    placed j.problem.now j.joins.items c.args.i.0 c.index_mut.result.now c.add_bound.new.self j.joined c.requires c.index_mut.ensures.value c.add_bound.ensures.scope

pub returns-clause-stands : goal.returns-clause-stands
returns-clause-stands c =
    let j = c.args.self.now in
    let fits = c.ranges.best in
    let added = simp to_z-of_z at c.add_bound.ensures.stands in
    λ xs t.
    stands_here j.problem.now j.joins.items c.args.i.0 c.add_bound.new.self (xs ++ seen_bound c.args.best ∷ []) j.joined c.requires
    (added xs (stands_read j.problem.now j.joins.items c.args.i.0 c.index_mut.result.now xs j.joined c.requires c.index_mut.ensures.value t))

pub returns-clause-others : goal.returns-clause-others
returns-clause-others c = λ k xs n t. stands_other c.args.self.now.joins.items c.args.i.0 c.add_bound.new.self k xs n t
