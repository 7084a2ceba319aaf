use Rattle.std.proofs.Common.{[], ◌∷◌, ◌++◌}
use Rattle.qc_model.specs.Verdict.{seen_skipped}
use Rattle.joins.proofs.Placed.{placed, stands_read, stands_here, stands_other}
use Rattle.joins.proofs.joins.Joins.add_skipped.Goals as goal

pub invariant_of-self-clause-joined : goal.invariant_of-self-clause-joined
invariant_of-self-clause-joined c =
    let j = c.args.self.now in
    placed j.problem.now j.joins.items c.args.i.0 c.index_mut.result.now c.add_skipped.new.self j.joined c.requires c.index_mut.ensures.value c.add_skipped.ensures.scope

pub returns-clause-stands : goal.returns-clause-stands
returns-clause-stands c =
    let j = c.args.self.now in
    λ xs t.
    stands_here j.problem.now j.joins.items c.args.i.0 c.add_skipped.new.self (xs ++ seen_skipped ∷ []) j.joined c.requires
    (c.add_skipped.ensures.stands xs (stands_read j.problem.now j.joins.items c.args.i.0 c.index_mut.result.now xs j.joined c.requires c.index_mut.ensures.value t))

pub returns-clause-others : goal.returns-clause-others
returns-clause-others c = λ k xs n t. stands_other c.args.self.now.joins.items c.args.i.0 c.add_skipped.new.self k xs n t
