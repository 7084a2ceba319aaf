use Rattle.std.proofs.Common.{List, [], ◌∷◌, ◌++◌, rules}
use Rattle.std.proofs.lemmas.Int.{to_z-of_z}
use mir.Val.{SFits}
use mir.Syntax.{w64}
use Rattle.qc_model.specs.Verdict.{Seen, seen_bound}
use Rattle.joins.specs.Joins.{StandsAt}
use Rattle.dense_nest.proofs.Shown.{part_mark}
use Rattle.dense_nest.proofs.nest.Nest.add_mark.Goals as goal

pub returns-clause-stays : goal.returns-clause-stays
returns-clause-stays c = λ us boxes d p.
    let fits : SFits w64 c.args.best = search rules in
    let stands : (xs : List Seen) → StandsAt c.args.self.now.joins c.scope-i.result.0 xs → StandsAt c.add_bound.new.self c.scope-i.result.0 (xs ++ seen_bound c.args.best ∷ []) = simp to_z-of_z at c.add_bound.ensures.stands in
    part_mark c.args.self.now us boxes d p c.add_bound.new.self c.scope-i.result.0 c.scope-i.ensures c.add_bound.ensures.others c.add_bound.ensures.same c.index-tally.result.now c.index-tally.ensures
    c.args.best c.max.result c.requires.small c.max.ensures stands
