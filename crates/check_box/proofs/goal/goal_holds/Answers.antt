use Rattle.std.proofs.Common.{◌≡◌, sym, subst, true, length}
use Rattle.std.specs.List.{list_all}
use Rattle.qc_model.specs.Valid.{is_constraint}
use Rattle.box_laws.proofs.Readings.{rules_valid}
use Rattle.check_box.proofs.goal.goal_holds.Goals as goal

pub all_hold-requires-clause-rules : goal.all_hold-requires-clause-rules
all_hold-requires-clause-rules c =
    let g = c.args.levels.now.problem.now in
    subst (λ rules. list_all (is_constraint g.variables) rules ≡ true) (sym c.args.levels.now.has_goal) (rules_valid g (length g.scopes) c.known.ensures.constraints)
