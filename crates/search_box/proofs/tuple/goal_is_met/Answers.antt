use Rattle.std.proofs.Common.{◌≡◌, ◌∙◌, sym, ap, subst, true, length, take}
use Rattle.std.specs.List.{list_all}
use Rattle.qc_model.specs.Domains.{box_values, is_single}
use Rattle.qc_model.specs.Game.{allows}
use Rattle.qc_model.specs.Holds.{holds_on}
use Rattle.qc_model.specs.Valid.{is_constraint, is_number}
use Rattle.search_box.proofs.Complete.{closed_goal_holds}
use Rattle.search_box.proofs.Places.{all_read}
use Rattle.box_laws.proofs.Readings.{read_numbers, rules_valid}
use Rattle.search_box.proofs.tuple.goal_is_met.Goals as goal

pub all_hold-requires-clause-rules : goal.all_hold-requires-clause-rules
all_hold-requires-clause-rules c =
    let g = c.args.levels.now.problem.now in
    subst (λ rules. list_all (is_constraint g.variables) rules ≡ true) (sym c.args.levels.now.has_goal) (rules_valid g (length g.scopes) c.known.ensures.constraints)

pub all_hold-requires-clause-values : goal.all_hold-requires-clause-values
all_hold-requires-clause-values c =
    let g = c.args.levels.now.problem.now in
    subst (λ vs. list_all is_number vs ≡ true) (sym (all_read g c.args.values.now c.args.store.now.box c.requires.each c.requires.stand))
    (read_numbers g c.args.store.now.box (length g.variables) c.known.ensures.domains c.requires.declared c.requires.full)

pub returns-then-takes_goal : goal.returns-then-takes_goal
returns-then-takes_goal c =
    let g = c.args.levels.now.problem.now in
    sym (closed_goal_holds g c.args.store.now.box c.known.ensures c.requires.declared (sym c.requires.shown ∙ c.if-all_shown.true) (sym c.takes_goal.ensures ∙ c.if-takes_goal.true)
    (ap (λ n. list_all is_single (take n c.args.store.now.box)) c.args.levels.now.has_all ∙ c.requires.fixed) c.requires.closed)

pub returns : goal.returns
returns c =
    let g = c.args.levels.now.problem.now in
    let n = length g.scopes in
    c.all_hold.ensures
    ∙ (ap (λ rules. list_all (λ r. holds_on r c.args.values.now) rules) c.args.levels.now.has_goal
    ∙ (ap (allows g n) (all_read g c.args.values.now c.args.store.now.box c.requires.each c.requires.stand)
    ∙ ap (λ m. allows g n (box_values (take m c.args.store.now.box))) (sym c.args.levels.now.has_all)))
