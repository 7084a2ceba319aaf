use Rattle.std.proofs.Common.{◌≡◌, ◌∙◌, sym, ap, subst, true, ◌++◌}
use Rattle.std.specs.Prelude.{◌&&◌}
use Rattle.std.specs.List.{list_all}
use Rattle.qc_model.specs.Game.{restriction, scope_domains}
use Rattle.qc_model.specs.Holds.{holds_on}
use Rattle.qc_model.specs.Valid.{is_constraint, is_number}
use Rattle.box_laws.proofs.Readings.{rules_valid}
use Rattle.qc_play.specs.Play.{lies_in}
use Rattle.qc_play.proofs.Endings.{lies_true}
use Rattle.qc_play.proofs.Ranges.{numbers_both, lies_numbers, scope_numbers}
use Rattle.tell_moves.proofs.standing.take_tuple.Goals as goal
use Rattle.tell_moves.proofs.standing.take_tuple.Goals.{After-as_slice}

lies : (c : After-as_slice) → lies_in c.args.tuple.now (scope_domains c.args.level.now.problem.now c.args.level.now.number) ≡ true
lies c = sym c.lies_in.ensures ∙ c.if-not-lies_in.false

pub all_hold-requires-clause-rules : goal.all_hold-requires-clause-rules
all_hold-requires-clause-rules c =
    let level = c.args.level.now in
    let g = level.problem.now in
    subst (λ rules. list_all (is_constraint g.variables) rules ≡ true) (sym level.has_rules) (rules_valid g level.number c.known.ensures.constraints)

pub all_hold-requires-clause-values : goal.all_hold-requires-clause-values
all_hold-requires-clause-values c =
    let level = c.args.level.now in
    let g = level.problem.now in
    let ds = scope_domains g level.number in
    subst (λ vs. list_all is_number vs ≡ true) (sym (c.as_slice.ensures.value ∙ c.in_ok-extend_from_slice.ensures.items))
    (numbers_both c.args.values.now.items c.args.tuple.now c.requires.numbers
    (lies_numbers c.args.tuple.now ds (scope_numbers g level.number c.known.ensures) (lies_true c.args.tuple.now ds (lies (goal.at.all_hold-requires-clause-values c).After-as_slice))))

pub returns-clause-allowed : goal.returns-clause-allowed
returns-clause-allowed c =
    let level = c.args.level.now in
    let i = level.number in
    let g = level.problem.now in
    let a = c.args.values.now.items in
    let t = c.args.tuple.now in
    c.all_hold.ensures ∙ (ap (λ rules. list_all (λ r. holds_on r c.as_slice.result.now) rules) level.has_rules
    ∙ (ap (λ vs. list_all (λ r. holds_on r vs) (restriction g i)) (c.as_slice.ensures.value ∙ c.in_ok-extend_from_slice.ensures.items)
    ∙ sym (ap (λ b. b && list_all (λ r. holds_on r (a ++ t)) (restriction g i)) (lies (goal.at.returns-clause-allowed c).After-as_slice))))
