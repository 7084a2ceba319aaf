use Rattle.std.proofs.Common.{◌≡◌, ◌∙◌, ap, sym, subst, true, ◌++◌, length}
use Rattle.std.specs.List.{list_all}
use Rattle.qc_model.specs.Game.{restriction}
use Rattle.qc_model.specs.Holds.{holds_on}
use Rattle.qc_model.specs.Valid.{is_constraint}
use Rattle.qc_play.specs.Play.{at_goal}
use Rattle.qc_play.specs.PlayText.{ending_line, unused_line}
use Rattle.box_laws.proofs.Readings.{rules_valid}
use Rattle.qc_play.proofs.board.Board.reach_goal.Goals as goal

pub all_hold-holds-requires-clause-rules : goal.all_hold-holds-requires-clause-rules
all_hold-holds-requires-clause-rules c =
    let g = c.args.self.now.problem.now in
    subst (λ rules. list_all (is_constraint g.variables) rules ≡ true) (sym c.restriction-rules.ensures) (rules_valid g _ c.known.ensures.constraints)

pub returns : goal.returns
returns c =
    let g = c.args.self.now.problem.now in
    let a = c.args.self.now.values.items in
    let before = c.args.self.now.text.items in
    let rules = c.restriction-rules.ensures ∙ ap (restriction g) c.scopes.ensures in
    let holds = c.all_hold-holds.ensures ∙ (ap (λ rs. list_all (λ r. holds_on r c.as_slice.result.now) rs) rules ∙ ap (λ vs. list_all (λ r. holds_on r vs) (restriction g (length g.scopes))) c.as_slice.ensures.value) in
    c.in_ok-put_goal.ensures ∙ ap (λ b. before ++ (ending_line (at_goal b) ++ unused_line (length c.args.moves.now))) holds
