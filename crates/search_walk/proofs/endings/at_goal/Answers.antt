use Rattle.std.proofs.Common.{◌≡◌, ◌∙◌, sym, ap, refl, subst, true, length, arith}
use Rattle.qc_model.specs.Content.{Game}
use Rattle.qc_model.specs.Demands.{demands}
use Rattle.qc_model.specs.ForallVerdict.{goal_verdict}
use Rattle.search_box.specs.Entered.{IsEntered}
use Rattle.search_box.specs.Looking.{scope_number}
use Rattle.search_walk.specs.Here.{node_of}
use Rattle.search_walk.proofs.Here.{goal_there, lost_there}
use Rattle.search_walk.proofs.Knowing.{any_ends}
use Rattle.search_walk.proofs.OwnTrees.{numbers_at}
use Rattle.search_walk.proofs.Remains.{none_back, line_back, back_more}
use Rattle.search_walk.proofs.endings.at_goal.Goals as goal

pub returns-then-is_here-clause-told : goal.returns-then-is_here-clause-told
returns-then-is_here-clause-told c =
    let g = c.args.levels.now.problem.now in
    let a = c.args.walk.now in
    let numbers = numbers_at g c.args.number a.remains c.known.ensures c.requires.here c.known-2.ensures.declared in
    λ cuts above. lost_there (node_of cuts above g c.args.number (scope_number c.args.horizon) a) c.requires.scope c.known.ensures numbers (sym c.is_here.ensures ∙ c.if-is_here.true) c.args.walk.now.left c.args.walk.now.lines c.put.new.self c.args.walk.now.joins c.in_ok-put.ensures.put

pub returns-clause-told : goal.returns-clause-told
returns-clause-told c =
    let g = c.args.levels.now.problem.now in
    let b = c.args.walk.now.remains in
    let n = length g.scopes in
    let numbers = numbers_at g c.args.number b c.known.ensures c.requires.here c.known-2.ensures.declared in
    let holds = c.goal_holds-holds.result in
    let v = c.goal.ensures.verdict ∙ (ap (λ (f : Game). goal_verdict f holds (demands f (length f.scopes)) c.all_values-values.result.now) c.requires.joins ∙ ap (goal_verdict g holds (demands g n)) (c.all_values-values.ensures g (subst (λ k. IsEntered g k b) c.requires.scope c.requires.here))) in
    λ cuts above. goal_there (node_of cuts above g c.args.number (scope_number c.args.horizon) c.args.walk.now) c.requires.scope c.known.ensures numbers (sym c.is_here.ensures ∙ c.if-is_here.false) c.args.walk.now.left c.args.walk.now.lines c.put-2.new.self c.goal.new.self _ holds c.goal_holds-holds.ensures v c.in_ok-put-2.ensures.put

pub returns-then-is_here-clause-back : goal.returns-then-is_here-clause-back
returns-then-is_here-clause-back c =
    let g = c.args.levels.now.problem.now in
    let a = c.args.walk.now in
    line_back g c.args.number a a _ (none_back g c.args.number a) refl refl refl _ c.in_ok-put.ensures.put

pub returns-clause-back : goal.returns-clause-back
returns-clause-back c =
    let g = c.args.levels.now.problem.now in
    let a = c.args.walk.now in
    back_more g c.args.number a a _ (none_back g c.args.number a) refl c.goal.ensures.same (λ j xs h s. c.goal.ensures.all j xs s) _ c.in_ok-put-2.ensures.put (omega arith)

pub returns-then-is_here-clause-ended : goal.returns-then-is_here-clause-ended
returns-then-is_here-clause-ended c = any_ends _ _ _ _ _ _ _ _ _ _ (returns-then-is_here-clause-told c)

pub returns-clause-ended : goal.returns-clause-ended
returns-clause-ended c = any_ends _ _ _ _ _ _ _ _ _ _ (returns-clause-told c)
